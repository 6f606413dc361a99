use Rattle.dk_threads.proofs.Names.{List, ◌∙◌, ap, sym, ThreadRow}
use Rattle.dk_threads.proofs.Due.{none-ends}
use Rattle.dk_threads.proofs.family.Family.end_due.Goals as goal

pub returns-else-ends_at : goal.returns-else-ends_at
returns-else-ends_at c =
    let none = none-ends c.args.now c.args.self.now.children (sym c.ends_at.ensures ∙ c.if-ends_at.false) in
    ap (λ (rows : List ThreadRow). record c.args.self.now { children = rows }) (sym none)
