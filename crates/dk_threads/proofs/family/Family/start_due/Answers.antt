use Rattle.dk_threads.proofs.Names.{List, ◌∙◌, ap, sym, ThreadRow}
use Rattle.dk_threads.proofs.Due.{none-starts}
use Rattle.dk_threads.proofs.family.Family.start_due.Goals as goal

pub returns-else-starts_at : goal.returns-else-starts_at
returns-else-starts_at c =
    let none = none-starts c.args.now c.args.self.now.children (sym c.starts_at.ensures ∙ c.if-starts_at.false) in
    ap (λ (rows : List ThreadRow). record c.args.self.now { children = rows }) (sym none)
