use Rattle.dk_cycle.proofs.Names.{◌≡◌, ◌∙◌, Some, sym, subst, Cycle, IsRunSearch, with_start}
use Rattle.dk_cycle.proofs.Starts.{started}
use Rattle.dk_cycle.proofs.run.RunSearch.start_at.Goals as goal

pub returns-in-Some-clause-run : goal.returns-in-Some-clause-run
returns-in-Some-clause-run c = λ config programs tick y checked accepted is cycle early again.
    let both : Some y ≡ Some c.in-Some.cycle = sym cycle ∙ c.in-Some.is in
    let same : y ≡ c.in-Some.cycle = cc in
    subst (λ (z : Cycle). IsRunSearch config programs tick (record c.args.self.now { cycle = Some (with_start c.args.start z) })) same
    (started config programs tick c.args.self.now y c.args.start c.forever_law.ensures checked accepted is cycle early again)
