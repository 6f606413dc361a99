use Rattle.dk_threads.proofs.Names.{sym, subst, AreFamilies, family_ended}
use Rattle.dk_threads.proofs.Families.{AreFamilies-map, IsFamily-ended}
use Rattle.dk_threads.proofs.threads.Threads.end_due.Goals as goal

pub invariant_of-self : goal.invariant_of-self
invariant_of-self c =
    subst (AreFamilies c.self.inside.levels) (sym c.end_all.ensures)
    (AreFamilies-map c.self.inside.levels c.self.inside.families.items (family_ended c.args.now) c.self.invariant
    (λ family is. IsFamily-ended c.args.now c.self.inside.levels family is))
