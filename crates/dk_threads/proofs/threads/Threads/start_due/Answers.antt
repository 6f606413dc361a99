use Rattle.dk_threads.proofs.Names.{sym, subst, AreFamilies, family_started}
use Rattle.dk_threads.proofs.Families.{AreFamilies-map, IsFamily-started}
use Rattle.dk_threads.proofs.threads.Threads.start_due.Goals as goal

pub invariant_of-self : goal.invariant_of-self
invariant_of-self c =
    subst (AreFamilies c.self.inside.levels) (sym c.start_all.ensures)
    (AreFamilies-map c.self.inside.levels c.self.inside.families.items (family_started c.args.now) c.self.invariant
    (λ family is. IsFamily-started c.args.now c.self.inside.levels family is))
