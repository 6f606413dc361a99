use Rattle.dk_dispatch.proofs.Names.{◌≡◌, None, arith, subst, holder_at, IsComputing, kernel_left, IsSound, Tables}
use Rattle.dk_dispatch.proofs.Looking.{first-works}
use Rattle.dk_dispatch.proofs.tables.AllTables.first_work.Goals as goal

pub returns-then-quiet-first-2-clause-told : goal.returns-then-quiet-first-2-clause-told
returns-then-quiet-first-2-clause-told g c =
    first-works c.args.self.now c.in-Some.first
    (subst (λ (d : Tables). IsComputing d.jobs c.in-Some.first) c.self.view_is c.in-Some.ensures)
    (λ k low. subst (λ (d : Tables). kernel_left d k ≡ 0) c.self.view_is (c.quiet.ensures.quiet k (omega (arith, low, c.if-quiet-first.true))))
    (λ k low. subst (λ (d : Tables). holder_at k d.mutexes ≡ None) c.self.view_is (c.quiet-then-quiet-first.ensures k (omega (arith, low, c.if-quiet-first-2.true))))
    (subst IsSound c.self.view_is c.self.invariant)
