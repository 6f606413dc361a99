use Rattle.dk_dispatch.proofs.Names.{◌≡◌, ◌∙◌, arith, denied}
use Rattle.dk_dispatch.proofs.Ticking.{at-ready, ready-levels}
use Rattle.dk_dispatch.proofs.dispatcher.Dispatcher.denial.Goals as goal

pub returns-clause-denied : goal.returns-clause-denied
returns-clause-denied g c =
    at-ready _ _ _ c.self.view_is c.requires c.self.invariant (λ k past d. c.denial.result ≡ denied k past)
    (λ stands. c.denial.ensures.told ∙ c.denial_is_the_pasts.ensures _ _ _ stands c.are_sound.ensures.families)

pub returns-clause-steps : goal.returns-clause-steps
returns-clause-steps g c =
    let few = c.denial.ensures.steps in
    let same = ready-levels _ _ _ c.self.view_is c.requires c.self.invariant in
    omega (arith, few, same)
