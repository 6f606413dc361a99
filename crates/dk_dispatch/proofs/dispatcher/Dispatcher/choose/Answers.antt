use Rattle.dk_dispatch.proofs.Names.{◌≡◌, ◌∙◌, arith, chosen}
use Rattle.dk_dispatch.proofs.Ticking.{at-ready, ready-levels}
use Rattle.dk_dispatch.proofs.dispatcher.Dispatcher.choose.Goals as goal

pub returns-clause-chosen : goal.returns-clause-chosen
returns-clause-chosen g c =
    at-ready _ _ _ c.self.view_is c.requires c.self.invariant (λ k past d. c.choose.result ≡ chosen k past)
    (λ stands. c.choose.ensures.told ∙ c.choice_is_the_pasts.ensures _ _ _ stands c.are_sound.ensures.families)

pub returns-clause-steps : goal.returns-clause-steps
returns-clause-steps g c =
    let few = c.choose.ensures.steps in
    let same = ready-levels _ _ _ c.self.view_is c.requires c.self.invariant in
    omega (arith, few, same)
