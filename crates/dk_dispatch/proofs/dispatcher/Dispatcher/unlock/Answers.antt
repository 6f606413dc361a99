use Rattle.dk_dispatch.proofs.Names.{arith}
use Rattle.dk_dispatch.proofs.Calling.{answered, levels, right, stands-after}
use Rattle.dk_dispatch.proofs.dispatcher.Dispatcher.unlock.Goals as goal

pub unlock-answer-requires : goal.unlock-answer-requires
unlock-answer-requires g c = λ none.
    (right c.args.id _ _ _ c.self.view_is c.requires c.self.invariant (c.unlocking_makes_the_recount.ensures c.args.mutex _ _ _ _ _) c.are_sound.ensures.sound c.are_sound.ensures.families).may none

pub invariant_of-self : goal.invariant_of-self
invariant_of-self g c =
    stands-after c.args.id _ _ _ c.self.view_is c.requires c.self.invariant (c.unlocking_makes_the_recount.ensures c.args.mutex _ _ _ _ _) c.are_sound.ensures.sound c.are_sound.ensures.families
    c.unlock-answer.result _ _ c.note_done.ensures.past c.unlock-answer.ensures.answer

pub returns-clause-answer : goal.returns-clause-answer
returns-clause-answer g c =
    answered c.args.id _ _ _ c.self.view_is c.requires c.self.invariant (c.unlocking_makes_the_recount.ensures c.args.mutex _ _ _ _ _) c.are_sound.ensures.sound c.are_sound.ensures.families
    c.unlock-answer.result _ _ c.note_done.ensures.same c.note_done.ensures.past c.unlock-answer.ensures.answer

pub returns-clause-steps : goal.returns-clause-steps
returns-clause-steps g c =
    let few = c.unlock-answer.ensures.steps in
    let same = levels c.args.id _ _ _ c.self.view_is c.requires c.self.invariant in
    omega (arith, few, same)
