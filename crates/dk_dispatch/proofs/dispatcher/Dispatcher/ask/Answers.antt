use Rattle.dk_dispatch.proofs.Calling.{answered, right, stands-after}
use Rattle.dk_dispatch.proofs.dispatcher.Dispatcher.ask.Goals as goal

pub ask-answer-requires : goal.ask-answer-requires
ask-answer-requires g c = λ none.
    (right c.args.id _ _ _ c.self.view_is c.requires c.self.invariant (c.asking_makes_the_recount.ensures c.args.amount _ _ _ _ _) c.are_sound.ensures.sound c.are_sound.ensures.families).may none

pub invariant_of-self : goal.invariant_of-self
invariant_of-self g c =
    stands-after c.args.id _ _ _ c.self.view_is c.requires c.self.invariant (c.asking_makes_the_recount.ensures c.args.amount _ _ _ _ _) c.are_sound.ensures.sound c.are_sound.ensures.families
    c.ask-answer.result _ _ c.note_done.ensures.past c.ask-answer.ensures.answer

pub returns-clause-answer : goal.returns-clause-answer
returns-clause-answer g c =
    answered c.args.id _ _ _ c.self.view_is c.requires c.self.invariant (c.asking_makes_the_recount.ensures c.args.amount _ _ _ _ _) c.are_sound.ensures.sound c.are_sound.ensures.families
    c.ask-answer.result _ _ c.note_done.ensures.same c.note_done.ensures.past c.ask-answer.ensures.answer
