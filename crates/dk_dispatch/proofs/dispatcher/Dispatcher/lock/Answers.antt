use Rattle.dk_dispatch.proofs.Names.{◌≡◌, Option, None, arith, sym, subst, Err, IfOk, Ok, Result, Refusal, Tables, Dispatched, IsFree, Makes}
use Rattle.dk_dispatch.proofs.Calling.{answered, calling, levels, right, stands-after}
use Rattle.dk_dispatch.proofs.dispatcher.Dispatcher.lock.Goals as goal

pub lock-answer-requires : goal.lock-answer-requires
lock-answer-requires g c = λ none.
    (right c.args.id _ _ _ c.self.view_is c.requires c.self.invariant (c.locking_makes_the_recount.ensures.booked c.args.mutex _ _ _ _ _) c.are_sound.ensures.sound c.are_sound.ensures.families).may none

pub invariant_of-self : goal.invariant_of-self
invariant_of-self g c =
    stands-after c.args.id _ _ _ c.self.view_is c.requires c.self.invariant (c.locking_makes_the_recount.ensures.booked c.args.mutex _ _ _ _ _) c.are_sound.ensures.sound c.are_sound.ensures.families
    c.lock-answer.result _ _ c.note_done.ensures.past c.lock-answer.ensures.answer

pub returns-clause-answer : goal.returns-clause-answer
returns-clause-answer g c =
    answered c.args.id _ _ _ c.self.view_is c.requires c.self.invariant (c.locking_makes_the_recount.ensures.booked c.args.mutex _ _ _ _ _) c.are_sound.ensures.sound c.are_sound.ensures.families
    c.lock-answer.result _ _ c.note_done.ensures.same c.note_done.ensures.past c.lock-answer.ensures.answer

-- what follows where nothing is against the call
where-done : {T : Type 0} (P : Type 0) (answer : Result T Refusal) {result : Result T Refusal} (reason : Option Refusal) (old made new : Tables) → result ≡ answer
    → Makes answer reason old made new → (reason ≡ None → P) → IfOk result (λ _. P)
where-done P (Ok y) reason old made new same told follows = subst (λ r. IfOk r (λ _. P)) (sym same) (follows told.0)
where-done P (Err why) reason old made new same told follows = subst (λ r. IfOk r (λ _. P)) (sym same) tt

pub returns-clause-free : goal.returns-clause-free
returns-clause-free g c =
    where-done (IsFree c.args.mutex c.args.self.now.past) c.lock-answer.result _ _ _ _ c.note_done.ensures.same c.lock-answer.ensures.answer (λ met.
    subst (λ (v : Dispatched). IsFree c.args.mutex v.past) c.self.view_is
    (c.locking_makes_the_recount.ensures.free c.args.mutex c.args.id _ _ _ c.self.inside.tables (calling c.args.id _ _ _ c.self.view_is c.requires c.self.invariant) c.are_sound.ensures.sound c.are_sound.ensures.families
    met))

pub returns-clause-steps : goal.returns-clause-steps
returns-clause-steps g c =
    let few = c.lock-answer.ensures.steps in
    let same = levels c.args.id _ _ _ c.self.view_is c.requires c.self.invariant in
    omega (arith, few, same)
