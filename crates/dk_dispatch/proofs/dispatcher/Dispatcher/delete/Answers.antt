use Rattle.dk_dispatch.proofs.Names.{◌≡◌, ◌∙◌, false, ap, arith, sym, subst, option_map_or, Event, is_same, same-self, IsBooked, Keeps, Tables, slots, child_of, without_child, call_entry, call_label, Dispatched, seen}
use Rattle.dk_dispatch.proofs.Calling.{answered-by, calling, levels, stands-by}
use Rattle.dk_dispatch.proofs.StopCalling.{running-is, deleted-is, deletes-child}
use Rattle.dk_dispatch.proofs.Stops.{delete-keeps}
use Rattle.dk_dispatch.proofs.dispatcher.Dispatcher.delete.Goals as goal

pub delete-answer-requires : goal.delete-answer-requires
delete-answer-requires g c = λ row is.
    let d = c.self.inside.tables in
    let called = calling c.args.id _ _ _ c.self.view_is c.requires c.self.invariant in
    let r = running-is d.threads (child_of c.args.id c.args.serial) row is in
    c.stopping_a_child_is_booked.ensures.may _ _ _ d row c.are_sound.ensures.sound c.are_sound.ensures.families called.charged r.found r.is-child r.runs

pub invariant_of-self : goal.invariant_of-self
invariant_of-self g c =
    let d = c.self.inside.tables in
    let p = c.self.inside.history.past in
    let x = c.args.id in
    let n = c.args.serial in
    let called = calling x p d _ c.self.view_is c.requires c.self.invariant in
    stands-by x p d _ c.self.view_is c.requires c.self.invariant (Event.Delete n) _ _
    (λ none follows.
    let is = deleted-is d.threads x n none in
    let r = running-is d.threads (child_of x n) is.row is.running in
    let own = ap (λ o. option_map_or (is_same x) o false) called.caller ∙ same-self x in
    subst (IsBooked p.config (call_entry p (Event.Delete n)) p.entries) (sym (ap (λ o. option_map_or (λ row. without_child row d) o d) is.running))
    (c.stopping_a_child_is_booked.ensures.stands p.config (call_entry p (Event.Delete n)) p.entries d is.row c.are_sound.ensures.sound c.are_sound.ensures.families called.charged follows
    (deletes-child (call_label p) x n is.row own is.main r.id r.is-child) r.found r.runs))
    c.delete-answer.result _ _ c.note_done.ensures.past c.delete-answer.ensures.told

pub returns-clause-answer : goal.returns-clause-answer
returns-clause-answer g c =
    answered-by c.args.id _ _ _ c.self.view_is c.requires c.self.invariant (Event.Delete c.args.serial) _ _
    (c.deletes_are_refused_by_the_rows.ensures c.args.id _ _ _ c.self.inside.tables c.args.serial (calling c.args.id _ _ _ c.self.view_is c.requires c.self.invariant))
    c.delete-answer.result _ _ c.note_done.ensures.same c.note_done.ensures.past c.delete-answer.ensures.told

pub returns-clause-rows : goal.returns-clause-rows
returns-clause-rows g c =
    subst (λ (w : Dispatched). Keeps (seen w) (slots c.delete-answer.new.self)) c.self.view_is
    (delete-keeps c.args.id c.args.serial c.self.inside.tables c.delete-answer.new.self c.are_sound.ensures.families c.delete-answer.result c.delete-answer.ensures.told)

pub returns-clause-steps : goal.returns-clause-steps
returns-clause-steps g c =
    let few = c.delete-answer.ensures.steps in
    let same = levels c.args.id _ _ _ c.self.view_is c.requires c.self.invariant in
    omega (arith, few, same)
