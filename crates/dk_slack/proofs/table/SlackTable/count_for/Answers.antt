use Rattle.dk_slack.proofs.Names.{◌≡◌, ◌<◌, ◌≤◌, ◌+◌, ◌%◌, ◌^◌, ◌∙◌, All, length, get_or, set, refl, ap, sym, subst, arith, None, Slack, raised, counted_for, unclaimed_by}
use Rattle.dk_slack.proofs.Running.{length-unclaimed, level-counts, nobody-counts, stranger-counts, put}
use Rattle.dk_slack.proofs.Lasting.{counted-nobody, counted-stranger, lasts-on}
use Rattle.dk_slack.proofs.table.SlackTable.count_for.Goals.{in_default-via-in-Some+else-level-len, in_default-via-in_default}
use Rattle.dk_slack.proofs.table.SlackTable.count_for.Goals as goal

pub returns-in-Some : goal.returns-in-Some
returns-in-Some c =
    let t = c.self.inside in
    let k = c.args.ticks in
    let level = c.in-Some.level in
    let booked = c.args.budget_level in
    let inside : level < length t.counters.items = omega (arith, c.if-level-len.true, c.len.ensures.value) in
    let room = subst (λ (v : Slack). All (λ ticks. ticks + k < 2 ^ 32) (raised booked v.unclaimed)) (sym c.self.view_is) c.requires in
    let new = ap (λ ns. unclaimed_by t.nobodys ns t.marks.items)
    (put t.counters.items c.deref_mut.result.now level _ c.deref_mut.ensures.value
    ∙ ap (λ ns. set t.counters.items level ((get_or ns level 0 + k) % 2 ^ 32)) c.deref.ensures.0)
    ∙ level-counts k booked t.nobodys level t.counters.items t.marks.items c.in-Some.is inside room in
    rw new (ap (λ (v : Slack). record v { unclaimed = counted_for k booked v.unclaimed }) c.self.view_is)

pub returns-in_default : goal.returns-in_default
returns-in_default c =
    let t = c.self.inside in
    let k = c.args.ticks in
    let booked = c.args.budget_level in
    let room = subst (λ (v : Slack). All (λ ticks. ticks + k < 2 ^ 32) (raised booked v.unclaimed)) (sym c.self.view_is) c.requires in
    let new : unclaimed_by ((t.nobodys + k) % 2 ^ 32) t.counters.items t.marks.items ≡ counted_for k booked (unclaimed_by t.nobodys t.counters.items t.marks.items) =
    elim c.in_default.branch [
      | in_default-via-in-Some+else-level-len w ↦
          stranger-counts k booked t.nobodys w.in-Some.level t.counters.items t.marks.items w.in-Some.is
          (omega (arith, w.if-level-len.false, w.len.ensures.value))
          (omega (arith, c.self.invariant.1.counted, c.self.invariant.1.marked)) room
      | in_default-via-in_default w ↦ nobody-counts k booked t.nobodys t.counters.items t.marks.items w.in_default.is room
    ] in
    rw new (ap (λ (v : Slack). record v { unclaimed = counted_for k booked v.unclaimed }) c.self.view_is)

pub invariant_of-self-in_default : goal.invariant_of-self-in_default
invariant_of-self-in_default c =
    let t = c.self.inside in
    let k = c.args.ticks in
    let booked = c.args.budget_level in
    let us = unclaimed_by t.nobodys t.counters.items t.marks.items in
    let room = subst (λ (v : Slack). All (λ ticks. ticks + k < 2 ^ 32) (raised booked v.unclaimed)) (sym c.self.view_is) c.requires in
    let same : length t.counters.items ≡ length t.marks.items = omega (arith, c.self.invariant.1.counted, c.self.invariant.1.marked) in
    let new : unclaimed_by ((t.nobodys + k) % 2 ^ 32) t.counters.items t.marks.items ≡ counted_for k None us =
    elim c.in_default.branch [
      | in_default-via-in-Some+else-level-len w ↦
          let beyond : length t.counters.items ≤ w.in-Some.level = omega (arith, w.if-level-len.false, w.len.ensures.value) in
          stranger-counts k booked t.nobodys w.in-Some.level t.counters.items t.marks.items w.in-Some.is beyond same room
          ∙ counted-stranger k w.in-Some.level booked us w.in-Some.is (omega (arith, beyond, length-unclaimed t.nobodys t.counters.items t.marks.items same))
      | in_default-via-in_default w ↦ nobody-counts k booked t.nobodys t.counters.items t.marks.items w.in_default.is room ∙ counted-nobody k booked us w.in_default.is
    ] in
    (c.self.invariant.0, c.self.invariant.1, lasts-on k t.lasting _ us _ t.spares.items c.self.invariant.2 new c.saturating_sub-self-inside.ensures refl)
