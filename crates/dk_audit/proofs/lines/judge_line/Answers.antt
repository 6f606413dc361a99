use Rattle.dk_audit.proofs.Names.{◌≡◌, ◌∙◌, ◌+◌, ◌-◌, ◌<◌, ◌++◌, Some, None, ap, arith, length, subst, sym, length-reverse, MAX_TICKS, Past, entries_of, Breach, FollowsSoFar, whole_past}
use Rattle.dk_audit.proofs.Ticks.{breach-judged, none-judged}
use Rattle.dk_audit.proofs.Groups.{breach_at, ready_after, judged_so_far, judged_length, quiet_next, quiet_more, last_next}
use Rattle.dk_audit.proofs.lines.judge_line.Goals as goal

pub judge-requires-clause-ready : goal.judge-requires-clause-ready
judge-requires-clause-ready g c =
    let r = c.requires in
    ap (λ (q : Past). q.tick) (c.loop-tick.invariant r.config r.entries r.start r.stands).is

pub judge-requires-clause-room : goal.judge-requires-clause-room
judge-requires-clause-room g c =
    let r = c.requires in
    let tick = c.loop-tick.tick in
    let long = judged_length r.entries c.args.line tick r.start c.loop-tick.auto.tick in
    let same = length-reverse (judged_so_far r.entries c.args.line tick) in
    let short = r.short in
    let within = c.loop-tick-test.true in
    subst (λ n. n < MAX_TICKS) (sym (ap (λ (q : Past). length q.entries) (c.loop-tick.invariant r.config r.entries r.start r.stands).is))
    (omega (arith, long, same, short, within))

pub judge-requires-2-clause-ready : goal.judge-requires-2-clause-ready
judge-requires-2-clause-ready g c =
    let r = c.requires in
    ap (λ (q : Past). q.tick) (c.loop-tick.invariant r.config r.entries r.start r.stands).is

pub judge-requires-2-clause-room : goal.judge-requires-2-clause-room
judge-requires-2-clause-room g c =
    let r = c.requires in
    let tick = c.loop-tick.tick in
    let long = judged_length r.entries c.args.line tick r.start c.loop-tick.auto.tick in
    let same = length-reverse (judged_so_far r.entries c.args.line tick) in
    let short = r.short in
    let some = r.count in
    let most = c.loop-tick.auto.tick-end in
    subst (λ n. n < MAX_TICKS) (sym (ap (λ (q : Past). length q.entries) (c.loop-tick.invariant r.config r.entries r.start r.stands).is))
    (omega (arith, long, same, short, some, most))

pub returns-in-Some : goal.returns-in-Some
returns-in-Some g c = λ k es start stands.
    let tick = c.loop-tick.tick in
    let from = c.loop-tick.auto.tick in
    let sofar = judged_so_far es c.args.line tick in
    let ready = c.loop-tick.invariant k es start stands in
    let next = quiet_next es c.args.line tick from c.loop-tick-test.true in
    breach_at k sofar _ next.0 _ c.in-Some.breach tick c.found_at.result c.judge.new.tables.past c.judge.new.tables next.1
    (judged_length es c.args.line tick start from) c.found_at.ensures ready.audited (breach-judged k (whole_past sofar) _ c.loop-tick.tables c.judge.new.tables c.in-Some.breach ready c.in-Some.ensures)

pub loop-tick-preserved : goal.loop-tick-preserved
loop-tick-preserved g c = λ k es start stands.
    let tick = c.loop-tick.tick in
    let from = c.loop-tick.auto.tick in
    let sofar = judged_so_far es c.args.line tick in
    let ready = c.loop-tick.invariant k es start stands in
    ready_after k sofar _ _ c.judge.new.tables (quiet_more es c.args.line tick from)
    (none-judged k (whole_past sofar) _ c.loop-tick.tables c.judge.new.tables c.judge.result c.in_default.not-Some ready c.judge.ensures)

pub returns : goal.returns
returns g c = λ k es start stands.
    let tick = c.loop-tick.tick in
    let from = c.loop-tick.auto.tick in
    let most = c.loop-tick.auto.tick-end in
    let over = c.loop-tick-test.false in
    let all : tick ≡ c.args.line.start + (c.args.line.count - 1) = omega (arith, from, most, over) in
    let sofar = judged_so_far es c.args.line tick in
    let ready = c.loop-tick.invariant k es start stands in
    breach_at k sofar _ _ _ c.in_ok-breach.breach (c.args.line.start + (c.args.line.count - 1)) c.found_at-2.result c.judge-2.new.tables.past c.judge-2.new.tables (last_next es c.args.line tick all)
    (sym all ∙ judged_length es c.args.line tick start from) (c.found_at-2.ensures) ready.audited (breach-judged k (whole_past sofar) _ c.loop-tick.tables c.judge-2.new.tables c.in_ok-breach.breach ready c.in_ok-breach.ensures)

pub returns-in_err-breach : goal.returns-in_err-breach
returns-in_err-breach g c = λ k es start stands.
    let tick = c.loop-tick.tick in
    let from = c.loop-tick.auto.tick in
    let most = c.loop-tick.auto.tick-end in
    let over = c.loop-tick-test.false in
    let all : tick ≡ c.args.line.start + (c.args.line.count - 1) = omega (arith, from, most, over) in
    let was : c.judge-2.result ≡ None = c.in_err-breach.was in
    let none : (b : Breach) → c.judge-2.result ≡ Some b → ⊥ = λ b is. absurd (cc) in
    subst (λ o. FollowsSoFar k (es ++ entries_of c.args.line) o c.judge-2.new.tables) (sym c.from_residual.ensures)
    (ready_after k (judged_so_far es c.args.line tick) _ (es ++ entries_of c.args.line) c.judge-2.new.tables (last_next es c.args.line tick all)
    (none-judged k (whole_past (judged_so_far es c.args.line tick)) _ c.loop-tick.tables c.judge-2.new.tables c.judge-2.result none (c.loop-tick.invariant k es start stands) c.judge-2.ensures))
