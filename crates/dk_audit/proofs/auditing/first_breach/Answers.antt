-- Entry by entry.
use Rattle.dk_audit.proofs.Names.{◌<◌, ap, length, refl, arith, subst, sym, MAX_TICKS, Audited, Past, past_of}
use Rattle.dk_audit.proofs.Pasts.{past-length, past-whole}
use Rattle.dk_audit.proofs.Ticks.{breach-found, breach-judged, next-ready, none-judged}
use Rattle.dk_audit.proofs.auditing.first_breach.Goals as goal

pub loop-tick-init : goal.loop-tick-init
loop-tick-init g c = record { is = c.requires.start; audited = tt }

pub judge-requires-clause-ready : goal.judge-requires-clause-ready
judge-requires-clause-ready g c = ap (λ (q : Past). q.tick) c.loop-tick.invariant.is

pub judge-requires-clause-room : goal.judge-requires-clause-room
judge-requires-clause-room g c =
    let within = c.loop-tick-test.true in
    let room = c.requires.room in
    let long = past-length c.args.entries.now c.loop-tick.tick (omega (arith, within)) in
    subst (λ n. n < MAX_TICKS) (sym (ap (λ (q : Past). length q.entries) c.loop-tick.invariant.is)) (omega (arith, within, room, long))

pub returns-in-Some : goal.returns-in-Some
returns-in-Some g c =
    breach-found c.args.config.now c.args.entries.now c.loop-tick.tick _ c.in-Some.breach c.found_at.result c.judge.new.tables.past
    c.found_at.ensures c.loop-tick-test.true c.loop-tick.invariant.audited
    (breach-judged c.args.config.now _ _ c.loop-tick.tables c.judge.new.tables c.in-Some.breach c.loop-tick.invariant c.in-Some.ensures)

pub loop-tick-preserved : goal.loop-tick-preserved
loop-tick-preserved g c =
    next-ready c.args.config.now c.args.entries.now c.loop-tick.tick _ c.judge.new.tables c.loop-tick-test.true
    (none-judged c.args.config.now (past_of c.args.entries.now c.loop-tick.tick) _ c.loop-tick.tables c.judge.new.tables c.judge.result c.in_default.not-Some c.loop-tick.invariant c.judge.ensures)

pub returns : goal.returns
returns g c = record {
  all = refl;
  rules = subst (Audited c.args.config.now) (past-whole c.args.entries.now c.loop-tick.tick c.loop-tick-test.false) c.loop-tick.invariant.audited;
}
