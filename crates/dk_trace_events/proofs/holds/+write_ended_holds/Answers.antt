use Rattle.std.proofs.Common.{ℕ, List, ◌≡◌, ◌<◌, ◌+◌, ◌-◌, ap, rules, arith}
use Rattle.std.specs.Prelude.{IsErr}
use Rattle.dk_trace.specs.declared.Entry.{Entry}
use Rattle.dk_ledger.specs.declared.line.LedgerLine.{LedgerLine}
use Rattle.dk_ledger.specs.Heading.{Heading}
use Rattle.dk_groups.proofs.Below.{below_fails, last_ends, none_written}
use Rattle.dk_holds.specs.Holds.{ended, holding, last_entry}
use Rattle.dk_trace_events.specs.HoldSlices.{hold_text}
use Rattle.dk_trace_events.proofs.Mutexes.{ended_known}
use Rattle.dk_trace_events.proofs.holds.+write_ended_holds.Goals as goal

abbrev text : Heading → ℕ → List Entry → LedgerLine → ℕ → List ℕ
text h from past l m = hold_text h from (l.start + l.count) m (ended m (last_entry l) (holding m past))

pub write_hold-requires-clause-named : goal.write_hold-requires-clause-named
write_hold-requires-clause-named g t c =
    let known = c.requires.known in
    ended_known c.args.header.now (c.args.below - 1) c.args.line.now known.0 c.ended.result (c.ended.ensures known.0 known.1)
    (c.held_since_its_lock.ensures.held (c.args.below - 1) known.0) known.2

pub returns-in_err-write_ended_holds : goal.returns-in_err-write_ended_holds
returns-in_err-write_ended_holds g t c = λ past holders.
    let some : 0 < c.args.below = omega arith in
    let fails : IsErr c.from_residual.result = search rules in
    below_fails (text c.args.header.now c.args.from past c.args.line.now) c.args.below some _ _ _ c.from_residual.result fails (c.in_err-write_ended_holds.ensures past holders)

pub returns : goal.returns
returns g t c = λ past holders.
    let n = c.args.below in
    let h = c.args.header.now in
    let l = c.args.line.now in
    let some : 0 < n = omega arith in
    last_ends (text c.args.header.now c.args.from past c.args.line.now) n some (hold_text h c.args.from (l.start + l.count) (n - 1) c.ended.result) (ap (hold_text h c.args.from (l.start + l.count) (n - 1)) (c.ended.ensures past holders))
    _ _ _ _ c.write_hold.result (c.in_ok-write_ended_holds.ensures past holders) c.write_hold.ensures

pub returns-then-below-eq0 : goal.returns-then-below-eq0
returns-then-below-eq0 g t c = λ past holders.
    let is : c.args.below ≡ 0 = omega arith in
    none_written (text c.args.header.now c.args.from past c.args.line.now) c.args.below (g.S.Sink.seen c.args.sink.now) _ is
