use Rattle.std.proofs.Common.{◌<◌, ◌+◌, flat_map, take, drop, length, refl, arith, rules}
use Rattle.std.specs.Prelude.{IsErr, Ok}
use Rattle.dk_outside.proofs.WrittenLemmas.{first_fails, second_ends}
use Rattle.dk_window_report.proofs.Lines.{line-more, lines-around}
use Rattle.dk_overrun_spans.specs.declared.overrun.Overrun.{Overrun}
use Rattle.dk_trace_events.specs.OverrunInstants.{shown_overrun}
use Rattle.dk_trace_events.proofs.overruns.write_overruns.Goals as goal

abbrev no_overrun : Overrun
no_overrun = record { thread = record { process = 0; serial = 0 }; period = 0; start = 0; last = 0 }

pub returns-in_err-write_overrun : goal.returns-in_err-write_overrun
returns-in_err-write_overrun g c =
    let xs = c.args.overruns.now in
    let i = c.loop-place.place in
    let line = shown_overrun c.args.from c.args.to in
    let there : i < length xs = omega (arith, c.loop-place-test.true) in
    let around = lines-around line xs no_overrun i _ there refl in
    let fails : IsErr c.from_residual.result = search rules in
    let this = first_fails _ (flat_map line (drop (i + 1) xs)) _ refl
    _ _ _ c.from_residual.result fails c.in_err-write_overrun.ensures in
    second_ends (flat_map line (take i xs)) _ (flat_map line xs) around
    _ _ _ _ c.from_residual.result c.loop-place.invariant this

pub loop-place-preserved : goal.loop-place-preserved
loop-place-preserved g c =
    let xs = c.args.overruns.now in
    let i = c.loop-place.place in
    let line = shown_overrun c.args.from c.args.to in
    let there : i < length xs = omega (arith, c.loop-place-test.true) in
    second_ends (flat_map line (take i xs)) _ _ (line-more line xs no_overrun i _ there refl)
    _ _ _ _ (Ok tt) c.loop-place.invariant c.in_ok-write_overrun.ensures
