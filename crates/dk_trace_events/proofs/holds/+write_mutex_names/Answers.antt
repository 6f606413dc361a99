use Rattle.std.proofs.Common.{◌≡◌, ◌<◌, rules, arith}
use Rattle.std.specs.Prelude.{IsErr}
use Rattle.dk_groups.proofs.Below.{below_fails, last_ends, none_written}
use Rattle.dk_trace_events.specs.HoldSlices.{mutex_name}
use Rattle.dk_trace_events.proofs.holds.+write_mutex_names.Goals as goal

pub returns-in_err-write_mutex_names : goal.returns-in_err-write_mutex_names
returns-in_err-write_mutex_names g t c =
    let some : 0 < c.args.below = omega arith in
    let fails : IsErr c.from_residual.result = search rules in
    below_fails mutex_name c.args.below some _ _ _ c.from_residual.result fails c.in_err-write_mutex_names.ensures

pub returns : goal.returns
returns g t c =
    let some : 0 < c.args.below = omega arith in
    last_ends mutex_name c.args.below some c.name_of.result c.name_of.ensures _ _ _ _ c.write_to.result c.in_ok-write_mutex_names.ensures c.write_to.ensures

pub returns-then-below-eq0 : goal.returns-then-below-eq0
returns-then-below-eq0 g t c =
    let is : c.args.below ≡ 0 = omega arith in
    none_written mutex_name c.args.below (g.S.Sink.seen c.args.sink.now) _ is
