use Rattle.std.proofs.Common.{◌++◌, [], ap, refl}
use Rattle.dk_groups.specs.Groups.{groups}
use Rattle.dk_groups.proofs.Going.{cut_short, then_puts}
use Rattle.dk_groups.proofs.Texts.{nothing_put}
use Rattle.dk_trace_events.specs.SlackPoints.{start_point}
use Rattle.dk_trace_events.specs.Traces.{groups_text, objects_text}
use Rattle.dk_trace_events.proofs.Texts.{first_is}
use Rattle.dk_trace_events.proofs.slices.write_groups.Goals as goal

pub returns-in_err-write_start : goal.returns-in_err-write_start
returns-in_err-write_start g c = λ j readable start.
    let gs = groups c.args.reader.now.from c.args.reader.now.to j.entries in
    cut_short (groups_text j.heading gs) []
    (g.S.Sink.seen c.args.sink.now) (g.S.Sink.seen c.args.sink.now) (g.S.Sink.seen c.write_start.new.sink) _ c.from_residual.result (start_point c.args.first) (objects_text j.heading gs) c.from_residual.ensures.1
    (ap (λ o. start_point o ++ objects_text j.heading gs) (first_is j c.args.first c.args.reader.now readable start))
    (nothing_put (g.S.Sink.seen c.args.sink.now).written) refl refl c.in_err-write_start.ensures

pub returns : goal.returns
returns g c = λ j readable start.
    let gs = groups c.args.reader.now.from c.args.reader.now.to j.entries in
    then_puts (groups_text j.heading gs) (start_point c.args.first)
    (g.S.Sink.seen c.args.sink.now) (g.S.Sink.seen c.write_start.new.sink) (g.S.Sink.seen c.write_each.new.sink) _ c.write_each.result (objects_text j.heading gs)
    (ap (λ o. start_point o ++ objects_text j.heading gs) (first_is j c.args.first c.args.reader.now readable start))
    c.in_ok-write_start.ensures (c.write_each.ensures j readable start)
