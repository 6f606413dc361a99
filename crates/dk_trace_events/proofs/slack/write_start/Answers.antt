use Rattle.std.proofs.Common.{◌∙◌, ap, sym, subst}
use Rattle.dk_outside.specs.Written.{Writes}
use Rattle.dk_trace_events.specs.SlackPoints.{point_text, start_point}
use Rattle.dk_trace_events.proofs.slack.write_start.Goals as goal

pub returns-in-Some : goal.returns-in-Some
returns-in-Some g c =
    subst (Writes (g.S.Sink.seen c.args.sink.now) (g.S.Sink.seen c.write_to.new.sink) c.write_to.result)
    (c.point_of.ensures ∙ ap (point_text c.in-Some.group.start) c.none.ensures ∙ ap start_point (sym c.in-Some.is)) c.write_to.ensures
