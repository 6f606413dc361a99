use Rattle.std.proofs.Common.{◌∙◌, ap, sym, subst}
use Rattle.dk_outside.specs.Written.{Writes}
use Rattle.dk_trace_events.specs.Names.{child_name}
use Rattle.dk_trace_events.proofs.names.write_made.Goals as goal

pub returns-in-Some : goal.returns-in-Some
returns-in-Some g c =
    subst (Writes (g.S.Sink.seen c.args.sink.now) (g.S.Sink.seen c.write_to.new.sink) c.write_to.result)
    (c.child_track.ensures ∙ ap (child_name c.args.header.now) (sym c.in-Some.is ∙ c.made_by.ensures)) c.write_to.ensures
