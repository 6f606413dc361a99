use Rattle.std.proofs.Common.{◌∙◌, ap, sym, subst}
use Rattle.dk_outside.specs.Written.{Writes}
use Rattle.dk_trace_events.specs.HoldSlices.{hold_text}
use Rattle.dk_trace_events.proofs.holds.write_hold.Goals as goal

pub returns-in-Some : goal.returns-in-Some
returns-in-Some g c =
    subst (Writes (g.S.Sink.seen c.args.sink.now) (g.S.Sink.seen c.write_to.new.sink) c.write_to.result)
    (c.text_of_hold.ensures ∙ ap (hold_text c.args.header.now c.args.from c.args.last c.args.mutex) (sym c.in-Some.is)) c.write_to.ensures
