use Rattle.std.specs.Prelude.{flat_map, take, Ok}
use Rattle.dk_outside.specs.Written.{Writes}
use Rattle.dk_outside.specs.declared.sink.SinkError.{SinkError}
use Rattle.dk_trace_events.specs.OverrunInstants.{shown_overrun}
use Rattle.dk_trace_events.proofs.overruns.write_overruns.Given as goal

-- the windows so far are written
abbrev pub invariant-loop-place : goal.invariant-loop-place
invariant-loop-place g l =
    Writes {A = Unit {0}} {E = SinkError} (g.S.Sink.seen l.initial.sink) (g.S.Sink.seen l.sink) (Ok tt)
    (flat_map (shown_overrun l.from l.to) (take l.place l.overruns))
