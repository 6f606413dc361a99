use Rattle.std.specs.Prelude.{Ok, ◌+◌, ◌-◌, ◌/◌, ◌≤◌, flat_map, max}
use Rattle.dk_config.specs.Sums.{numbers}
use Rattle.dk_outside.specs.declared.sink.SinkError.{SinkError}
use Rattle.dk_outside.specs.Written.{Writes}
use Rattle.dk_trace_events.specs.LevelWindows.{shown_window}
use Rattle.dk_trace_events.proofs.windows.write_windows.Given as goal

-- the windows so far are written
abbrev pub invariant-loop-window : goal.invariant-loop-window
invariant-loop-window g l = record {
  within : l.window ≤ max (l.from / l.period) (l.to / l.period + 1);
  written : Writes {A = Unit {0}} {E = SinkError} (g.S.Sink.seen l.initial.sink) (g.S.Sink.seen l.sink) (Ok tt)
      (flat_map (shown_window l.from l.to l.level l.period) (numbers (l.from / l.period) (l.window - l.from / l.period)));
}
