use Rattle.std.proofs.Common.{◌≡◌, ◌+◌, ◌++◌, drop}
use Rattle.dk_profile.specs.Steps.{lap_size}
use Rattle.dk_replay.specs.Code.{lap_bytes}
use Rattle.dk_replay.proofs.program.push_lap.Given as goal

abbrev pub invariant-loop-step : goal.invariant-loop-step
invariant-loop-step l = record {
  bytes : l.code.items ++ lap_bytes l.at l.back (drop l.step-index l.steps) ≡ l.initial.code.items ++ lap_bytes l.first l.back l.steps;
  sum : l.at + lap_size (drop l.step-index l.steps) ≡ l.first + lap_size l.steps;
}
