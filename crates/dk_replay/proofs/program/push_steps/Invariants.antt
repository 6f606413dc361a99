use Rattle.std.proofs.Common.{◌≡◌, ◌+◌, ◌++◌, drop}
use Rattle.std.specs.Prelude.{sum_by}
use Rattle.dk_profile.specs.Steps.{step_size}
use Rattle.dk_replay.specs.Code.{steps_bytes}
use Rattle.dk_replay.proofs.program.push_steps.Given as goal

abbrev pub invariant-loop-step : goal.invariant-loop-step
invariant-loop-step l = record {
  bytes : l.code.items ++ steps_bytes l.at (drop l.step-index l.steps) ≡ l.initial.code.items ++ steps_bytes 0 l.steps;
  sum : l.at + sum_by step_size (drop l.step-index l.steps) ≡ sum_by step_size l.steps;
}
