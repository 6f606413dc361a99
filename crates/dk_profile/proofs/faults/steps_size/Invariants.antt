use Rattle.std.proofs.Common.{◌≡◌, ◌≤◌, ◌+◌, ◌*◌, drop}
use Rattle.std.specs.Prelude.{sum_by}
use Rattle.dk_profile.specs.Steps.{step_size}
use Rattle.dk_profile.proofs.faults.steps_size.Given as goal

abbrev pub invariant-loop-step : goal.invariant-loop-step
invariant-loop-step l = record {
  sum : l.size + sum_by step_size (drop l.step-index l.steps) ≡ sum_by step_size l.steps;
  most : l.size ≤ 5 * l.step-index;
}
