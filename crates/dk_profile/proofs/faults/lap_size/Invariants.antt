use Rattle.std.proofs.Common.{◌≡◌, ◌≤◌, ◌+◌, ◌*◌, drop}
use Rattle.dk_profile.specs.Steps.{lap_size}
use Rattle.dk_profile.proofs.faults.lap_size.Given as goal

abbrev pub invariant-loop-step : goal.invariant-loop-step
invariant-loop-step l = record {
  sum : l.size + lap_size (drop l.step-index l.steps) ≡ lap_size l.steps;
  most : l.size ≤ 5 * l.step-index;
}
