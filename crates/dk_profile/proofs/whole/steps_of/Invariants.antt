use Rattle.std.proofs.Common.{◌≡◌, ◌≤◌, ◌++◌, drop, length}
use Rattle.dk_profile.specs.Steps.{steps_of}
use Rattle.dk_profile.proofs.whole.steps_of.Given as goal

abbrev pub invariant-loop-placed : goal.invariant-loop-placed
invariant-loop-placed l = record {
  said : l.steps.items ++ steps_of (drop l.placed-index l.readings) ≡ steps_of l.readings;
  few : length l.steps.items ≤ l.placed-index;
}
