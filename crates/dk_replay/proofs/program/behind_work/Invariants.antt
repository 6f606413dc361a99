use Rattle.std.proofs.Common.{◌≡◌, ◌+◌, drop}
use Rattle.std.specs.Prelude.{sum_by}
use Rattle.dk_profile.specs.Steps.{step_size}
use Rattle.dk_replay.specs.Code.{behind_work}
use Rattle.dk_replay.proofs.program.behind_work.Given as goal

abbrev pub invariant-loop-step : goal.invariant-loop-step
invariant-loop-step l = record {
  place : l.at + behind_work (drop l.step-index l.steps) ≡ behind_work l.steps;
  sum : l.at + sum_by step_size (drop l.step-index l.steps) ≡ sum_by step_size l.steps;
}
