use Rattle.std.proofs.Common.{ℕ, ◌<◌, ◌≤◌}
use Rattle.dk_config.specs.Certification.{spare}
use Rattle.dk_slack_promise.specs.Allotted.{allotted}
use Rattle.dk_allotment.specs.Given.{given}
use Rattle.dk_allotment.proofs.given.overdrawn_level.Given as goal

-- the levels before this one have room
abbrev pub invariant-loop-level : goal.invariant-loop-level
invariant-loop-level l = (j : ℕ) → j < l.level → allotted l.config (given l.allotments) j ≤ spare l.config j
