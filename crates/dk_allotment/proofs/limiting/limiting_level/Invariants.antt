use Rattle.std.proofs.Common.{ℕ, ◌+◌, ◌*◌, ◌/◌, ◌<◌, ◌≤◌}
use Rattle.dk_config.specs.Certification.{spare}
use Rattle.dk_config.specs.Windows.{main_level, period}
use Rattle.dk_allotment.proofs.limiting.limiting_level.Given as goal

-- the levels from its own on and before this one hold one tick more
abbrev pub invariant-loop-level : goal.invariant-loop-level
invariant-loop-level l =
    ((j : ℕ) → main_level l.config l.process ≤ j → j < l.level
    → (l.most + 1) * (period l.config j / period l.config (main_level l.config l.process)) ≤ spare l.config j)
