-- An allotment for one process alone.
use Rattle.std.specs.Prelude.{ℕ, ◌*◌, ◌/◌, ◌<◌, ◌≤◌, ◌↔◌, ◌==◌, if◌then◌else◌, length}
use Rattle.dk_config.specs.Configuration.{Configuration}
use Rattle.dk_config.specs.Windows.{period, main_level}
use Rattle.dk_config.specs.Certification.{spare}
use Rattle.dk_slack_promise.specs.Allotted.{allotted, IsAllotted}

-- s ticks for process p in each of its windows, and nothing for any other
abbrev pub alone : ℕ → ℕ → ℕ → ℕ
alone p s q = if q == p then s else 0

-- the number is the greatest that process p alone can be allotted
pub record IsOwnSlack (c : Configuration) (p most : ℕ) : Type 0 where
  pub reached : IsAllotted c (alone p most)
  pub greatest : (s : ℕ) → IsAllotted c (alone p s) → s ≤ most

-- level j is the first whose spare these allotments pass
pub record IsFirstPassed (c : Configuration) (s : ℕ → ℕ) (j : ℕ) : Type 0 where
  pub known : j < length c.levels
  pub passed : spare c j < allotted c s j
  pub before : (i : ℕ) → i < j → allotted c s i ≤ spare c i

-- of the levels from that of p on and before this one, the spare of each holds so many ticks in each window of p where they are at most the number
abbrev pub FitsSoFar : Configuration → ℕ → ℕ → ℕ → Type 0
FitsSoFar c p level most =
    (s : ℕ) → (s ≤ most) ↔ ((j : ℕ) → main_level c p ≤ j → j < level
    → s * (period c j / period c (main_level c p)) ≤ spare c j)
