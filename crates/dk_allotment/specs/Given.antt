-- Allotments that are given as a list, a number for each process.
use Rattle.std.specs.Prelude.{ℕ, ◌≡◌, ◌*◌, ◌/◌, ◌^◌, ◌<◌, ◌≤◌, nat_le, if◌then◌else◌, List, length, slice_index_or, Option, Some, None}
use Rattle.dk_config.specs.Configuration.{Configuration}
use Rattle.dk_config.specs.declared.TheConstants.{MAX_SPAN}
use Rattle.dk_config.specs.Sums.{sum_from}
use Rattle.dk_config.specs.Windows.{period, main_level}
use Rattle.dk_config.specs.Certification.{spare}
use Rattle.dk_slack_promise.specs.Allotted.{allotted, IsAllotted}

abbrev pub given : List ℕ → ℕ → ℕ
given xs q = slice_index_or xs q 0

-- what process q is allotted in a window of level j
abbrev pub part : Configuration → List ℕ → ℕ → ℕ → ℕ
part c xs j q = if nat_le (main_level c q) j then given xs q * (period c j / period c (main_level c q)) else 0

-- no part is more than this
abbrev pub most_part : ℕ
most_part = 2 ^ 32 * MAX_SPAN

-- the numbers of the processes before this one, none more than most, added up
pub record SumSoFar (number : ℕ → ℕ) (most process sum : ℕ) : Type 0 where
  pub so_far : sum ≡ sum_from 0 process number
  pub bounded : sum ≤ process * most

-- the answer is the first level whose spare the allotments pass, if there is one
abbrev pub IsOverdrawn : Configuration → List ℕ → Option ℕ → Type 0
IsOverdrawn c xs None = IsAllotted c (given xs)
IsOverdrawn c xs (Some level) =
    (level < length c.levels) × (spare c level < allotted c (given xs) level)
    × ((j : ℕ) → j < level → allotted c (given xs) j ≤ spare c j)
