-- What one process can be allotted beside what the others are.
use Rattle.std.specs.Prelude.{ℕ, ◌≡◌, ◌+◌, ◌*◌, ◌^◌, ◌<◌, ◌≤◌, ◌↔◌, ◌==◌, nat_le, if◌then◌else◌, List, length, Option, Some, None}
use Rattle.dk_config.specs.Configuration.{Configuration}
use Rattle.dk_config.specs.declared.TheConstants.{MAX_SPAN}
use Rattle.dk_config.specs.Ahead.{windows_begun}
use Rattle.dk_config.specs.Windows.{period, main_level}
use Rattle.dk_config.specs.Certification.{spare}
use Rattle.dk_slack_promise.specs.Allotted.{allotted, IsAllotted}
use Rattle.dk_allotment.specs.Given.{given}

-- these allotments, but n ticks for process p
abbrev pub with_own : (ℕ → ℕ) → ℕ → ℕ → ℕ → ℕ
with_own s p n q = if q == p then n else s q

-- The number is the greatest that process p can be allotted beside what the others are. There is none where theirs don't hold by themselves.
abbrev pub IsMostBeside : Configuration → (ℕ → ℕ) → ℕ → Option ℕ → Type 0
IsMostBeside c s p None = (n : ℕ) → IsAllotted c (with_own s p n) → ⊥
IsMostBeside c s p (Some most) = IsAllotted c (with_own s p most) × ((n : ℕ) → IsAllotted c (with_own s p n) → n ≤ most)

-- what the others leave of the spare of level j, unless they pass it
abbrev pub IsRoomBeside : Configuration → (ℕ → ℕ) → ℕ → ℕ → Option ℕ → Type 0
IsRoomBeside c s p j None = spare c j < allotted c (with_own s p 0) j
IsRoomBeside c s p j (Some room) = room + allotted c (with_own s p 0) j ≡ spare c j

-- of the levels before this one, the spare of each holds the allotments with so many ticks for p where they are at most the number
abbrev pub FitsBeside : Configuration → (ℕ → ℕ) → ℕ → ℕ → ℕ → Type 0
FitsBeside c s p level most =
    (n : ℕ) → (n ≤ most) ↔ ((n ≤ spare c (main_level c p)) × ((j : ℕ) → j < level → allotted c (with_own s p n) j ≤ spare c j))

-- what process q is allotted in its windows that begin in the first f ticks of one of level m
abbrev pub part_begun : Configuration → List ℕ → ℕ → ℕ → ℕ → ℕ
part_begun c xs m f q = if nat_le (main_level c q) m then given xs q * windows_begun c (main_level c q) f else 0

-- no such part is more than this
abbrev pub most_begun : ℕ
most_begun = 2 ^ 32 * (2 * MAX_SPAN)
