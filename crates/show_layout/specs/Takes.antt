-- What each part of a configuration takes of a window of a level.
use Rattle.std.specs.Prelude.{ℕ, ◌+◌, ◌-◌, ◌*◌, ◌/◌, ◌<◌, Bool, nat_lt, if◌then◌else◌, length, Option, Some, None}
use Rattle.dk_config.specs.Configuration.{Configuration}
use Rattle.dk_config.specs.Certification.{level_blocking, level_demand}
use Rattle.dk_config.specs.Windows.{budget, main_level, period, release}
use Rattle.show_layout.specs.declared.takes.Part.{Part}
use Rattle.show_layout.specs.declared.takes.Part.TheVariants as part

-- what the level can need and wait for, in one of its windows
abbrev pub needs : Configuration → ℕ → ℕ
needs c j = level_demand c j + level_blocking c j

-- whether its window is shorter than that
abbrev pub is_over : Configuration → ℕ → Bool
is_over c j = nat_lt (period c j) (needs c j)

-- what the kernel's own work of level i takes of a window of level j
abbrev pub release_ticks : Configuration → ℕ → ℕ → ℕ
release_ticks c j i = release c i * (period c j / period c i)

-- what the budget of the process takes of it
abbrev pub budget_ticks : Configuration → ℕ → ℕ → ℕ
budget_ticks c j p = budget c p * (period c j / period c (main_level c p))

-- so many ticks, where this holds
abbrev pub told_where : Bool → ℕ → Option ℕ
told_where holds ticks = if holds then Some ticks else None

-- and where it doesn't
abbrev pub told_unless : Bool → ℕ → Option ℕ
told_unless holds ticks = if holds then None else Some ticks

-- what the part takes of a window of the level, or what there is of it. What is of a slower level takes nothing.
abbrev pub takes : Configuration → Part → ℕ → Option ℕ
takes c part.Period j = Some (period c j)
takes c (part.Release i) j = told_unless (nat_lt j i) (release_ticks c j i)
takes c (part.Process p) j = told_unless (nat_lt j (main_level c p)) (budget_ticks c j p)
takes c part.Demand j = Some (level_demand c j)
takes c part.Blocking j = Some (level_blocking c j)
takes c part.Spare j = told_unless (is_over c j) (period c j - needs c j)
takes c part.Over j = told_where (is_over c j) (needs c j - period c j)

-- the level, or the process, is one of the configuration
abbrev pub IsPart : Configuration → Part → Type 0
IsPart c (part.Release i) = i < length c.levels
IsPart c (part.Process p) = p < length c.processes
IsPart c _ = Unit {0}
