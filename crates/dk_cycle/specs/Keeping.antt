-- Whether a process keeps to itself.
use Rattle.std.specs.Prelude.{ℕ, ◌≡◌, ◌<◌, List, true}
use Rattle.dk_config.specs.Configuration.{Configuration}
use Rattle.dk_config.specs.Windows.{slots, may_ask}
use Rattle.dk_alone.specs.Alone.{KeepsToItself, ReadsNoTick}
use Rattle.dk_cycle.specs.declared.keeping.Keeping.{Keeping}
use Rattle.dk_cycle.specs.declared.keeping.Keeping.TheVariants as kind

-- an instruction of the program reads the tick
abbrev pub ReadsTick : List ℕ → Type 0
ReadsTick program = ReadsNoTick program → ⊥

-- the process with this program keeps to itself, or this is the first reason why it doesn't
abbrev pub IsKeeping : Configuration → ℕ → List ℕ → Keeping → Type 0
IsKeeping c p program kind.Keeps = KeepsToItself c p program
IsKeeping c p program kind.ReadsTick = ReadsTick program
IsKeeping c p program kind.HasThreads = ReadsNoTick program × (0 < slots c p)
IsKeeping c p program kind.HasSlack = ReadsNoTick program × (slots c p ≡ 0) × (may_ask c p ≡ true)
