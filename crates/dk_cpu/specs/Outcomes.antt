-- What a tick comes to, with the context and the memory after it beside its outcome.
use Rattle.std.specs.Prelude.{ℕ, ◌≡◌, List}
use Rattle.dk_cpu.specs.declared.Context.{Context}
use Rattle.dk_cpu.specs.declared.Outcome.{Outcome}
use Rattle.dk_cpu.specs.Changes.{IfFault, IsOfProgram}
use Rattle.dk_cpu.specs.Machine.{Tick}

abbrev pub came_to : Outcome → Context → List ℕ → Tick
came_to outcome x memory = record { outcome = outcome; context = x; memory = memory }

-- at a fault of the program neither the context nor the memory changes
abbrev pub KeepsAllAtFault : Outcome → Context → Context → List ℕ → List ℕ → Type 0
KeepsAllAtFault outcome before after memory left =
    IfFault outcome (λ kind. IsOfProgram kind × (after ≡ before) × (left ≡ memory))
