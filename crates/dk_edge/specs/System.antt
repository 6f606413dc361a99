-- What is known of the system's files and its standard output.
use Rattle.std.specs.Prelude.{ℕ, ◌≡◌, None, Result, Ok, Err}
use Rattle.dk_outside.specs.Views.{SinkView}
use Rattle.dk_edge.specs.declared.system.StandardOutput.{StandardOutput}
use Rattle.dk_edge.specs.declared.system.SystemFiles.{SystemFiles}

-- how many opens and reads failed
abbrev pub system_failures : {R F D : Type 0} → SystemFiles R F D → ℕ
system_failures s = s.failures

-- an answer is handed on as it is, and a failure as one
abbrev pub TellsAnswer : {A E F : Type 0} → Result A E → Result A F → Type 0
TellsAnswer (Ok value) result = result ≡ Ok value
TellsAnswer (Err _) (Ok _) = ⊥
TellsAnswer (Err _) (Err _) = Unit {0}

-- how many writes failed
abbrev pub output_faults : {R : Type 0} → StandardOutput R → ℕ
output_faults s = s.faults

-- what is seen of it as a sink: what was written isn't told, nor how much room there is
abbrev pub output_view : {R : Type 0} → StandardOutput R → SinkView
output_view s = record { written = None; faults = output_faults s; capacity = None }
