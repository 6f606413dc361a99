-- What a program leaves at the edge.
use Rattle.std.specs.Prelude.{ℕ, ◌≡◌, List, Option, IfSome, Result, Ok, Err}
use Rattle.dk_outside.specs.Counts.{Rises}
use Rattle.dk_outside.specs.Views.{DepotView, SinkView}
use Rattle.dk_edge.specs.OutSink.{IsFrontOf}
use Rattle.dk_edge.specs.Words.{usable}
use Rattle.dk_edge.specs.declared.running.EdgeFault.{EdgeFault}
use Rattle.dk_edge.specs.declared.running.EdgeFault.TheVariants.{NoMemory, Output}

-- the output took all that the sink in front of it was given, or the front of it where it failed
abbrev pub WasHandedOn : {T : Type 0} → T → SinkView → SinkView → Result T EdgeFault → Type 0
WasHandedOn status view out (Ok ended) = (ended ≡ status) × (out.written ≡ view.written) × (out.faults ≡ view.faults)
    × (out.capacity ≡ view.capacity)
WasHandedOn status view out (Err Output) = IsFrontOf out.written view.written × Rises view.faults out.faults
WasHandedOn status view out (Err NoMemory) = ⊥

-- the output took the front of what a call wrote, and failed
pub record WasCut {T : Type 0} (ends : List (List ℕ) → DepotView → DepotView → SinkView → SinkView → T → Type 0) (words : List (List ℕ))
    (depot_old depot_new : DepotView) (out_old out_new : SinkView) : Type 0 where
  pub status : T
  pub view : SinkView
  pub ended : ends words depot_old depot_new out_old view status
  pub front : IsFrontOf out_new.written view.written
  pub failed : Rises view.faults out_new.faults

-- The call of the words ended so over the depot and the output itself, or was cut by the output, or was never made.
abbrev pub Ran : {T : Type 0} → (List (List ℕ) → DepotView → DepotView → SinkView → SinkView → T → Type 0) → List (List ℕ)
    → DepotView → DepotView → SinkView → SinkView → Result T EdgeFault → Type 0
Ran ends words depot_old depot_new out_old out_new (Ok status) = ends words depot_old depot_new out_old out_new status
Ran ends words depot_old depot_new out_old out_new (Err Output) = WasCut ends words depot_old depot_new out_old out_new
Ran ends words depot_old depot_new out_old out_new (Err NoMemory) = (depot_new ≡ depot_old) × (out_new ≡ out_old)

-- One call was made, with all words that were given where these are told, and with some words else; or none was.
pub record RanOnce {T : Type 0} (ends : List (List ℕ) → DepotView → DepotView → SinkView → SinkView → T → Type 0)
    (told : Option (List (Option (List ℕ)))) (depot_old depot_new : DepotView) (out_old out_new : SinkView)
    (result : Result T EdgeFault) : Type 0 where
  pub words : List (List ℕ)
  pub given : IfSome told (λ all. words ≡ usable all)
  pub ran : Ran ends words depot_old depot_new out_old out_new result

-- the status of the call, or the one for what ended the program at the edge
abbrev pub last_status : {T : Type 0} → (EdgeFault → T) → Result T EdgeFault → T
last_status status_of (Ok status) = status
last_status status_of (Err fault) = status_of fault

-- What a program leaves, and the number that its process ends with: that of how the one call ended.
pub record Exits {T : Type 0} (ends : List (List ℕ) → DepotView → DepotView → SinkView → SinkView → T → Type 0)
    (number_of : T → ℕ) (status_of : EdgeFault → T) (told : Option (List (Option (List ℕ))))
    (depot_old depot_new : DepotView) (out_old out_new : SinkView) (number : ℕ) : Type 0 where
  pub ended : Result T EdgeFault
  pub ran : RanOnce ends told depot_old depot_new out_old out_new ended
  pub exits : number ≡ number_of (last_status status_of ended)
