-- What a call leaves of the sink that its output goes to.
use Rattle.std.specs.Prelude.{ℕ, ◌≡◌, ◌≢◌, ◌≤◌, List}
use Rattle.dk_outside.specs.Counts.{Rises}
use Rattle.dk_outside.specs.Views.{SinkView}
use Rattle.dk_outside.specs.Written.{Appends, AppendsPrefix}
use Rattle.dk_inputs.specs.declared.status.Status.{Status}
use Rattle.dk_inputs.specs.declared.status.Status.TheVariants as status
use Rattle.dk_command.specs.Output.{IsAnswer}

-- a read failed or memory ran out, which have no text
abbrev pub IsSilent : Status → Type 0
IsSilent status.DepotFault = Unit {0}
IsSilent status.NoMemory = Unit {0}
IsSilent _ = ⊥

-- `Stands` says which texts stand with which status.
pub record Leaves {S : Type 0} (seen : S → SinkView)
    (Stands : List ℕ → Status → Type 0) (old new : S) (ended : Status) : Type 0 where
  -- with an answer a whole text that stands with it was appended
  pub whole : IsAnswer ended → (text : List ℕ) × Appends (seen old).written (seen new).written text × Stands text ended
  -- where a write failed, a prefix of a text that stands
  pub cut : ended ≡ status.SinkFault
      → (text : List ℕ) × AppendsPrefix (seen old).written (seen new).written text
      × ((answer : Status) × Stands text answer)
  -- where a read failed or memory ran out, nothing: the sink is as it was
  pub silent : IsSilent ended → new ≡ old
  -- a write failed only where the outside did
  pub cause : ended ≡ status.SinkFault → Rises (seen old).faults (seen new).faults
  -- and with any other answer no write failed
  pub stays : ended ≢ status.SinkFault → (seen new).faults ≡ (seen old).faults
  pub faults_rise : (seen old).faults ≤ (seen new).faults
  pub capacity_stays : (seen new).capacity ≡ (seen old).capacity
