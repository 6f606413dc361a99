-- What a call leaves of the sink that its output goes to, and of the depot that it reads.
use Rattle.std.specs.Prelude.{ℕ, ◌≡◌, ◌≢◌, ◌≤◌, ◌⊎◌, List, Result, Err, IsErrOf}
use Rattle.dk_outside.specs.Counts.{Rises}
use Rattle.dk_outside.specs.Views.{DepotView, SinkView}
use Rattle.dk_outside.specs.Written.{Appends, AppendsPrefix}
use Rattle.dk_show.specs.declared.refusal.Refusal.{Refusal}
use Rattle.dk_show.specs.declared.refusal.Refusal.TheVariants as why
use Rattle.dk_show.specs.declared.status.Status.{Status}
use Rattle.dk_show.specs.declared.status.Status.TheVariants as status
use Rattle.dk_show.specs.Answers.{IsAnswer}

-- a prefix of a text that stands was appended
abbrev pub Cuts : (List ℕ → Status → Type 0) → SinkView → SinkView → Type 0
Cuts Stands old new =
    (text : List ℕ) × AppendsPrefix old.written new.written text × ((answer : Status) × Stands text answer)

-- `Stands` says which texts stand with which status.
pub record Leaves {S : Type 0} (seen : S → SinkView)
    (Stands : List ℕ → Status → Type 0) (old new : S) (ended : Status) : Type 0 where
  -- with an answer a whole text that stands with it was appended
  pub whole : IsAnswer ended → (text : List ℕ) × Appends (seen old).written (seen new).written text × Stands text ended
  -- where a write failed, a prefix of a text that stands
  pub cut : ended ≡ status.SinkFault → Cuts Stands (seen old) (seen new)
  -- where a read failed, nothing: the sink is as it was
  pub silent : ended ≡ status.DepotFault → new ≡ old
  -- where memory ran out, nothing, or a prefix of a text that stands
  pub memory : ended ≡ status.NoMemory → (new ≡ old) ⊎ Cuts Stands (seen old) (seen new)
  -- a write failed only where the outside did
  pub cause : ended ≡ status.SinkFault → Rises (seen old).faults (seen new).faults
  -- and no failed write is swallowed
  pub stays : ended ≢ status.SinkFault → (seen new).faults ≡ (seen old).faults
  pub faults_rise : (seen old).faults ≤ (seen new).faults
  pub capacity_stays : (seen new).capacity ≡ (seen old).capacity

-- What a read leaves of the depot.
pub record Reads {A : Type 0} (old new : DepotView) (result : Result A Refusal) : Type 0 where
  -- it failed only where the outside did
  pub cause : IsErrOf result why.Depot → Rises old.faults new.faults
  -- and no failed read is swallowed
  pub stays : result ≢ Err why.Depot → new.faults ≡ old.faults
  pub faults : old.faults ≤ new.faults
  pub same : new.files ≡ old.files
