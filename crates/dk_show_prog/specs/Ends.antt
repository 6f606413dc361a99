-- How the call of deosk-show ends: its clauses, of what is seen of the depot and of the output.
use Rattle.std.specs.Prelude.{ℕ, ◌≡◌, ◌≢◌, ◌+◌, ◌≤◌, ◌⊎◌, List, IfSome}
use Rattle.dk_outside.specs.Counts.{Rises}
use Rattle.dk_outside.specs.Views.{DepotView, SinkView}
use Rattle.dk_outside.specs.Written.{Appends}
use Rattle.dk_edge.specs.declared.running.EdgeFault.{EdgeFault}
use Rattle.dk_edge.specs.declared.running.EdgeFault.TheVariants.{NoMemory, Output}
use Rattle.dk_show.specs.Answers.{IsAnswer, IsFault, IsFaulty}
use Rattle.dk_show.specs.Asking.{WordsMiss, handed_for_words}
use Rattle.dk_show.specs.Leaves.{Cuts}
use Rattle.dk_show_request.specs.Meaning.{DrawsNothing, IsSought, MeansNothing, meaning}
use Rattle.dk_show.specs.Output.{IsOutput, StandsInOutput}
use Rattle.dk_show.specs.declared.status.Status.{Status}
use Rattle.dk_show.specs.declared.status.Status.TheVariants as status

pub record Ends (words : List (List ℕ)) (depot_old depot_new : DepotView) (sink_old sink_new : SinkView) (ended : Status) : Type 0 where
  -- the text and the status stand in Output with the words and the files
  pub whole : IsAnswer ended
      → (text : List ℕ) × Appends sink_old.written sink_new.written text × StandsInOutput depot_old.files words text ended
  -- where a write failed a prefix of such a text, and where a read failed nothing
  pub cut : ended ≡ status.SinkFault → Cuts (StandsInOutput depot_old.files words) sink_old sink_new
  pub silent : ended ≡ status.DepotFault → sink_new ≡ sink_old
  -- where memory ran out nothing, or of a drawing a prefix of such a text
  pub memory : ended ≡ status.NoMemory → (sink_new ≡ sink_old) ⊎ Cuts (StandsInOutput depot_old.files words) sink_old sink_new
  pub untouched : IfSome (meaning words) DrawsNothing → ended ≡ status.NoMemory → sink_new ≡ sink_old
  -- when each answer comes
  pub complete : IfSome depot_old.files (λ at. (text : List ℕ) → ¬ IsSought (meaning words)
      → IsOutput words at text status.Done → (ended ≡ status.Done) ⊎ IsFaulty ended)
  pub usage : MeansNothing words → (ended ≡ status.Usage) ⊎ IsFault ended
  pub usage_only : ended ≡ status.Usage → MeansNothing words
  pub depot_fault : ended ≡ status.DepotFault → Rises depot_old.faults depot_new.faults
  pub sink_fault : ended ≡ status.SinkFault → Rises sink_old.faults sink_new.faults
  pub no_read_failed : ended ≢ status.DepotFault → depot_new.faults ≡ depot_old.faults
  pub no_write_failed : ended ≢ status.SinkFault → sink_new.faults ≡ sink_old.faults
  -- what the caller goes on with
  pub faults : depot_old.faults ≤ depot_new.faults
  pub given : IfSome depot_old.files (λ at. ended ≢ status.DepotFault → ended ≢ status.NoMemory
      → depot_new.given ≡ depot_old.given + handed_for_words (meaning words) at)
  pub strays : IfSome depot_old.files (λ at. ¬ WordsMiss (meaning words) at → depot_new.strays ≡ depot_old.strays)
  pub same : depot_new.files ≡ depot_old.files

-- the status for what ends the program at the edge
abbrev pub status_of : EdgeFault → Status
status_of NoMemory = status.NoMemory
status_of Output = status.SinkFault
