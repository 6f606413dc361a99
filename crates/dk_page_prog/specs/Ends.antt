-- How the call ends, by what is seen of the depot and of the output.
use Rattle.std.specs.Prelude.{ℕ, ◌≡◌, ◌≢◌, List, IfSome}
use Rattle.dk_outside.specs.Counts.{Rises}
use Rattle.dk_outside.specs.Views.{DepotView, SinkView}
use Rattle.dk_outside.specs.Written.{Appends, AppendsPrefix}
use Rattle.dk_edge.specs.declared.running.EdgeFault.{EdgeFault}
use Rattle.dk_edge.specs.declared.running.EdgeFault.TheVariants.{NoMemory, Output}
use Rattle.dk_page_prog.specs.Answers.{IsAnswered}
use Rattle.dk_page_prog.specs.declared.answers.Answer.{Answer}
use Rattle.dk_page_prog.specs.declared.status.Answered.{Answered}
use Rattle.dk_page_prog.specs.declared.status.Status.{Status}
use Rattle.dk_page_prog.specs.declared.status.Status.TheVariants as status

pub record Ends (words : List (List ℕ)) (depot_old depot_new : DepotView) (sink_old sink_new : SinkView) (ended : Status) : Type 0 where
  -- a whole text was appended, and it and the end are what the words and the files come to
  pub whole : (e : Answered) → ended ≡ status.Answered e → (a : Answer) × (a.ended ≡ e)
      × Appends sink_old.written sink_new.written a.bytes.items × IfSome depot_old.files (λ at. IsAnswered words at a)
  -- where a write failed a prefix of such a text, and where a read failed or memory ran out nothing
  pub cut : ended ≡ status.SinkFault → (a : Answer) × AppendsPrefix sink_old.written sink_new.written a.bytes.items
      × IfSome depot_old.files (λ at. IsAnswered words at a)
  pub silent : ended ≡ status.DepotFault → sink_new ≡ sink_old
  pub memory : ended ≡ status.NoMemory → sink_new ≡ sink_old
  -- no failure comes but from the outside, and none is swallowed
  pub depot_fault : ended ≡ status.DepotFault → Rises depot_old.faults depot_new.faults
  pub sink_fault : ended ≡ status.SinkFault → Rises sink_old.faults sink_new.faults
  pub no_read_failed : ended ≢ status.DepotFault → depot_new.faults ≡ depot_old.faults
  pub no_write_failed : ended ≢ status.SinkFault → sink_new.faults ≡ sink_old.faults
  pub same : depot_new.files ≡ depot_old.files

-- the status for what ends the program at the edge
abbrev pub status_of : EdgeFault → Status
status_of NoMemory = status.NoMemory
status_of Output = status.SinkFault
