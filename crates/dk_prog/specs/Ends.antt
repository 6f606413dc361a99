-- How the call of deosk ends: its clauses, of what is seen of the depot and of the output.
use Rattle.std.specs.Prelude.{ℕ, ◌≡◌, ◌≢◌, List, IfSome}
use Rattle.dk_outside.specs.Counts.{Rises}
use Rattle.dk_outside.specs.Views.{DepotView, SinkView}
use Rattle.dk_outside.specs.Written.{Appends, AppendsPrefix}
use Rattle.dk_edge.specs.declared.running.EdgeFault.{EdgeFault}
use Rattle.dk_edge.specs.declared.running.EdgeFault.TheVariants.{NoMemory, Output}
use Rattle.dk_request.specs.Commands.{usage_text}
use Rattle.dk_request.specs.Meaning.{MeansNothing}
use Rattle.dk_inputs.specs.Follows.{Goes}
use Rattle.dk_inputs.specs.declared.status.Status.{Status}
use Rattle.dk_inputs.specs.declared.status.Status.TheVariants as status
use Rattle.dk_command.specs.Output.{IsAnswer}
use Rattle.dk_session.specs.Causes.{IsExactly, IsUsageOrFailed}
use Rattle.dk_session.specs.Complete.{HasDoneOutput, IsDoneOrNoMemory, Unfailing}
use Rattle.dk_session.specs.Headline.{GivesExactly, StandsInOutput, StraysNowhere, WasReceivedBoundedGranted}
use Rattle.dk_session.specs.Leaves.{IsSilent}

pub record Ends (words : List (List ℕ)) (depot_old depot_new : DepotView) (sink_old sink_new : SinkView) (ended : Status) : Type 0 where
  -- the headline: the text and the status stand in Output with the words and the files, and a run keeps what it promises
  pub whole : IsAnswer ended
      → (text : List ℕ) × Appends sink_old.written sink_new.written text × StandsInOutput depot_old.files words text ended
  pub received_bounded_granted : WasReceivedBoundedGranted depot_old.files words ended
  -- where a write failed a prefix of such a text, and where a read failed or memory ran out nothing
  pub cut : ended ≡ status.SinkFault
      → (text : List ℕ) × AppendsPrefix sink_old.written sink_new.written text
      × ((answer : Status) × StandsInOutput depot_old.files words text answer)
  pub silent : IsSilent ended → sink_new ≡ sink_old
  -- when each answer comes
  pub usage : MeansNothing words → IsUsageOrFailed ended
  pub usage_only : ended ≡ status.Usage → MeansNothing words
  pub usage_line : ended ≡ status.Usage → Appends sink_old.written sink_new.written usage_text
  pub config : IsExactly status.Config depot_old.files words ended
  pub uncertified : IsExactly status.Uncertified depot_old.files words ended
  pub program : IsExactly status.Program depot_old.files words ended
  pub depot_fault : ended ≡ status.DepotFault → Rises depot_old.faults depot_new.faults
  pub sink_fault : ended ≡ status.SinkFault → Rises sink_old.faults sink_new.faults
  pub no_read_failed : ended ≢ status.DepotFault → depot_new.faults ≡ depot_old.faults
  pub no_write_failed : ended ≢ status.SinkFault → sink_new.faults ≡ sink_old.faults
  pub complete : IfSome depot_old.files (λ at. HasDoneOutput words at → Unfailing depot_old.faults depot_new.faults
      → Unfailing sink_old.faults sink_new.faults → IsDoneOrNoMemory ended)
  -- what the caller goes on with
  pub goes_on : Goes depot_old depot_new
  pub given : GivesExactly depot_old.files words ended depot_old.given depot_new.given
  pub strays : StraysNowhere depot_old.files words depot_old.strays depot_new.strays

-- the status for what ends the program at the edge
abbrev pub status_of : EdgeFault → Status
status_of NoMemory = status.NoMemory
status_of Output = status.SinkFault
