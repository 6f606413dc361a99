-- When a command is done.
use Rattle.std.specs.Prelude.{ℕ, ◌≡◌, ◌<◌, ◌⊎◌, List, [], length}
use Rattle.dk_outside.specs.Counts.{Rises}
use Rattle.dk_outside.specs.MemSink.{mem_bytes, mem_capacity}
use Rattle.dk_outside.specs.declared.mem_sink.MemSink.{MemSink}
use Rattle.dk_inputs.specs.declared.status.Status.{Status}
use Rattle.dk_inputs.specs.declared.status.Status.TheVariants as status
use Rattle.dk_command.specs.Output.{IsOutput}
use Rattle.dk_inputs.specs.Reads.{Files}

-- Output's status is Done
abbrev pub HasDoneOutput : List (List ℕ) → Files → Type 0
HasDoneOutput words at = (text : List ℕ) × IsOutput words at text status.Done

-- the count didn't rise
abbrev pub Unfailing : ℕ → ℕ → Type 0
Unfailing old new = Rises old new → ⊥

abbrev pub IsDoneOrNoMemory : Status → Type 0
IsDoneOrNoMemory ended = (ended ≡ status.Done) ⊎ (ended ≡ status.NoMemory)

-- the sink is empty, and has more room than the output of the words and the files has bytes
pub record HasRoom (words : List (List ℕ)) (at : Files) (s : MemSink) : Type 0 where
  pub empty : mem_bytes s ≡ []
  pub room : (text : List ℕ) (ended : Status) → IsOutput words at text ended → length text < mem_capacity s
