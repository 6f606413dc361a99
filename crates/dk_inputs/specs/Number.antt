-- The number of each status.
use Rattle.std.specs.Prelude.{ℕ}
use Rattle.dk_inputs.specs.declared.status.Status.{Status}
use Rattle.dk_inputs.specs.declared.status.Status.TheVariants as status

abbrev pub status_number : Status → ℕ
status_number status.Done = 0
status_number status.Usage = 1
status_number status.Config = 2
status_number status.Uncertified = 3
status_number status.Program = 4
status_number status.DepotFault = 5
status_number status.SinkFault = 6
status_number status.NoMemory = 7
