use Rattle.std.proofs.Common.{◌≡◌, length}
use Rattle.dk_asm.specs.Source.{lines_of}
use Rattle.dk_config.specs.Sums.{first_of}
use Rattle.dk_times.specs.Records.{record_of}
use Rattle.show_budgets.specs.Strangers.{header}
use Rattle.show_budgets.proofs.strangers.header.Given as goal

-- the lines so far are blank
abbrev pub invariant-loop-rest : goal.invariant-loop-rest
invariant-loop-rest l = first_of record_of (lines_of l.rest) ≡ header l.fn.table

abbrev pub decreases-loop-rest : goal.decreases-loop-rest
decreases-loop-rest l = length l.rest
