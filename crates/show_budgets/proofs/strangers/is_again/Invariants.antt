use Rattle.std.proofs.Common.{◌≡◌, false}
use Rattle.csv.specs.Records.{fields_of}
use Rattle.show_budgets.specs.Strangers.{is_again}
use Rattle.show_budgets.proofs.strangers.is_again.Given as goal

-- none of the columns so far has the name
abbrev pub invariant-loop-other : goal.invariant-loop-other
invariant-loop-other l = is_again (fields_of l.row) l.other l.name ≡ false
