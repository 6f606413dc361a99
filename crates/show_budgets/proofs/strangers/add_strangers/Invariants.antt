use Rattle.std.proofs.Common.{◌≡◌, ◌++◌}
use Rattle.csv.specs.Records.{fields_of}
use Rattle.show_budgets.specs.Strangers.{strangers_below}
use Rattle.show_budgets.proofs.strangers.add_strangers.Given as goal

-- those of the columns so far are added
abbrev pub invariant-loop-place : goal.invariant-loop-place
invariant-loop-place l = l.out.items ≡ l.initial.out.items ++ strangers_below l.rows (fields_of l.row) l.place
