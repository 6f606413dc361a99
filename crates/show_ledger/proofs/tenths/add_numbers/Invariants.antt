use Rattle.std.proofs.Common.{◌≡◌, ◌≤◌, ◌++◌, decimal, drop, length, map}
use Rattle.show_rows.specs.Rows.{cell_text}
use Rattle.show_ledger.proofs.tenths.add_numbers.Given as goal

-- the cells so far, before those of the numbers that are left
abbrev pub invariant-loop-number : goal.invariant-loop-number
invariant-loop-number l = record {
  texts : map cell_text l.cells.items ++ map decimal (drop l.number-index l.numbers) ≡ map cell_text l.initial.cells.items ++ map decimal l.numbers;
  more : length l.initial.cells.items ≤ length l.cells.items;
}
