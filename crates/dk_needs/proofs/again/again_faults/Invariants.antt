use Rattle.std.proofs.Common.{◌≡◌, ◌++◌, drop, take}
use Rattle.std.specs.Prelude.{option_to_list}
use Rattle.dk_needs.specs.Reading.{again_fault, again_faults}
use Rattle.dk_needs.specs.Shape.{from_row}
use Rattle.dk_needs.proofs.again.again_faults.Given as goal

-- what is found, and what the needs that are left report
abbrev pub invariant-loop-i : goal.invariant-loop-i
invariant-loop-i l =
    l.found.items ++ from_row (λ k n. option_to_list (again_fault (take k l.rows) n)) l.i (drop l.i l.rows) ≡ again_faults l.rows
