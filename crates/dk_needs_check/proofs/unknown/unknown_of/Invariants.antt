use Rattle.std.proofs.Common.{◌≡◌, ◌++◌, drop}
use Rattle.dk_needs.specs.declared.needs.Need.{Need}
use Rattle.dk_needs.specs.Shape.{from_row}
use Rattle.dk_needs_check.specs.Unknown.{unknown_in, unknown_of}
use Rattle.dk_needs_check.proofs.unknown.unknown_of.Given as goal

-- what is found, and what the needs that are left give
abbrev pub invariant-loop-i : goal.invariant-loop-i
invariant-loop-i l =
    l.found.items ++ from_row (λ i (need : Need). unknown_in l.config i need.what) l.i (drop l.i l.needs) ≡ unknown_of l.config l.needs
