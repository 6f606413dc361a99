use Rattle.std.proofs.Common.{◌≡◌, ◌++◌, drop, flat_map}
use Rattle.show_layout.specs.Warnings.{warning_told}
use Rattle.show_layout.proofs.allowed.add_warnings.Given as goal

-- the rows so far, before those of the warnings that are left
abbrev pub invariant-loop-warning : goal.invariant-loop-warning
invariant-loop-warning l =
    l.out.items ++ flat_map (warning_told l.form l.layout) (drop l.warning-index l.found) ≡ l.initial.out.items ++ flat_map (warning_told l.form l.layout) l.found
