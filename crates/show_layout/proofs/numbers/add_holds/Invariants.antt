use Rattle.show_rows.specs.Lines.{AddsLines}
use Rattle.show_layout.specs.Margins.{IsHoldLine}
use Rattle.show_layout.proofs.numbers.add_holds.Given as goal

-- the lines so far are added
abbrev pub invariant-loop-mutex : goal.invariant-loop-mutex
invariant-loop-mutex l = AddsLines (IsHoldLine l.form l.layout) l.mutex l.initial.out.items l.out.items
