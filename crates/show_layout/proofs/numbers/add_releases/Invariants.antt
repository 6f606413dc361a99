use Rattle.show_rows.specs.Lines.{AddsLines}
use Rattle.show_layout.specs.Margins.{IsReleaseLine}
use Rattle.show_layout.proofs.numbers.add_releases.Given as goal

-- the lines so far are added
abbrev pub invariant-loop-level : goal.invariant-loop-level
invariant-loop-level l = AddsLines (IsReleaseLine l.form l.layout) l.level l.initial.out.items l.out.items
