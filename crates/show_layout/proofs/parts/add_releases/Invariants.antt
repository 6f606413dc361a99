use Rattle.show_rows.specs.Lines.{AddsLines}
use Rattle.show_layout.specs.Matrix.{IsReleaseRow}
use Rattle.show_layout.proofs.parts.add_releases.Given as goal

-- the lines so far are added
abbrev pub invariant-loop-of : goal.invariant-loop-of
invariant-loop-of l = AddsLines (IsReleaseRow l.layout) l.of l.initial.out.items l.out.items
