use Rattle.show_rows.specs.Lines.{AddsLines}
use Rattle.show_layout.specs.Certificate.{IsReleaseLine}
use Rattle.show_layout.proofs.levels.add_releases.Given as goal

-- the lines so far are added
abbrev pub invariant-loop-of : goal.invariant-loop-of
invariant-loop-of l = AddsLines (IsReleaseLine l.form l.layout l.level) l.of l.initial.out.items l.out.items
