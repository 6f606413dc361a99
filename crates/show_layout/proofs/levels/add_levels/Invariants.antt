use Rattle.show_rows.specs.Lines.{AddsLines}
use Rattle.show_layout.specs.Certificate.{IsLevel}
use Rattle.show_layout.proofs.levels.add_levels.Given as goal

-- the lines so far are added
abbrev pub invariant-loop-level : goal.invariant-loop-level
invariant-loop-level l = AddsLines (IsLevel l.form l.layout) l.level l.initial.out.items l.out.items
