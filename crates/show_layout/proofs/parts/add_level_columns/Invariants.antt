use Rattle.show_rows.specs.Lines.{AddsLines}
use Rattle.show_layout.specs.Matrix.{IsLevelColumn}
use Rattle.show_layout.proofs.parts.add_level_columns.Given as goal

-- the lines so far are added
abbrev pub invariant-loop-level : goal.invariant-loop-level
invariant-loop-level l = AddsLines IsLevelColumn l.level l.initial.out.items l.out.items
