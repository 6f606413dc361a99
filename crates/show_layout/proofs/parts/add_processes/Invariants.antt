use Rattle.show_rows.specs.Lines.{AddsLines}
use Rattle.show_layout.specs.Matrix.{IsProcessRow}
use Rattle.show_layout.proofs.parts.add_processes.Given as goal

-- the lines so far are added
abbrev pub invariant-loop-process : goal.invariant-loop-process
invariant-loop-process l = AddsLines (IsProcessRow l.layout) l.process l.initial.out.items l.out.items
