use Rattle.show_rows.specs.Lines.{AddsLines}
use Rattle.show_impact.specs.ImpactText.{IsProcessLine}
use Rattle.show_impact.proofs.whole.add_processes.Given as goal

-- the processes so far are added
abbrev pub invariant-loop-process : goal.invariant-loop-process
invariant-loop-process l = AddsLines (IsProcessLine l.form l.old.config l.new.config l.rows) l.process l.initial.out.items l.out.items
