use Rattle.show_rows.specs.Lines.{AddsLines}
use Rattle.show_impact.specs.ImpactText.{IsGoneLine}
use Rattle.show_impact.proofs.whole.add_gone.Given as goal

-- the processes so far are added
abbrev pub invariant-loop-process : goal.invariant-loop-process
invariant-loop-process l = AddsLines (IsGoneLine l.form l.old.config l.new.config) l.process l.initial.out.items l.out.items
