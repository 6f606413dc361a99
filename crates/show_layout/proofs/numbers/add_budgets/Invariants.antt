use Rattle.show_rows.specs.Lines.{AddsLines}
use Rattle.show_layout.specs.Margins.{IsBudgetLine}
use Rattle.show_layout.proofs.numbers.add_budgets.Given as goal

-- the lines so far are added
abbrev pub invariant-loop-process : goal.invariant-loop-process
invariant-loop-process l = AddsLines (IsBudgetLine l.form l.layout) l.process l.initial.out.items l.out.items
