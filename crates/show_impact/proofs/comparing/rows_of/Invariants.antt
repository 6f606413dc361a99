use Rattle.show_impact.specs.Impacts.{AreRows}
use Rattle.show_impact.proofs.comparing.rows_of.Given as goal

-- the rows so far
abbrev pub invariant-loop-process : goal.invariant-loop-process
invariant-loop-process l = AreRows l.old l.new l.process l.rows.items
