use Rattle.dk_audit.proofs.Names.{◌≡◌, take}
use Rattle.dk_audit.proofs.heading.are_rows_of.Given as goal

abbrev pub invariant-loop-level : goal.invariant-loop-level
invariant-loop-level l = take l.level l.rows ≡ take l.level l.table
