use Rattle.dk_ledger.proofs.Names.{◌≡◌, take}
use Rattle.dk_ledger.proofs.header.Header.level_rows.Given as goal

abbrev pub invariant-loop-level : goal.invariant-loop-level
invariant-loop-level l = l.rows.items ≡ take l.level l.table
