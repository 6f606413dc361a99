use Rattle.dk_dispatch.proofs.Names.{◌+◌, ◌≤◌, HasNoWish}
use Rattle.dk_dispatch.proofs.tables.AllTables.first_wish.Given as goal

abbrev pub invariant-loop-level : goal.invariant-loop-level
invariant-loop-level g l = record {
  before : HasNoWish l.self l.level;
  within : l.level ≤ l.end;
  steps : l.steps ≤ l.fn.steps + l.level;
}
