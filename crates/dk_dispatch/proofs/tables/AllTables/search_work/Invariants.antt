use Rattle.dk_dispatch.proofs.Names.{◌+◌, ◌*◌, ◌≤◌, HasNoWork}
use Rattle.dk_dispatch.proofs.tables.AllTables.search_work.Given as goal

abbrev pub invariant-loop-level : goal.invariant-loop-level
invariant-loop-level g l = record {
  before : HasNoWork l.self l.level;
  steps : l.steps ≤ l.fn.steps + 3 * l.level;
}
