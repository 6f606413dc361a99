use Rattle.std.proofs.Common.{◌+◌, ◌≡◌, drop}
use Rattle.dk_chain_ledger.specs.Jobs.{closes, first_in}
use Rattle.dk_chain_ledger.proofs.jobs.first_closing.Given as goal

abbrev pub invariant-loop-entry : goal.invariant-loop-entry
invariant-loop-entry l = record {
  now : l.ticks ≡ l.entry-index;
  rest : first_in (closes l.main) l.window ≡ l.entry-index + first_in (closes l.main) (drop l.entry-index l.window);
}
