use Rattle.std.proofs.Common.{◌≡◌, drop}
use Rattle.dk_trace.specs.Entries.{is_budget_of}
use Rattle.dk_chain_ledger.specs.Jobs.{last_in}
use Rattle.dk_chain_ledger.proofs.jobs.last_paid.Given as goal
use Rattle.dk_chain_ledger.proofs.Lists.{joined_last}

abbrev pub invariant-loop-entry : goal.invariant-loop-entry
invariant-loop-entry l = record {
  now : l.ticks ≡ l.entry-index;
  rest : last_in (is_budget_of l.main) l.window ≡ joined_last l.last l.entry-index (last_in (is_budget_of l.main) (drop l.entry-index l.window));
}
