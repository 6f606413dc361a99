use Rattle.std.proofs.Common.{ℕ, ◌≡◌, ◌<◌, length}
use Rattle.dk_chain_ledger.specs.Jobs.{job_of}
use Rattle.dk_chain_ledger.specs.Tables.{told}
use Rattle.dk_chain_ledger.proofs.tables.jobs_of.Given as goal

abbrev pub invariant-loop-window : goal.invariant-loop-window
invariant-loop-window l = record {
  size : length l.jobs.items ≡ l.window;
  jobs : (k : ℕ) → k < l.window → told l.jobs.items k ≡ job_of l.config l.entries l.process k;
}
