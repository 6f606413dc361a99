use Rattle.std.proofs.Common.{◌≡◌, ◌++◌, drop}
use Rattle.std.specs.Prelude.{map}
use Rattle.std.specs.Option.{option_and_then}
use Rattle.dk_chain_ledger.specs.declared.jobs.Job.{Job}
use Rattle.dk_chain_ledger.specs.Tables.{next_window, told}
use Rattle.dk_chain_ledger.proofs.tables.ends_before.Given as goal

-- the ends so far, before those that are left
abbrev pub invariant-loop-job : goal.invariant-loop-job
invariant-loop-job l =
    l.ends.items ++ map (option_and_then (λ (j : Job). told l.next.ends.items (next_window (told l.next.jobs.items) l.next.ticks j.over))) (drop l.job-index l.jobs)
    ≡ map (option_and_then (λ (j : Job). told l.next.ends.items (next_window (told l.next.jobs.items) l.next.ticks j.over))) l.jobs
