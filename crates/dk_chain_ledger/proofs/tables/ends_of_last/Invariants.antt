use Rattle.std.proofs.Common.{◌≡◌, ◌++◌, drop}
use Rattle.std.specs.Prelude.{map, option_map}
use Rattle.dk_chain_ledger.specs.declared.jobs.Job.{Job}
use Rattle.dk_chain_ledger.proofs.tables.ends_of_last.Given as goal

-- the ends so far, before those that are left
abbrev pub invariant-loop-job : goal.invariant-loop-job
invariant-loop-job l =
    l.ends.items ++ map (option_map (λ (j : Job). j.over)) (drop l.job-index l.jobs) ≡ map (option_map (λ (j : Job). j.over)) l.jobs
