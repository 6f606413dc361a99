use Rattle.dk_slack.proofs.Names.{◌≡◌, ◌+◌, ◌%◌, ◌^◌, drop, sum, run_of_slower}
use Rattle.dk_slack.proofs.unclaimed.run_of_slower.Given as goal

abbrev pub invariant-loop-slower : goal.invariant-loop-slower
invariant-loop-slower l = (l.run + sum (drop l.slower l.counters)) % 2 ^ 32 ≡ run_of_slower l.level l.nobodys l.counters % 2 ^ 32
