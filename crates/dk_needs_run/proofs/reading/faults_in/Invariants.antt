use Rattle.std.proofs.Common.{◌≡◌, take}
use Rattle.dk_needs_run.specs.Run.{faults_in}
use Rattle.dk_needs_run.proofs.reading.faults_in.Given as goal

abbrev pub invariant-loop-account : goal.invariant-loop-account
invariant-loop-account l = l.sum ≡ faults_in (take l.account-index l.accounts)
