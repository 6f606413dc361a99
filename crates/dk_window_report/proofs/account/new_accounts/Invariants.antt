use Rattle.std.proofs.Common.{◌≡◌, [], map}
use Rattle.dk_config.specs.Sums.{below}
use Rattle.dk_window_report.specs.Accounts.{account_of}
use Rattle.dk_window_report.proofs.account.new_accounts.Given as goal

abbrev pub invariant-loop-process : goal.invariant-loop-process
invariant-loop-process l = l.accounts.items ≡ map (account_of []) (below l.process)
