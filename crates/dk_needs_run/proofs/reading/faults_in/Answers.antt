use Rattle.std.proofs.Common.{◌∙◌, arith}
use Rattle.dk_window_report.specs.declared.account.Account.{Account}
use Rattle.dk_window_report.proofs.Befallen.{no_account}
use Rattle.dk_needs_run.proofs.Sums.{sum_more}
use Rattle.dk_needs_run.proofs.reading.faults_in.Goals as goal

pub loop-account-preserved : goal.loop-account-preserved
loop-account-preserved c =
    c.saturating_add-sum.ensures
    ∙ sum_more (λ (a : Account). a.faults.count) c.args.accounts.now c.loop-account.account-index no_account c.loop-account.sum (omega arith) c.loop-account.invariant
