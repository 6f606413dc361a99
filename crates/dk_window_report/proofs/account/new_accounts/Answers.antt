use Rattle.std.proofs.Common.{◌≡◌, ◌+◌, ◌∙◌, ◌++◌, ◌∷◌, [], suc, ap, sym, map, arith}
use Rattle.dk_config.specs.Sums.{below}
use Rattle.dk_window_report.specs.declared.account.Account.{Account}
use Rattle.dk_window_report.specs.Accounts.{account_of}
use Rattle.dk_window_report.proofs.Befallen.{accounts-more}
use Rattle.dk_window_report.proofs.account.new_accounts.Goals as goal

pub loop-process-preserved : goal.loop-process-preserved
loop-process-preserved c =
    let n = c.loop-process.process in
    let step : suc n ≡ n + 1 = omega arith in
    c.in_ok-push.ensures.items ∙ ap (λ found. found ++ c.new_account.result ∷ []) c.loop-process.invariant
    ∙ ap (λ (a : Account). map (account_of []) (below n) ++ a ∷ []) c.new_account.ensures
    ∙ sym (accounts-more [] n) ∙ ap (λ k. map (account_of []) (below k)) step
