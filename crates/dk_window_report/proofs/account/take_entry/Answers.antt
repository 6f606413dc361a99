use Rattle.std.proofs.Common.{◌<◌, ◌≤◌, ◌∙◌, ap, sym, set, length, arith}
use Rattle.std.specs.Option.{option_map_or}
use Rattle.dk_window_report.specs.Accounts.{account_with, changed_account}
use Rattle.dk_window_report.proofs.Befallen.{account-changed, account-past}
use Rattle.dk_window_report.proofs.account.take_entry.Goals as goal

pub returns-then-place-len : goal.returns-then-place-len
returns-then-place-len c =
    let found = c.args.accounts.now.items in
    let f = account_with c.args.now c.args.entry in
    let i = c.in-Some.thread.process in
    let there : i < length found = omega (arith, c.if-place-len.true, c.len.ensures) in
    ap (set found i) (c.account_with.ensures ∙ ap f c.index.ensures)
    ∙ account-changed f found i c.index.result.now there
    ∙ ap (λ o. option_map_or (λ x. changed_account f x.process found) o found) (sym c.in-Some.is ∙ c.thread.ensures)

pub returns-else-place-len : goal.returns-else-place-len
returns-else-place-len c =
    let found = c.args.accounts.now.items in
    let f = account_with c.args.now c.args.entry in
    let i = c.in-Some.thread.process in
    let past : length found ≤ i = omega (arith, c.if-place-len.false, c.len.ensures) in
    account-past f found i past
    ∙ ap (λ o. option_map_or (λ x. changed_account f x.process found) o found) (sym c.in-Some.is ∙ c.thread.ensures)
