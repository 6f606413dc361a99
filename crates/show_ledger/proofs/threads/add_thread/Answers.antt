use Rattle.std.proofs.Common.{ℕ, ◌≡◌, ◌∙◌, ◌++◌, List, ap, map, rules}
use Rattle.std.proofs.lemmas.List.{map-append}
use Rattle.dk_window_report.proofs.OnOk.{on-ok}
use Rattle.show_rows.specs.Rows.{cell_text, told}
use Rattle.show_ledger.specs.declared.threads.TheConstants.{COLUMNS, THREAD}
use Rattle.show_ledger.specs.Threads.{account_of_row, befallen_row, own_row}
use Rattle.show_ledger.proofs.threads.add_thread.Goals as goal

pub returns : goal.returns
returns c =
    let h = c.args.header.now in
    let r = c.args.row.now in
    let own = c.own_cells.result in
    let befallen = c.befallen_cells-befallen.result in
    let cells : c.as_slice.result.now ≡ own ++ befallen = search rules in
    let row : map cell_text c.as_slice.result.now ≡ own_row h r ++ befallen_row h (account_of_row c.args.accounts.now r) =
    ap (map cell_text) cells ∙ map-append cell_text own befallen
    ∙ ap (λ t. t ++ map cell_text befallen) c.own_cells.ensures
    ∙ ap (λ t. own_row h r ++ t) (c.befallen_cells-befallen.ensures ∙ ap (befallen_row h) c.account_of_row.ensures) in
    on-ok c.add_row.result _ _
    (λ is. is ∙ ap (λ (cells : List (List ℕ)). c.args.out.now.items ++ told c.args.form COLUMNS.now THREAD.now cells) row)
    c.add_row.ensures
