use Rattle.std.proofs.Common.{ℕ, List, ◌∙◌, ◌++◌, ap, subst, sym}
use Rattle.dk_ledger.specs.Heading.{name_of}
use Rattle.dk_window_report.specs.declared.row.Row.{Row}
use Rattle.dk_window_report.specs.Owners.{main_owner, numbers_of}
use Rattle.dk_window_report.proofs.OnOk.{on-ok}
use Rattle.show_ledger.specs.TenthsTable.{main_told}
use Rattle.show_ledger.specs.Told.{told_at}
use Rattle.show_ledger.proofs.Telling.{IsNow, to-now}
use Rattle.show_ledger.proofs.tenths.add_process.Goals as goal

pub returns : goal.returns
returns c =
    let h = c.args.header.now in
    let p = c.args.process in
    let t = c.args.told.now in
    let n = c.args.ticks in
    let old = c.args.out.now.items in
    let now = c.told_at-now.result in
    on-ok c.add_main.result _ _
    (λ is. λ past told ticks.
    let here : IsNow h p past now = subst (IsNow h p past) (sym (c.told_at-now.ensures ∙ ap (λ k. told_at k t) ticks)) (to-now h p past t told) in
    is
    ∙ ap (λ (name : List ℕ). old ++ main_told name now.row.counts.windows now.tenths) c.name_at.ensures
    ∙ ap (λ (r : Row). old ++ main_told (name_of h p) r.counts.windows now.tenths) here.row
    ∙ ap (λ (ns : List ℕ). old ++ main_told (name_of h p) (numbers_of past (main_owner h p)).windows ns) here.tenths)
    c.add_main.ensures
