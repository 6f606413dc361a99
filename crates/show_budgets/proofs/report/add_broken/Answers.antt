use Rattle.std.proofs.Common.{ℕ, ◌≡◌, ◌++◌, List, subst}
use Rattle.std.specs.Prelude.{OnOk}
use Rattle.show_rows.specs.declared.row.Form.{Form}
use Rattle.show_rows.specs.Rows.{told}
use Rattle.show_budgets.specs.Report.{broken_row, pattern}
use Rattle.show_budgets.specs.declared.report.TheConstants.{BROKEN, BROKEN_TOML, COLUMNS}
use Rattle.show_budgets.proofs.report.add_broken.Goals as goal

-- the line is that of the rule
pub returns : goal.returns
returns c =
    let old = c.args.out.now.items in
    let Added = λ (form : Form) (words : List ℕ) (row : List (List ℕ)).
    OnOk c.add_row.result (c.add_row.new.out.items ≡ old ++ told form COLUMNS.now words row) in
    let rows = subst (λ (row : List (List ℕ)). Added c.row_form.result c.pattern-words.result.now row) c.broken_cells-cells.ensures c.add_row.ensures in
    let words = subst (λ (words : List ℕ). Added c.row_form.result words (broken_row c.args.fault)) c.pattern-words.ensures rows in
    subst (λ (form : Form). Added form (pattern c.args.form BROKEN.now BROKEN_TOML.now) (broken_row c.args.fault)) c.row_form.ensures words
