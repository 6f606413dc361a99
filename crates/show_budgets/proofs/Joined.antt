-- The budgets of all columns together.
use Rattle.std.proofs.Common.{ℕ, zero, suc, ◌≡◌, ◌∙◌, ◌<◌, ◌≤◌, ◌==◌, inl, inr, List, [], ◌∷◌, length, ap, subst, arith}
use Rattle.std.specs.Prelude.{if◌then◌else◌, map, slice_get, Option, Some, None}
use Rattle.std.specs.List.{AllByRecursion}
use Rattle.std.specs.Option.{option_map_or}
use Rattle.std.proofs.lemmas.Bool.{cases_Bool}
use Rattle.std.proofs.lemmas.Bool.Decides.{nat_tests}
use Rattle.dk_config.specs.Configuration.{Configuration}
use Rattle.dk_config.specs.declared.rows.ProcessRow.{ProcessRow}
use Rattle.dk_config.specs.Windows.{budget}
use Rattle.dk_times.specs.Laws.{AreTimes, IsTime}
use Rattle.dk_replay_run.specs.Jobs.{FitWindows}
use Rattle.dk_replay_run.specs.Laws.{UsesItsTable}
use Rattle.show_budgets.specs.Least.{IsLeastBudget, ask_of, longer, measure_of, times_for}
use Rattle.show_budgets.specs.Together.{FitTogether, LeastTogether, RunTogether, ask_budget, asked, rows_asked}
use Rattle.show_budgets.specs.declared.measure.Measure.{Measure}
use Rattle.show_budgets.proofs.Least.{fits, of_times}

row_asked : (f : ProcessRow → Option Measure) (rows : List ProcessRow) (p : ℕ) (row : ProcessRow) → slice_get rows p ≡ Some row
    → slice_get (rows_asked rows (map f rows)) p ≡ Some (record row { budget = ask_budget row.budget (f row) })
row_asked f [] p row at = absurd (cc)
row_asked f (r ∷ rows) zero row at =
    let same : r ≡ row = cc in
    ap (λ (r : ProcessRow). Some (record r { budget = ask_budget r.budget (f r) })) same
row_asked f (r ∷ rows) (suc p) row at = row_asked f rows p row at

has_asked : (c : Configuration) (p percent : ℕ) (table : List ℕ) (row : ProcessRow) → slice_get c.processes p ≡ Some row
    → budget (asked c percent table) p ≡ ask_budget row.budget (ask_of c percent table row)
has_asked c p percent table row at =
    ap (λ r. option_map_or (λ (r : ProcessRow). r.budget) r 0) (row_asked (ask_of c percent table) c.processes p row at)

pub least_together : AreTimes → LeastTogether
least_together are c p percent table row m at is =
    let ts = times_for c table row in
    let own = has_asked c p percent table row at ∙ ap (ask_budget row.budget) is in
    elim (cases_Bool (length ts == 0)) [
      | inl none ↦ let no : None ≡ Some m = rw none at is in absurd (cc)
      | inr some ↦
          let told : Some (measure_of c percent ts) ≡ Some m = rw some at is in
          let same : measure_of c percent ts ≡ m = cc in
          let many : 1 ≤ length ts = grind (arith, nat_tests, some) in
          let least = of_times (asked c percent table) p percent (record row { budget = ask_budget row.budget (ask_of c percent table row) }) ts
          (row_asked (ask_of c percent table) c.processes p row at) many (are c.costs.call row.name table) in
          (own, subst (λ (k : Measure). IsLeastBudget (asked c percent table) p (map (longer percent) ts) k.budget) same least)
    ]

none_fit : (d : Configuration) (p : ℕ) (ts : List ℕ) → length ts ≡ 0 → FitWindows d p ts
none_fit d p [] none = tt
none_fit d p (t ∷ ts) none = absurd (omega (arith, none))

low : (call : ℕ) (ts : List ℕ) → AllByRecursion (IsTime call) ts → AllByRecursion (λ t. call ≤ t) ts
low call [] all = tt
low call (t ∷ ts) all = (all.0.0, low call ts all.1)

pub fit_together : AreTimes → FitTogether
fit_together are c p percent table row at =
    let ts = times_for c table row in
    let d = asked c percent table in
    elim (cases_Bool (length ts == 0)) [
      | inl none ↦ none_fit d p ts (grind (arith, nat_tests, none))
      | inr some ↦
          let is : ask_of c percent table row ≡ Some (measure_of c percent ts) =
          ap (λ b. if b then None else Some (measure_of c percent ts)) some in
          let own = has_asked c p percent table row at ∙ ap (ask_budget row.budget) is in
          fits d p ts (low c.costs.call ts (are c.costs.call row.name table)) (omega (arith, own))
    ]

is_within : (rows : List ProcessRow) (p : ℕ) (row : ProcessRow) → slice_get rows p ≡ Some row → p < length rows
is_within [] p row at = absurd (cc)
is_within (r ∷ rows) zero row at = omega arith
is_within (r ∷ rows) (suc p) row at = let more = is_within rows p row at in omega (arith, more)

pub run_together : AreTimes → UsesItsTable → RunTogether
run_together are uses c programs p k percent table row can at no_child no_slack work program =
    let d = asked c percent table in
    uses d programs p k row.name table can.limits can.checked can.accepted
    (is_within d.processes p (record row { budget = ask_budget row.budget (ask_of c percent table row) })
    (row_asked (ask_of c percent table) c.processes p row at))
    no_child no_slack work (fit_together are c p percent table row at) program
