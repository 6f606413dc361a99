-- What is told of the budgets that a table asks for.
use Rattle.std.specs.Prelude.{ℕ, ◌≡◌, ◌-◌, ◌<◌, nat_lt, Bool, if◌then◌else◌, List, [], ◌∷◌, ◌++◌, length, map, codes, decimal, Option, Some, None}
use Rattle.dk_config.specs.Configuration.{Configuration}
use Rattle.dk_config.specs.declared.rows.ProcessRow.{ProcessRow}
use Rattle.dk_config.specs.declared.fault.ConfigFault.{ConfigFault}
use Rattle.dk_certify.specs.declared.certified.Overload.{Overload}
use Rattle.show_rows.specs.declared.row.Form.{Form}
use Rattle.show_rows.specs.Rows.{head_told, told}
use Rattle.show_budgets.specs.declared.measure.Measure.{Measure}
use Rattle.show_budgets.specs.declared.together.Together.{Together}
use Rattle.show_budgets.specs.declared.report.BudgetForm.{BudgetForm}
use Rattle.show_budgets.specs.declared.report.Budgets.{Budgets}
use Rattle.show_budgets.specs.declared.report.Ended.{Ended}
use Rattle.show_budgets.specs.declared.report.TheConstants.{ALONE, BROKEN, BROKEN_TOML, CERTIFIED, CERTIFIED_TOML, COLUMNS, FAILING, FAILING_TOML, MEASURED, MEASURED_TOML, UNMEASURED}
use Rattle.show_budgets.specs.Least.{ask_of, longer}
use Rattle.show_budgets.specs.Together.{CanRun, together, with_asked}
use Rattle.show_budgets.specs.Wrong.{table_told}

-- a table has records, and the other forms have lines
abbrev pub row_form : BudgetForm → Form
row_form BudgetForm.Table = Form.Record
row_form BudgetForm.Text = Form.Line
row_form BudgetForm.Toml = Form.Line

abbrev pub pattern : BudgetForm → List ℕ → List ℕ → List ℕ
pattern BudgetForm.Toml text toml = toml
pattern BudgetForm.Text text toml = text
pattern BudgetForm.Table text toml = text

-- the longest job is longer than the second with the reserve, so without it the budget would have been too small
abbrev pub is_alone : ℕ → Measure → Bool
is_alone percent m = nat_lt (longer percent m.second) m.greatest

abbrev pub sentence : Bool → List ℕ
sentence alone = if alone then ALONE.now else MEASURED.now

abbrev pub measure_row : ProcessRow → Measure → List (List ℕ)
measure_row row m = codes "process" ∷ row.name ∷ decimal m.jobs ∷ decimal m.greatest ∷ decimal m.second ∷ decimal m.least
    ∷ decimal m.budget ∷ decimal row.budget ∷ [] ∷ [] ∷ [] ∷ [] ∷ [] ∷ []

abbrev pub kept_row : ProcessRow → List (List ℕ)
kept_row row = codes "unmeasured" ∷ row.name ∷ [] ∷ [] ∷ [] ∷ [] ∷ [] ∷ decimal row.budget ∷ [] ∷ [] ∷ [] ∷ [] ∷ [] ∷ []

-- what a process gets
abbrev pub ask_told : BudgetForm → ℕ → ProcessRow → Option Measure → List ℕ
ask_told form percent row (Some m) =
    told (row_form form) COLUMNS.now (pattern form (sentence (is_alone percent m)) MEASURED_TOML.now) (measure_row row m)
ask_told form percent row None = told (row_form form) COLUMNS.now (pattern form UNMEASURED.now []) (kept_row row)

-- what each process gets
abbrev pub rows_told : BudgetForm → ℕ → List ProcessRow → List (Option Measure) → List ℕ
rows_told form percent [] asks = []
rows_told form percent (row ∷ rows) [] = []
rows_told form percent (row ∷ rows) (ask ∷ asks) = ask_told form percent row ask ++ rows_told form percent rows asks

abbrev pub certified_row : List (List ℕ)
certified_row = codes "certified" ∷ [] ∷ [] ∷ [] ∷ [] ∷ [] ∷ [] ∷ [] ∷ [] ∷ [] ∷ [] ∷ [] ∷ [] ∷ []

-- the first level that may miss its window, and by how much
abbrev pub failing_row : Overload → List (List ℕ)
failing_row o = codes "failing" ∷ [] ∷ [] ∷ [] ∷ [] ∷ [] ∷ [] ∷ [] ∷ decimal o.level ∷ decimal o.needs ∷ decimal o.window
    ∷ decimal (o.needs - o.window) ∷ [] ∷ []

abbrev pub broken_row : ConfigFault → List (List ℕ)
broken_row fault = codes "broken" ∷ [] ∷ [] ∷ [] ∷ [] ∷ [] ∷ [] ∷ [] ∷ [] ∷ [] ∷ [] ∷ [] ∷ decimal fault.number ∷ []

abbrev pub verdict_told : BudgetForm → Together → List ℕ
verdict_told form Together.Certified = told (row_form form) COLUMNS.now (pattern form CERTIFIED.now CERTIFIED_TOML.now) certified_row
verdict_told form (Together.Fails o) = told (row_form form) COLUMNS.now (pattern form FAILING.now FAILING_TOML.now) (failing_row o)
verdict_told form (Together.Broken fault) = told (row_form form) COLUMNS.now (pattern form BROKEN.now BROKEN_TOML.now) (broken_row fault)

abbrev pub end_of : Together → Ended
end_of Together.Certified = Ended.Certified
end_of (Together.Fails o) = Ended.Uncertified
end_of (Together.Broken fault) = Ended.Uncertified

-- what each process gets, and whether the configuration with all these budgets certifies
pub record AreAsked (form : BudgetForm) (c : Configuration) (percent : ℕ) (asks : List (Option Measure)) (told : Budgets) : Type 0 where
  pub text : told.text.items ≡ head_told (row_form form) COLUMNS.now
      ++ (rows_told form percent c.processes asks ++ verdict_told form (together (with_asked c asks)))
  pub ended : told.ended ≡ end_of (together (with_asked c asks))
  -- so the laws of runs hold of it where it is told certified
  pub certain : told.ended ≡ Ended.Certified → CanRun (with_asked c asks)

-- all that is wrong with the table, and nothing else; and where nothing is, what each process gets by it
pub record AreBudgets (form : BudgetForm) (c : Configuration) (percent : ℕ) (table : List ℕ) (told : Budgets) : Type 0 where
  pub wrong : 0 < length (table_told c table) → (told.text.items ≡ table_told c table) × (told.ended ≡ Ended.Faulty)
  pub right : length (table_told c table) ≡ 0 → AreAsked form c percent (map (ask_of c percent table) c.processes) told
