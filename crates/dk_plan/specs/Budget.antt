-- The budgets that a process can have.
use Rattle.std.specs.Prelude.{ℕ, zero, suc, ◌≡◌, ◌<◌, ◌≤◌, Option, unwrap_or, List, [], ◌∷◌}
use Rattle.dk_config.specs.declared.rows.ProcessRow.{ProcessRow}
use Rattle.dk_config.specs.Configuration.{Configuration}
use Rattle.dk_config.specs.Checked.{BreaksNoRule}
use Rattle.dk_config.specs.declared.TheConstants.{MAX_SPAN}
use Rattle.dk_certify.specs.Verdicts.{verdict_of, rows_of}
use Rattle.dk_certify.specs.declared.certifying.Verdict.TheVariants.{Accepted}

-- the rows, with this budget in the one of this number
abbrev pub rows_with_budget : List ProcessRow → ℕ → ℕ → List ProcessRow
rows_with_budget [] process budget = []
rows_with_budget (row ∷ rows) zero budget = record row { budget = budget } ∷ rows
rows_with_budget (row ∷ rows) (suc process) budget = row ∷ rows_with_budget rows process budget

-- the configuration with this budget for the process, and else as it is
abbrev pub with_budget : Configuration → ℕ → ℕ → Configuration
with_budget c process budget = record c { processes = rows_with_budget c.processes process budget }

-- the verdict of the test is that the configuration is accepted
abbrev pub IsCertified : Configuration → Type 0
IsCertified c = verdict_of c ≡ Accepted (rows_of c)

-- with this budget for the process the configuration breaks none of the rules C4 to C13 and is accepted
pub record CanHave (c : Configuration) (process budget : ℕ) : Type 0 where
  pub unbroken : BreaksNoRule (with_budget c process budget)
  pub certified : IsCertified (with_budget c process budget)

-- the process can have no budget above the answer up to 1,000,000, and where there is no answer, none at all
abbrev pub NoGreater : Configuration → ℕ → Option ℕ → Type 0
NoGreater c process answer =
    (budget : ℕ) → unwrap_or answer 0 < budget → budget ≤ MAX_SPAN → ¬ CanHave c process budget
