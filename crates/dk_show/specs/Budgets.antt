-- What measured times come to under a configuration, certified or not.
use Rattle.std.specs.Prelude.{ℕ, ◌≡◌, length, nat_lt, if◌then◌else◌, List, Option, Some, None, Result, Ok, Err}
use Rattle.dk_config.specs.Configuration.{Configuration}
use Rattle.dk_config.specs.declared.TheConstants.{MAX_CONFIG_BYTES}
use Rattle.dk_loader.specs.declared.fault.LoadFault.{LoadFault}
use Rattle.dk_loader.specs.declared.fault.LoadFault.TheVariants as fault
use Rattle.dk_loader.specs.Reading.{reading}
use Rattle.dk_show_request.specs.declared.request.BudgetsForm.{BudgetsForm}
use Rattle.dk_show_request.specs.declared.request.BudgetsForm.TheVariants as asked
use Rattle.show_budgets.specs.declared.report.BudgetForm.{BudgetForm}
use Rattle.show_budgets.specs.declared.report.BudgetForm.TheVariants as form
use Rattle.show_budgets.specs.declared.report.Budgets.{Budgets}
use Rattle.show_budgets.specs.declared.report.Ended.{Ended}
use Rattle.show_budgets.specs.declared.report.Ended.TheVariants as end
use Rattle.show_budgets.specs.Report.{AreBudgets}
use Rattle.dk_show.specs.declared.refusal.Refusal.{Refusal}
use Rattle.dk_show.specs.declared.refusal.Refusal.TheVariants as why
use Rattle.dk_show.specs.declared.status.Status.{Status}
use Rattle.dk_show.specs.declared.status.Status.TheVariants as status

abbrev pub budget_form : BudgetsForm → BudgetForm
budget_form asked.Plain = form.Text
budget_form asked.Csv = form.Table
budget_form asked.Toml = form.Toml

-- certified with all budgets, not certified, or at fault
abbrev pub budgets_end : Ended → Status
budgets_end end.Certified = status.Done
budgets_end end.Uncertified = status.Uncertified
budgets_end end.Faulty = status.Refused

-- what the bytes of a table come to
pub record IsOfTimes (asked_form : BudgetsForm) (percent : ℕ) (c : Configuration) (table text : List ℕ) (ended : Status) : Type 0 where
  pub told : Budgets
  pub are : AreBudgets (budget_form asked_form) c percent table told
  pub is : text ≡ told.text.items
  pub ends : ended ≡ budgets_end told.ended

-- the configuration of a document, certified or not
abbrev pub config_in : Result Configuration LoadFault → Result Configuration Refusal
config_in (Ok c) = Ok c
config_in (Err fault.NotToml) = Err why.NotToml
config_in (Err (fault.Config f)) = Err (why.Rule f)
config_in (Err _) = Err why.NoMemory

abbrev pub config_at : Option (List ℕ) → Result Configuration Refusal
config_at None = Err why.Depot
config_at (Some bytes) = if nat_lt MAX_CONFIG_BYTES (length bytes) then Err why.LongConfig else config_in (reading bytes)
