-- What every table of loans keeps.
use Rattle.std.specs.Prelude.{ℕ, ◌<◌, ◌≤◌, All, List, length}
use Rattle.dk_config.specs.declared.TheConstants.{MAX_CHILDREN, MAX_COST, MAX_LEVELS, MAX_PROCESSES, MAX_SPAN}
use Rattle.dk_budget.specs.declared.lender.Lender.{Lender}
use Rattle.dk_budget.specs.Loans.{lent}
use Rattle.dk_budget.specs.Book.{Book, period_in}

-- a process, under levels of these periods
pub record IsSoundLender (periods : List ℕ) (x : Lender) : Type 0 where
  pub level : x.level < length periods
  pub reach : x.max_level < length periods
  pub few : x.threads ≤ MAX_CHILDREN
  pub room : length x.loans.items ≤ x.threads
  -- the budget fits the main's window
  pub short : x.budget ≤ period_in periods x.level
  -- no more is lent than there is
  pub covered : lent x.loans.items ≤ x.budget
  pub levels : All (λ l. l.level < length periods) x.loans.items

pub record ArePeriods (periods : List ℕ) : Type 0 where
  pub few : length periods ≤ MAX_LEVELS
  pub positive : All (λ p. 0 < p) periods
  pub short : All (λ p. p ≤ MAX_SPAN) periods

pub record IsSound (b : Book) : Type 0 where
  pub switch : b.switch ≤ MAX_COST
  pub periods : ArePeriods b.periods
  pub few : length b.lenders ≤ MAX_PROCESSES
  pub lenders : All (IsSoundLender b.periods) b.lenders
