-- What limits a number.
use Rattle.std.specs.Prelude.{ℕ, ◌-◌, ◌/◌, ◌≤◌, ◌<◌, ◌≡◌, ◌↔◌, List, Some, slice_get}
use Rattle.dk_config.specs.declared.rows.ProcessRow.{ProcessRow}
use Rattle.dk_config.specs.declared.TheConstants.{MAX_COST, MAX_SPAN}

-- the greatest cost of a switch for the budget of the row
abbrev pub room_of : ProcessRow → ℕ
room_of row = (row.budget - 1) / 2

-- the greatest cost of a switch for the budgets of the first rows
pub record LimitsSwitch (rows : List ProcessRow) (count most : ℕ) : Type 0 where
  pub few : most ≤ MAX_COST
  pub each : (i : ℕ) (row : ProcessRow) → i < count → slice_get rows i ≡ Some row → most ≤ room_of row
  pub greatest : (w : ℕ) → w ≤ MAX_COST
      → ((i : ℕ) (row : ProcessRow) → i < count → slice_get rows i ≡ Some row → w ≤ room_of row) → w ≤ most

-- of the numbers up to 1,000,000 the fact holds of those up to the limit alone
abbrev pub HoldsUpTo : ℕ → (ℕ → Type 0) → Type 0
HoldsUpTo limit P = (n : ℕ) → n ≤ MAX_SPAN → P n ↔ (n ≤ limit)

-- the fact holds at each of the first levels
abbrev pub AtEach : ℕ → (ℕ → ℕ → Type 0) → ℕ → Type 0
AtEach count Fits n = (j : ℕ) → j < count → Fits j n
