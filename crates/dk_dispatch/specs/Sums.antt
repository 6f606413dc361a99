-- Sums of shares by level.
use Rattle.std.specs.Prelude.{ℕ, ◌≡◌, ◌+◌, ◌≤◌, ◌^◌, List, get_or, length}
use Rattle.dk_windows.specs.Clock.{Clock}
use Rattle.dk_threads.specs.declared.row.ThreadRow.{ThreadRow}
use Rattle.dk_budget.specs.Book.{Book}
use Rattle.dk_recount.specs.Opening.{is_between, shares_in}

-- each sum stays short where so much is added to it
abbrev pub HasRoom : ℕ → List ℕ → Type 0
HasRoom most sums = (k : ℕ) → get_or sums k 0 + most ≤ 2 ^ 60

-- the sum of each level up to the last has grown by the shares of its rows, and no sum by more than so much
pub record IsAdded (b : Book) (w : Clock) (last : ℕ) (rows : List ThreadRow) (most : ℕ)
    (before after : List ℕ) : Type 0 where
  pub size : length after ≡ length before
  pub sums : (k : ℕ) → k ≤ last → get_or after k 0 ≡ get_or before k 0 + shares_in b w (is_between k k) rows
  pub few : (k : ℕ) → get_or after k 0 ≤ get_or before k 0 + most
