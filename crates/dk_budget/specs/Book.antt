-- What contracts see of the loans: per process its lender, beside the numbers of the configuration that they need.
use Rattle.std.specs.Prelude.{ℕ, List, [], length, map, slice_get, None}
use Rattle.std.specs.Option.{option_map_or}
use Rattle.std.specs.List.{range_with_len}
use Rattle.dk_config.specs.Configuration.{Configuration}
use Rattle.dk_config.specs.Windows.{budget, main_level, max_level, slots}
use Rattle.dk_windows.specs.Clock.{periods_of}
use Rattle.dk_budget.specs.declared.lender.Lender.{Lender}

pub record Book : Type 0 where
  -- the switch cost
  pub switch : ℕ
  -- the period of each level
  pub periods : List ℕ
  -- per process, by its row
  pub lenders : List Lender

-- the period of a level, and 0 where there is no such level
abbrev pub period_in : List ℕ → ℕ → ℕ
period_in periods i = option_map_or (λ p. p) (slice_get periods i) 0

-- the process of that row, which has lent nothing
abbrev pub lender_of : Configuration → ℕ → Lender
lender_of c p = record {
  level = main_level c p;
  max_level = max_level c p;
  budget = budget c p;
  threads = slots c p;
  stop = None;
  loans = record { items = [] };
}

abbrev pub book_of : Configuration → Book
book_of c = record {
  switch = c.costs.switch;
  periods = periods_of c;
  lenders = map (lender_of c) (range_with_len 0 (length c.processes));
}
