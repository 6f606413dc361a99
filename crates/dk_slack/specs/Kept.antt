-- How the wishes are kept: the rail has the nodes that ask, and a row for each node has what it asks for.
use Rattle.std.specs.Prelude.{ℕ, ◌≡◌, ◌≤◌, Bool, nat_lt, List, length, map, get_or}
use Rattle.std.specs.List.{list_any}
use Rattle.dk_config.specs.declared.TheConstants.{MAX_COST, MAX_LEVELS}
use Rattle.dk_rail.specs.Queues.{Queues, holds}
use Rattle.dk_slack.specs.Wishes.{Wish}
use Rattle.dk_slack.specs.declared.wanted.Wanted.{Wanted}

-- the row of a node, and nothing where there is no such node
abbrev pub row_of : List Wanted → ℕ → Wanted
row_of rows node = get_or rows node (record { amount = 0; entering = 0 })

abbrev pub wish_at : List Wanted → ℕ → Wish
wish_at rows node = record { node = node; amount = (row_of rows node).amount; entering = (row_of rows node).entering }

-- the wishes of the nodes in the queues
abbrev pub wishes_in : List Wanted → List (List ℕ) → List (List Wish)
wishes_in rows lists = map (map (wish_at rows)) lists

abbrev pub is_queued : List (List ℕ) → ℕ → Bool
is_queued lists node = list_any (holds node) lists

-- a node stands in a queue exactly where it asks for slack
abbrev pub AreTied : List Wanted → List (List ℕ) → Type 0
AreTied rows lists = (node : ℕ) → is_queued lists node ≡ nat_lt 0 (row_of rows node).amount

-- what holds of these fields of every table
pub record IsSound (queues : Queues) (rows : List Wanted) (switch : ℕ) (spares : List ℕ) : Type 0 where
  pub nodes : queues.nodes ≡ length rows
  pub levels : length queues.lists ≡ length spares
  pub few_levels : length spares ≤ MAX_LEVELS
  pub few_ticks : switch ≤ MAX_COST
  pub tied : AreTied rows queues.lists
