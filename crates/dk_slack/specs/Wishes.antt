-- The wishes for slack of the nodes, per level, the oldest call first: what the calls ask and change.
use Rattle.std.specs.Prelude.{ℕ, ◌-◌, Bool, false, not, ◌==◌, nat_lt, if◌then◌else◌, List, [], ◌∷◌, ◌++◌, map, filter, find, get_or, slice_get, slice_set, Option}
use Rattle.std.specs.Option.{option_map, option_map_or}
use Rattle.dk_config.specs.Sums.{first_of}

-- a node still asks for so many ticks of slack, of which the next ones, as many as entering says, are its switch in
pub record Wish : Type 0 where
  pub node : ℕ
  pub amount : ℕ
  pub entering : ℕ

abbrev pub wishes_at : List (List Wish) → ℕ → List Wish
wishes_at wishes level = get_or wishes level []

abbrev pub is_of : ℕ → Wish → Bool
is_of node w = node == w.node

-- the wish of the node, if it has one
abbrev pub wish_of : ℕ → List (List Wish) → Option Wish
wish_of node wishes = first_of (find (is_of node)) wishes

-- how many ticks of slack the node still asks for
abbrev pub want : ℕ → List (List Wish) → ℕ
want node wishes = option_map_or (λ w. w.amount) (wish_of node wishes) 0

-- whether the next tick of slack of the node is its switch in
abbrev pub is_entering : ℕ → List (List Wish) → Bool
is_entering node wishes = option_map_or (λ w. nat_lt 0 w.entering) (wish_of node wishes) false

-- the node of the oldest wish of the level
abbrev pub first_node : ℕ → List (List Wish) → Option ℕ
first_node level wishes = option_map (λ w. w.node) (slice_get (wishes_at wishes level) 0)

-- the node has no wish, and all others keep their order
abbrev pub dropped : ℕ → List (List Wish) → List (List Wish)
dropped node wishes = map (filter (λ w. not (is_of node w))) wishes

-- the wish stands behind the last one of the level
abbrev pub put_last : ℕ → Wish → List (List Wish) → List (List Wish)
put_last level w wishes = slice_set wishes level (wishes_at wishes level ++ w ∷ [])

-- the wish stands last at the level, in place of an earlier one of its node
abbrev pub asked : ℕ → Wish → List (List Wish) → List (List Wish)
asked level w wishes = put_last level w (dropped w.node wishes)

-- the wish after so many ticks of slack of the node
abbrev pub lowered_for : ℕ → ℕ → Wish → Wish
lowered_for node ticks w =
    if is_of node w then record { node = w.node; amount = w.amount - ticks; entering = w.entering - ticks } else w

-- and after one
abbrev pub lowered : ℕ → Wish → Wish
lowered node w = lowered_for node 1 w

-- the wishes after a tick of slack of the node; a wish that reaches 0 goes
abbrev pub spent : ℕ → List (List Wish) → List (List Wish)
spent node wishes = if want node wishes == 1 then dropped node wishes else map (map (lowered node)) wishes

-- the wishes after so many, where something of its wish is left after them
abbrev pub spent_for : ℕ → ℕ → List (List Wish) → List (List Wish)
spent_for node ticks wishes = map (map (lowered_for node ticks)) wishes
