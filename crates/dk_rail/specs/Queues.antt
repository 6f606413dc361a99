-- What contracts see of a rail, and the words for its queues.
use Rattle.std.specs.Prelude.{ℕ, ◌≡◌, ◌<◌, Bool, not, ◌==◌, List, [], ◌∷◌, ◌++◌, map, filter, get_or, slice_set, Option}
use Rattle.std.specs.List.{list_any, position_from}

-- the number of nodes, and the nodes of each queue from its front on
pub record Queues : Type 0 where
  pub nodes : ℕ
  pub lists : List (List ℕ)

abbrev pub queue_at : List (List ℕ) → ℕ → List ℕ
queue_at lists k = get_or lists k []

abbrev pub holds : ℕ → List ℕ → Bool
holds node queue = list_any (λ x. node == x) queue

-- the queue that a node is in, if there is one
abbrev pub holder : List (List ℕ) → ℕ → Option ℕ
holder lists node = position_from (holds node) 0 lists

-- the node is put behind the last one of queue k
abbrev pub pushed : List (List ℕ) → ℕ → ℕ → List (List ℕ)
pushed lists k node = slice_set lists k (queue_at lists k ++ node ∷ [])

abbrev pub without : ℕ → List ℕ → List ℕ
without node queue = filter (λ x. not (node == x)) queue

-- the node is taken out, and all others keep their order
abbrev pub unlinked : List (List ℕ) → ℕ → List (List ℕ)
unlinked lists node = map (without node) lists

-- nobody waits in the queues before this one
abbrev pub AreQuiet : ℕ → List (List ℕ) → Type 0
AreQuiet quiet lists = (k : ℕ) → k < quiet → queue_at lists k ≡ []
