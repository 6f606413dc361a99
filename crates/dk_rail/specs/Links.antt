-- How queues stand in the cells of a block. With n nodes and q queues there are m = n + q ends: the
-- nodes, and an end n + k for each queue k. The cells are the next end of each end, the one before
-- each end, and for each node 1 more than its queue, or 0 where it is in none.
use Rattle.std.specs.Prelude.{◌≡◌, ◌≢◌, ℕ, zero, suc, ◌+◌, ◌*◌, ◌<◌, eqb, true, cond, nat_lt, List, [], ◌∷◌, map, length, slice_index}
use Rattle.std.specs.List.{range_with_len, IsDistinct}
use Rattle.dk_rail.specs.Queues.{holds}

abbrev pub next : List ℕ → ℕ → ℕ
next c i = slice_index c i

abbrev pub prev : List ℕ → ℕ → ℕ → ℕ
prev c m i = slice_index c (m + i)

abbrev pub owner : List ℕ → ℕ → ℕ → ℕ
owner c m i = slice_index c (2 * m + i)

-- the nodes from an end on, up to the end of a queue; at most as many as the fuel
abbrev pub follow : List ℕ → ℕ → ℕ → ℕ → List ℕ
follow c n zero a = []
follow c n (suc fuel) a = cond (nat_lt a n) (a ∷ follow c n fuel (next c a)) []

abbrev pub list_at : List ℕ → ℕ → ℕ → List ℕ
list_at c n k = follow c n n (next c (n + k))

abbrev pub lists_of : List ℕ → ℕ → ℕ → List (List ℕ)
lists_of c n q = map (list_at c n) (range_with_len 0 q)

-- b stands next after a
pub record IsStep (c : List ℕ) (m a b : ℕ) : Type 0 where
  pub after : next c a ≡ b
  pub before : prev c m b ≡ a

-- from the end a the nodes of a list follow, each in queue k, and then the end b
abbrev pub IsPath : List ℕ → ℕ → ℕ → ℕ → ℕ → List ℕ → ℕ → Type 0
IsPath c n m k a [] b = IsStep c m a b
IsPath c n m k a (x ∷ xs) b = IsStep c m a x × (x < n) × (owner c m x ≡ suc k) × IsPath c n m k x xs b

-- the queues stand in the cells
pub record IsLinked (c : List ℕ) (n q : ℕ) (lists : ℕ → List ℕ) : Type 0 where
  pub covers : length c ≡ 2 * (n + q) + n
  pub rings : (k : ℕ) → k < q → IsPath c n (n + q) k (n + k) (lists k) (n + k)
  pub apart : (k : ℕ) → k < q → IsDistinct eqb (lists k)
  pub owned : (x k : ℕ) → x < n → owner c (n + q) x ≡ suc k → (k < q) × (holds x (lists k) ≡ true)

-- the cells after the node x was put before the end s, behind the one that was last
pub record IsPushed (c d : List ℕ) (m s x k : ℕ) : Type 0 where
  pub covers : length d ≡ length c
  pub next_last : next d (prev c m s) ≡ x
  pub next_node : next d x ≡ s
  pub next_other : (i : ℕ) → i < m → i ≢ prev c m s → i ≢ x → next d i ≡ next c i
  pub prev_node : prev d m x ≡ prev c m s
  pub prev_end : prev d m s ≡ x
  pub prev_other : (i : ℕ) → i < m → i ≢ x → i ≢ s → prev d m i ≡ prev c m i
  pub owner_node : owner d m x ≡ suc k
  pub owner_other : (i : ℕ) → 2 * m + i < length c → i ≢ x → owner d m i ≡ owner c m i

-- the cells after the node x was taken out
pub record IsUnlinked (c d : List ℕ) (m x : ℕ) : Type 0 where
  pub covers : length d ≡ length c
  pub next_before : next d (prev c m x) ≡ next c x
  pub next_other : (i : ℕ) → i < m → i ≢ prev c m x → next d i ≡ next c i
  pub prev_after : prev d m (next c x) ≡ prev c m x
  pub prev_other : (i : ℕ) → i < m → i ≢ next c x → prev d m i ≡ prev c m i
  pub owner_node : owner d m x ≡ 0
  pub owner_other : (i : ℕ) → 2 * m + i < length c → i ≢ x → owner d m i ≡ owner c m i
