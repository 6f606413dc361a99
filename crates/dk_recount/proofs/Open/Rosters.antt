-- What giving the rows their shares does to the seats and the queues.
use Rattle.dk_recount.proofs.Names.{◌≡◌, ◌<◌, ◌∙◌, inl, inr, ◌&&◌, ◌||◌, Bool, true, false, cond, eqb, ℕ, zero, suc, List, [], ◌∷◌, ◌++◌, length, map, get_or, refl, ap, sym, subst, arith, slice_set, filter, not, is_some, eqb-true, cond-true, cond-false, ne_eqb, eq-eqb, append-nil, append_assoc, get_or-set_same, Has, Clock, begins_at, ThreadRow, Book, Wish, dropped, wishes_at, holds, pushed, queue_at, Roster, released, seat_at, vacant, set-other, nowhere, Absent, holds-append, CanAllSit, given, given_one, quieted, quieted_one, seat_in, share_in, node_on, nat_tests}
use Rattle.dk_slack.specs.Wishes.{is_of}
use Rattle.dk_recount.proofs.Open.Sizes.{given-seats, given-lists}

-- no two rows have one node
abbrev pub AreApart : List ThreadRow → Type 0
AreApart [] = Unit {0}
AreApart (row ∷ rows) = ((y : ThreadRow) → Has rows y → node_on y ≡ node_on row → ⊥) × AreApart rows

module _ (b : Book) (w : Clock) where
  -- the row's thread goes into the queue of level k
  abbrev pub gets : ℕ → ThreadRow → Bool
  gets k row = begins_at w row.level && (eqb row.level k && not (eqb (share_in b w row) 0))

  abbrev added : Bool → ThreadRow → List ℕ
  added on row = cond on (node_on row ∷ []) []

  one-queue : (row : ThreadRow) (r : Roster) (k : ℕ) → row.level < length r.ready.lists
      → queue_at (given_one b w row r).ready.lists k ≡ queue_at r.ready.lists k ++ added (gets k row) row
  one-queue row r k known = by-begin (begins_at w row.level)
    where
      by-level : (same : Bool) → eqb row.level k ≡ same
          → get_or (slice_set r.ready.lists row.level (queue_at r.ready.lists row.level ++ node_on row ∷ [])) k [] ≡ queue_at r.ready.lists k ++ added (same && true) row
      by-level true on =
          let is : row.level ≡ k = eqb-true row.level k on in
          subst (λ j. get_or (slice_set r.ready.lists row.level (queue_at r.ready.lists row.level ++ node_on row ∷ [])) j [] ≡ queue_at r.ready.lists j ++ node_on row ∷ []) is
          (get_or-set_same r.ready.lists row.level (queue_at r.ready.lists row.level ++ node_on row ∷ []) [] known)
      by-level false off =
          set-other r.ready.lists row.level k (queue_at r.ready.lists row.level ++ node_on row ∷ []) [] off ∙ sym (append-nil (queue_at r.ready.lists k))

      by-share : (none : Bool) → queue_at (cond none r.ready (record { nodes = r.ready.nodes; lists = pushed r.ready.lists row.level (node_on row) })).lists k
          ≡ queue_at r.ready.lists k ++ added (eqb row.level k && not none) row
      by-share true = sym (nothing (eqb row.level k))
        where
          nothing : (same : Bool) → queue_at r.ready.lists k ++ added (same && false) row ≡ queue_at r.ready.lists k
          nothing true = append-nil (queue_at r.ready.lists k)
          nothing false = append-nil (queue_at r.ready.lists k)
      by-share false = by-level (eqb row.level k) refl

      by-begin : (on : Bool) → queue_at (cond on (released (node_on row) (seat_in b w row) r) r).ready.lists k
          ≡ queue_at r.ready.lists k ++ added (on && (eqb row.level k && not (eqb (share_in b w row) 0))) row
      by-begin true = by-share (eqb (share_in b w row) 0)
      by-begin false = sym (append-nil (queue_at r.ready.lists k))

  one-lists : (row : ThreadRow) (r : Roster) → length (given_one b w row r).ready.lists ≡ length r.ready.lists
  one-lists row r = given-lists b w (row ∷ []) r

  -- the queues
  pub given-queue : (xs : List ThreadRow) (r : Roster) (k : ℕ) → ((row : ThreadRow) → Has xs row → row.level < length r.ready.lists)
      → queue_at (given b w xs r).ready.lists k ≡ queue_at r.ready.lists k ++ map node_on (filter (gets k) xs)
  given-queue [] r k known = sym (append-nil (queue_at r.ready.lists k))
  given-queue (row ∷ xs) r k known =
      given-queue xs (given_one b w row r) k (λ z h. let same = one-lists row r in let low = known z (inr h) in omega (arith, same, low))
      ∙ ap (λ queue. queue ++ map node_on (filter (gets k) xs)) (one-queue row r k (known row (inl refl)))
      ∙ append_assoc (queue_at r.ready.lists k) (added (gets k row) row) (map node_on (filter (gets k) xs))
      ∙ ap (λ more. queue_at r.ready.lists k ++ more) (last (gets k row) refl)
    where
      last : (on : Bool) → gets k row ≡ on → added on row ++ map node_on (filter (gets k) xs) ≡ map node_on (filter (gets k) (row ∷ xs))
      last true on = ap (map node_on) (sym (cond-true (gets k row) (row ∷ filter (gets k) xs) (filter (gets k) xs) on))
      last false off = ap (map node_on) (sym (cond-false (gets k row) (row ∷ filter (gets k) xs) (filter (gets k) xs) off))

  -- a node that isn't the row's stays where it is
  one-absent : (row : ThreadRow) (r : Roster) (node : ℕ) → row.level < length r.ready.lists → (node ≡ node_on row → ⊥) → Absent node r → Absent node (given_one b w row r)
  one-absent row r node known other free k less =
      let same = one-lists row r in
      ap (holds node) (one-queue row r k known)
      ∙ holds-append node (queue_at r.ready.lists k) (added (gets k row) row)
      ∙ ap (λ on. on || holds node (added (gets k row) row)) (free k (omega (arith, same, less)))
      ∙ nothing (gets k row)
    where
      off : eqb node (node_on row) ≡ false
      off = ne_eqb node (node_on row) other

      nothing : (on : Bool) → holds node (added on row) ≡ false
      nothing true = rw off refl
      nothing false = refl

  -- all rows can sit
  pub can-sit : (xs : List ThreadRow) (r : Roster) → AreApart xs → ((row : ThreadRow) → Has xs row → (node_on row < length r.seats) × (row.level < length r.ready.lists))
      → ((row : ThreadRow) → Has xs row → begins_at w row.level ≡ true → Absent (node_on row) r) → CanAllSit b w xs r
  can-sit [] r apart known free = tt
  can-sit (row ∷ xs) r apart known free =
      let here = known row (inl refl) in
      let seats = given-seats b w (row ∷ []) r in
      let lists = one-lists row r in (
        record { node = here.0; queue = here.1; free = λ on. ap is_some (nowhere (node_on row) 0 r.ready.lists (free row (inl refl) on)) },
        can-sit xs (given_one b w row r) apart.1
            (λ z h. let low = known z (inr h) in let a = low.0 in let z' = low.1 in (omega (arith, a, seats), omega (arith, z', lists)))
            (λ z h on. one-absent row r (node_on z) here.1 (apart.0 z h) (free z (inr h) on)),
      )

  one-seat-other : (row : ThreadRow) (r : Roster) (node : ℕ) → (begins_at w row.level ≡ true → node_on row ≡ node → ⊥) → seat_at (given_one b w row r) node ≡ seat_at r node
  one-seat-other row r node other = go (begins_at w row.level) refl
    where
      go : (on : Bool) → begins_at w row.level ≡ on → seat_at (cond on (released (node_on row) (seat_in b w row) r) r) node ≡ seat_at r node
      go true on = set-other r.seats (node_on row) node (seat_in b w row) vacant (ne_eqb (node_on row) node (other on))
      go false off = refl

  -- nobody else sits down on the node
  pub seat-other : (xs : List ThreadRow) (r : Roster) (node : ℕ) → ((row : ThreadRow) → Has xs row → begins_at w row.level ≡ true → node_on row ≡ node → ⊥)
      → seat_at (given b w xs r) node ≡ seat_at r node
  seat-other [] r node other = refl
  seat-other (row ∷ xs) r node other = grind (arith, nat_tests, one-seat-other, seat-other xs)

  -- the row's thread sits on its node
  pub seat-of-row : (xs : List ThreadRow) (r : Roster) (row : ThreadRow) → AreApart xs → Has xs row → begins_at w row.level ≡ true → node_on row < length r.seats
      → seat_at (given b w xs r) (node_on row) ≡ seat_in b w row
  seat-of-row [] r row apart h on less = absurd h
  seat-of-row (z ∷ xs) r row apart (inl is) on less = grind (arith, nat_tests, seat-other, cond-true, get_or-set_same)
  seat-of-row (z ∷ xs) r row apart (inr h) on less =
      let seats = given-seats b w (z ∷ []) r in
      seat-of-row xs (given_one b w z r) row apart.1 h on (omega (arith, less, seats))

  -- The wishes.

  wishes-map : (f : List Wish → List Wish) (wishes : List (List Wish)) (k : ℕ) → f [] ≡ [] → wishes_at (map f wishes) k ≡ f (wishes_at wishes k)
  wishes-map f [] k none = sym none
  wishes-map f (v ∷ wishes) zero none = refl
  wishes-map f (v ∷ wishes) (suc k) none = wishes-map f wishes k none

  one-wishes : (row : ThreadRow) (wishes : List (List Wish)) (k : ℕ)
      → wishes_at (quieted_one w row wishes) k ≡ cond (begins_at w row.level) (filter (λ v. not (is_of (node_on row) v)) (wishes_at wishes k)) (wishes_at wishes k)
  one-wishes row wishes k = go (begins_at w row.level)
    where
      go : (on : Bool) → wishes_at (cond on (dropped (node_on row) wishes) wishes) k
          ≡ cond on (filter (λ v. not (is_of (node_on row) v)) (wishes_at wishes k)) (wishes_at wishes k)
      go true = wishes-map (filter (λ v. not (is_of (node_on row) v))) wishes k refl
      go false = refl

  filter-all : (node : ℕ) (vs : List Wish) → ((v : Wish) → Has vs v → node ≡ v.node → ⊥) → filter (λ v. not (is_of node v)) vs ≡ vs
  filter-all node [] other = refl
  filter-all node (v ∷ vs) other =
      let off : eqb node v.node ≡ false = ne_eqb node v.node (other v (inl refl)) in
      rw off (ap (λ rest. v ∷ rest) (filter-all node vs (λ u h. other u (inr h))))

  -- the wishes of other nodes stay
  pub wishes-stay : (xs : List ThreadRow) (wishes : List (List Wish)) (k : ℕ)
      → ((row : ThreadRow) (v : Wish) → Has xs row → begins_at w row.level ≡ true → Has (wishes_at wishes k) v → node_on row ≡ v.node → ⊥)
      → wishes_at (quieted w xs wishes) k ≡ wishes_at wishes k
  wishes-stay [] wishes k other = refl
  wishes-stay (row ∷ xs) wishes k other =
      wishes-stay xs (quieted_one w row wishes) k (λ z v h on has. other z v (inr h) on (subst (λ vs. Has vs v) (here (begins_at w row.level) refl) has)) ∙ here (begins_at w row.level) refl
    where
      here : (on : Bool) → begins_at w row.level ≡ on → wishes_at (quieted_one w row wishes) k ≡ wishes_at wishes k
      here true on =
          one-wishes row wishes k ∙ cond-true (begins_at w row.level) (filter (λ v. not (is_of (node_on row) v)) (wishes_at wishes k)) (wishes_at wishes k) on
          ∙ filter-all (node_on row) (wishes_at wishes k) (λ v h. other row v (inl refl) on h)
      here false off =
          one-wishes row wishes k ∙ cond-false (begins_at w row.level) (filter (λ v. not (is_of (node_on row) v)) (wishes_at wishes k)) (wishes_at wishes k) off

  has-kept : (node : ℕ) (vs : List Wish) (v : Wish) → Has (filter (λ u. not (is_of node u)) vs) v → Has vs v × (node ≡ v.node → ⊥)
  has-kept node [] v h = absurd h
  has-kept node (u ∷ vs) v h = grind (arith, nat_tests, eq-eqb, has-kept node vs)

  -- what is left of the wishes was there, and is of no row whose window begins
  pub wishes-left : (xs : List ThreadRow) (wishes : List (List Wish)) (k : ℕ) (v : Wish) → Has (wishes_at (quieted w xs wishes) k) v
      → Has (wishes_at wishes k) v × ((row : ThreadRow) → Has xs row → begins_at w row.level ≡ true → node_on row ≡ v.node → ⊥)
  wishes-left [] wishes k v h = (h, λ row none on same. none)
  wishes-left (row ∷ xs) wishes k v h =
      let r = wishes-left xs (quieted_one w row wishes) k v h in
      let s = here (begins_at w row.level) refl r.0 in
      (s.0, λ z k on same. either z k on same s.1 r.1)
    where
      here : (on : Bool) → begins_at w row.level ≡ on → Has (wishes_at (quieted_one w row wishes) k) v
          → Has (wishes_at wishes k) v × (begins_at w row.level ≡ true → node_on row ≡ v.node → ⊥)
      here true on has =
          let r = has-kept (node_on row) (wishes_at wishes k) v
          (subst (λ vs. Has vs v) (one-wishes row wishes k ∙ cond-true (begins_at w row.level) (filter (λ u. not (is_of (node_on row) u)) (wishes_at wishes k)) (wishes_at wishes k) on) has) in
          (r.0, λ o. r.1)
      here false off has = (
        subst (λ vs. Has vs v) (one-wishes row wishes k ∙ cond-false (begins_at w row.level) (filter (λ u. not (is_of (node_on row) u)) (wishes_at wishes k)) (wishes_at wishes k) off) has,
        λ on same. absurd (cc),
      )

      either : (z : ThreadRow) → Has (row ∷ xs) z → begins_at w z.level ≡ true → node_on z ≡ v.node
          → (begins_at w row.level ≡ true → node_on row ≡ v.node → ⊥)
          → ((y : ThreadRow) → Has xs y → begins_at w y.level ≡ true → node_on y ≡ v.node → ⊥) → ⊥
      either z (inl is) on same one rest =
          one (subst (λ (y : ThreadRow). begins_at w y.level ≡ true) (sym is) on) (ap node_on is ∙ same)
      either z (inr h') on same one rest = rest z h' on same
