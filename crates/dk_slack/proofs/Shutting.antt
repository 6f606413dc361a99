-- The wishes once the threads that an event shuts have none.
use Rattle.dk_slack.proofs.Names.{◌≡◌, ◌<◌, ◌-◌, ◌*◌, ◌∙◌, inl, inr, ◌&&◌, not, Bool, true, false, eqb, ℕ, zero, suc, List, [], ◌∷◌, length, map, refl, ap, sym, subst, arith, filter, Contains, ◌↔◌, nat_lt, cases_Bool, and_parts, not-true, Configuration, ThreadId, Entry, Thread, threads, after_entry, Request, request, Wish, is_of, wishes_at, dropped, AreCounted, AreOldestFirst, ShutsAskers, asking, counted_wish, nat_tests}
use Rattle.dk_trace.specs.Members.{Has}
use Rattle.dk_trace.specs.Audit.{without_event}
use Rattle.dk_trace.specs.Slack.{want}
use Rattle.dk_trace.proofs.Members.{has-map, filter-has, map-has, contains-has, has-contains, has-filter}

-- Members of lists.

-- the wishes of a level once some are dropped
pub wishes-dropped : (node : ℕ) (wishes : List (List Wish)) (k : ℕ) → wishes_at (dropped node wishes) k ≡ filter (λ w. not (is_of node w)) (wishes_at wishes k)
wishes-dropped node [] k = refl
wishes-dropped node (ws ∷ wishes) zero = refl
wishes-dropped node (ws ∷ wishes) (suc k) = wishes-dropped node wishes k

module _ (c : Configuration) (e : Entry) (past : List Entry) (shut : Thread → Bool) (shuts : ShutsAskers c e past shut) where
  abbrev now : ℕ
  now = length past

  abbrev before : List Entry
  before = without_event e ∷ past

  abbrev after : Thread → Thread
  after = after_entry e (length past)

  -- whether the thread asks on
  abbrev stays : Thread → Bool
  stays x = not (shut x)

  abbrev left : List Thread → List Thread
  left xs = map after (filter stays xs)

  has-after : (x : Thread) → Has (threads c before) x → Has (threads c (e ∷ past)) (after x)
  has-after x h = subst (λ xs. Has xs (after x)) (sym shuts.rows) (map-has after (threads c before) x h)

  after-has : (y : Thread) → Has (threads c (e ∷ past)) y → (x : Thread) × Has (threads c before) x × (after x ≡ y)
  after-has y h = has-map after (threads c before) y (subst (λ xs. Has xs y) shuts.rows h)

  among : (k : ℕ) (x : Thread) → Has (asking c now before k) x → Has (threads c before) x × (((eqb x.level k) ≡ true) × (nat_lt 0 (want c now before x) ≡ true))
  among k x h = grind (arith, nat_tests, filter-has, and_parts)

  want-kept : (x : Thread) → Has (threads c before) x → shut x ≡ false → want c now (e ∷ past) (after x) ≡ want c now before x
  want-kept x h off = ap (λ (r : Request). r.amount - r.spent) (shuts.keeps x h off)

  left-has : (xs : List Thread) (x : Thread) → Has xs x → shut x ≡ false → Has (left xs) (after x)
  left-has xs x h off = map-has after (filter stays xs) x (has-filter stays xs x h (ap not off))

  has-left : (xs : List Thread) (y : Thread) → Has (left xs) y → (x : Thread) × Has xs x × (shut x ≡ false) × (after x ≡ y)
  has-left xs y h =
      let r = has-map after (filter stays xs) y h in
      let s = filter-has stays xs r.0 r.1 in
      (r.0, s.0, not-true (shut r.0) s.1, r.2)

  asks-after : (k : ℕ) (x : Thread) → Has (threads c before) x → shut x ≡ false → eqb x.level k ≡ true → nat_lt 0 (want c now before x) ≡ true
      → Has (asking c now (e ∷ past) k) (after x)
  asks-after k x h off level some = grind (arith, nat_tests, has-filter, has-after, want-kept)

  asked-before : (k : ℕ) (y : Thread) → Has (asking c now (e ∷ past) k) y
      → (x : Thread) × Has (asking c now before k) x × (shut x ≡ false) × (after x ≡ y)
  asked-before k y h =
      let r = filter-has (λ z. eqb z.level k && nat_lt 0 (want c now (e ∷ past) z)) (threads c (e ∷ past)) y h in
      let a = after-has y r.0 in
      let parts = and_parts (eqb y.level k) (nat_lt 0 (want c now (e ∷ past) y)) r.1 in
      go a.0 a.1 a.2 parts.0 parts.1
    where
      go : (x : Thread) → Has (threads c before) x → after x ≡ y → eqb y.level k ≡ true → nat_lt 0 (want c now (e ∷ past) y) ≡ true
          → (z : Thread) × Has (asking c now before k) z × (shut z ≡ false) × (after z ≡ y)
      go x has is level some =
          let level' : eqb x.level k ≡ true = ap (λ (z : Thread). eqb z.level k) is ∙ level in
          let some' : nat_lt 0 (want c now (e ∷ past) (after x)) ≡ true = ap (λ z. nat_lt 0 (want c now (e ∷ past) z)) is ∙ some in
          elim (cases_Bool (shut x)) [
            | inl on ↦ grind (arith, nat_tests)
            | inr off ↦ grind (arith, nat_tests, want-kept, has-filter)
          ]

  age-kept : (x : Thread) → Has (threads c before) x → shut x ≡ false → (request c now (e ∷ past) (after x)).age ≡ (request c now before x).age
  age-kept x h off = ap (λ (r : Request). r.age) (shuts.keeps x h off)

  order-kept : (xs : List Thread) → ((x : Thread) → Has xs x → Has (threads c before) x) → AreOldestFirst c now before xs → AreOldestFirst c now (e ∷ past) (left xs)
  order-kept [] known order = tt
  order-kept (x ∷ xs) known order = go (shut x) refl (order-kept xs (λ y h. known y (inr h)) order.1)
    where
      later : (y : Thread) → shut x ≡ false → Contains (left xs) y → (request c now (e ∷ past) y).age < (request c now (e ∷ past) (after x)).age
      later y off h =
          let r = has-left xs y (contains-has (left xs) y h) in
          let first = order.0 r.0 (has-contains xs r.0 r.1) in
          let a = age-kept r.0 (known r.0 (inr r.1)) r.2 in
          let b = age-kept x (known x (inl refl)) off in
          let e' : (request c now (e ∷ past) (after r.0)).age ≡ (request c now (e ∷ past) y).age = ap (λ z. (request c now (e ∷ past) z).age) r.3 in
          omega (arith, first, a, b, e')

      go : (b : Bool) → shut x ≡ b → AreOldestFirst c now (e ∷ past) (left xs) → AreOldestFirst c now (e ∷ past) (left (x ∷ xs))
      go true on rest = rw on rest
      go false off rest = rw off ((λ y h. later y off h), rest)

  -- the counted wishes of those that ask on
  pub wishes-left : (node_of node_of' : ThreadId → ℕ) (gone : Wish → Bool) (k : ℕ) (wishes : List Wish)
      → AreCounted node_of c now before k wishes
      → ((x : Thread) → Has (threads c before) x → nat_lt 0 (want c now before x) ≡ true → gone (counted_wish node_of c now before x) ≡ shut x)
      → ((x : Thread) → Has (threads c before) x → nat_lt 0 (want c now before x) ≡ true → shut x ≡ false → node_of' x.id ≡ node_of x.id)
      → AreCounted node_of' c now (e ∷ past) k (filter (λ w. not (gone w)) wishes)
  wishes-left node_of node_of' gone k wishes counted tells same = go counted.0 counted.1 counted.2 counted.3
    where
      one : (x : Thread) → Has (threads c before) x → nat_lt 0 (want c now before x) ≡ true → shut x ≡ false
          → counted_wish node_of c now before x ≡ counted_wish node_of' c now (e ∷ past) (after x)
      one x h some off =
          ap (λ n. record { node = n; amount = want c now before x; entering = (counted_wish node_of c now before x).entering }) (sym (same x h some off))
          ∙ ap (λ (r : Request). record { node = node_of' x.id; amount = r.amount - r.spent; entering = 2 * c.costs.switch - r.spent })
          (sym (shuts.keeps x h off))

      all : (xs : List Thread) → ((x : Thread) → Has xs x → Has (threads c before) x × (nat_lt 0 (want c now before x) ≡ true))
          → filter (λ w. not (gone w)) (map (counted_wish node_of c now before) xs) ≡ map (counted_wish node_of' c now (e ∷ past)) (left xs)
      all [] known = refl
      all (x ∷ xs) known =
          let k' = known x (inl refl) in
          let rest = all xs (λ y h. known y (inr h)) in
          let tell = tells x k'.0 k'.1 in
          elim (cases_Bool (shut x)) [
            | inl on ↦ let g : gone (counted_wish node_of c now before x) ≡ true = tell ∙ on in rw (g, on) rest
            | inr off ↦ grind (arith, nat_tests)
          ]

      go : (xs : List Thread) → ((x : Thread) → Contains xs x ↔ Contains (asking c now before k) x) → AreOldestFirst c now before xs
          → wishes ≡ map (counted_wish node_of c now before) xs → AreCounted node_of' c now (e ∷ past) k (filter (λ w. not (gone w)) wishes)
      go xs members order are =
          let in-asking : (x : Thread) → Has xs x → Has (asking c now before k) x =
          λ x h. contains-has (asking c now before k) x ((members x).0 (has-contains xs x h)) in
          let known : (x : Thread) → Has xs x → Has (threads c before) x × (nat_lt 0 (want c now before x) ≡ true) =
          λ x h. (let a = among k x (in-asking x h) in (a.0, a.1.1)) in (
            left xs,
            (λ y. (forth y, back y)),
            order-kept xs (λ x h. (known x h).0) order,
            ap (filter (λ w. not (gone w))) are ∙ all xs known,
          )
        where
          forth : (y : Thread) → Contains (left xs) y → Contains (asking c now (e ∷ past) k) y
          forth y h =
              let r = has-left xs y (contains-has (left xs) y h) in
              let a = among k r.0 (contains-has (asking c now before k) r.0 ((members r.0).0 (has-contains xs r.0 r.1))) in
              has-contains (asking c now (e ∷ past) k) y (subst (Has (asking c now (e ∷ past) k)) r.3 (asks-after k r.0 a.0 r.2 a.1.0 a.1.1))

          back : (y : Thread) → Contains (asking c now (e ∷ past) k) y → Contains (left xs) y
          back y h =
              let r = asked-before k y (contains-has (asking c now (e ∷ past) k) y h) in
              let has : Has xs r.0 = contains-has xs r.0 ((members r.0).1 (has-contains (asking c now before k) r.0 r.1)) in
              has-contains (left xs) y (subst (Has (left xs)) r.3 (left-has xs r.0 has r.2))
