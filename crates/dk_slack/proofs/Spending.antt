-- The wishes once a tick of slack is past in which nothing happened.
use Rattle.dk_slack.proofs.Names.{◌≡◌, ◌≢◌, ℕ, zero, suc, ◌+◌, ◌-◌, ◌*◌, ◌<◌, Bool, true, false, not, ◌&&◌, cond, eqb, List, [], ◌∷◌, map, length, get_or, refl, sym, ap, subst, ◌∙◌, inl, inr, arith, nat_lt, ◌==◌, ◌↔◌, filter, None, lt-ltb, and_parts, eqb_tells, get_or-map, Configuration, ThreadId, Source, Label, Entry, is_same, Thread, threads, same-id, same-self, Request, aged, no_request, request, past_want, Slack, Wish, wishes_at, is_of, want, lowered, spent, IsRecount, HaveOwnNodes, AreCounted, AreOldestFirst, asking, counted_wish, nat_tests}
use Rattle.std.proofs.Common.{Contains}
use Rattle.dk_trace.specs.declared.Work.{Work}
use Rattle.dk_slack.proofs.Asked.{later, want-counted}
use Rattle.dk_slack.proofs.Ticks.{filter-passes, some-of, request-aged, threads-same}

-- an item of a filtered list
pub from-filter : (p : Thread → Bool) (xs : List Thread) (y : Thread) → Contains (filter p xs) y → Contains xs y × (p y ≡ true)
from-filter p xs y has = (inside xs has, subst (λ (z : Thread). p z ≡ true) has.2 (filter-passes p xs has.0 y has.1))
  where
    next : (x : Thread) (zs : List Thread) (rest : Contains (filter p zs) y → Contains zs y) (b : Bool) → Contains (cond b (x ∷ filter p zs) (filter p zs)) y → Contains (x ∷ zs) y
    next x zs rest true h = step h.0 h.1 h.2
      where
        step : (i : ℕ) → i < length (x ∷ filter p zs) → get_or (x ∷ filter p zs) i y ≡ y → Contains (x ∷ zs) y
        step zero low at = (0, omega arith, at)
        step (suc i) low at = later x zs y (rest (i, omega arith, at))
    next x zs rest false h = later x zs y (rest h)

    inside : (zs : List Thread) → Contains (filter p zs) y → Contains zs y
    inside [] h = absurd (omega (arith, h.1))
    inside (x ∷ zs) h = next x zs (inside zs) (p x) h

pub to-filter : (p : Thread → Bool) (xs : List Thread) (y : Thread) → Contains xs y → p y ≡ true → Contains (filter p xs) y
to-filter p [] y has passes = absurd (omega (arith, has.1))
to-filter p (x ∷ xs) y has passes = at (to-filter p xs y) has.0 has.1 has.2
  where
    beside : (b : Bool) → Contains (filter p xs) y → Contains (cond b (x ∷ filter p xs) (filter p xs)) y
    beside true h = later x (filter p xs) y h
    beside false h = h

    at : (Contains xs y → p y ≡ true → Contains (filter p xs) y) → (i : ℕ) → i < length (x ∷ xs) → get_or (x ∷ xs) i y ≡ y → Contains (filter p (x ∷ xs)) y
    at rest zero low is = let here : p x ≡ true = ap p is ∙ passes in rw here (0, omega arith, is)
    at rest (suc i) low is = beside (p x) (rest (i, omega arith, is) passes)

-- a thread of the level that asks
pub record IsAsking (c : Configuration) (now : ℕ) (past : List Entry) (k : ℕ) (y : Thread) : Type 0 where
  pub there : Contains (threads c past) y
  pub level : (y.level == k) ≡ true
  pub some : 0 < past_want c now past y

pub asking-is : (c : Configuration) (now : ℕ) (past : List Entry) (k : ℕ) (y : Thread) → Contains (asking c now past k) y → IsAsking c now past k y
asking-is c now past k y has =
    let parts = from-filter (λ x. (x.level == k) && nat_lt 0 (past_want c now past x)) (threads c past) y has in
    let tests = and_parts (y.level == k) (nat_lt 0 (past_want c now past y)) parts.1 in
    record { there = parts.0; level = tests.0; some = some-of (past_want c now past y) tests.1 }

pub is-asking : (c : Configuration) (now : ℕ) (past : List Entry) (k : ℕ) (y : Thread) → IsAsking c now past k y → Contains (asking c now past k) y
is-asking c now past k y h = grind (arith, nat_tests, to-filter, lt-ltb)

-- what a request says after a tick of slack of its thread, or of another one
less : (b s : Bool) (r : Request) → (cond b no_request (aged s r)).amount - (cond b no_request (aged s r)).spent ≡ ((cond b no_request r).amount - (cond b no_request r).spent) - cond s 1 0
less b s r = grind (arith, nat_tests)

less-switch : (b s : Bool) (r : Request) (n : ℕ) → 0 < (cond b no_request r).amount - (cond b no_request r).spent
    → n - (cond b no_request (aged s r)).spent ≡ (n - (cond b no_request r).spent) - cond s 1 0
less-switch b s r n some = grind (arith, nat_tests)

module _ (c : Configuration) (past : List Entry) (me : ThreadId) (source : Source) (work : Work) where
  abbrev entry : Entry
  entry = record { label = Label.Slack me source work; event = None }

  abbrev now : ℕ
  now = length past

  want-less : (y : Thread) → past_want c now (entry ∷ past) y ≡ past_want c now past y - cond (is_same y.id me) 1 0
  want-less y = grind (arith, nat_tests, request-aged, less)

  age-more : (y : Thread) → 0 < past_want c now past y → (request c now (entry ∷ past) y).age ≡ (request c now past y).age + 1
  age-more y some = grind (arith, nat_tests)

  switch-less : (y : Thread) → 0 < past_want c now past y
      → 2 * c.costs.switch - (request c now (entry ∷ past) y).spent ≡ (2 * c.costs.switch - (request c now past y).spent) - cond (is_same y.id me) 1 0
  switch-less y some = grind (arith, nat_tests, request-aged, less-switch)

  -- whoever still asks
  abbrev keeps : Thread → Bool
  keeps y = nat_lt 0 (past_want c now (entry ∷ past) y)

  members : (k : ℕ) (xs : List Thread) → ((y : Thread) → Contains xs y ↔ Contains (asking c now past k) y) → (y : Thread) → Contains (filter keeps xs) y ↔ Contains (asking c now (entry ∷ past) k) y
  members k xs same y = (
    (λ h.
        let parts = from-filter keeps xs y h in
        let old = asking-is c now past k y ((same y).0 parts.0) in
        is-asking c now (entry ∷ past) k y (record {
          there = subst (λ (ts : List Thread). Contains ts y) (sym (threads-same (Label.Slack me source work) c past)) old.there;
          level = old.level;
          some = some-of (past_want c now (entry ∷ past) y) parts.1;
        })),
    (λ h.
        let new = asking-is c now (entry ∷ past) k y h in
        let some : 0 < past_want c now past y = omega (arith, new.some, want-less y) in
        to-filter keeps xs y
        ((same y).1 (is-asking c now past k y (record { there = subst (λ (ts : List Thread). Contains ts y) (threads-same (Label.Slack me source work) c past) new.there; level = new.level; some = some })))
        (lt-ltb 0 (past_want c now (entry ∷ past) y) new.some)),
  )

  order : (xs : List Thread) → ((y : Thread) → Contains xs y → 0 < past_want c now past y) → AreOldestFirst c now past xs → AreOldestFirst c now (entry ∷ past) (filter keeps xs)
  order [] all old = tt
  order (x ∷ xs) all old = at (keeps x) (order xs (λ y has. all y (later x xs y has)) old.1)
    where
      at : (b : Bool) → AreOldestFirst c now (entry ∷ past) (filter keeps xs) → AreOldestFirst c now (entry ∷ past) (cond b (x ∷ filter keeps xs) (filter keeps xs))
      at true rest = (
        λ y has.
            let was = (from-filter keeps xs y has).0 in
            omega (arith, age-more y (all y (later x xs y was)), age-more x (all x (0, omega arith, refl)), old.0 y was),
        rest,
      )
      at false rest = rest

  module _ (node_of : ThreadId → ℕ) where
    abbrev before : Thread → Wish
    before y = counted_wish node_of c now past y

    abbrev after : Thread → Wish
    after y = counted_wish node_of c now (entry ∷ past) y

    lowered-one : (y : Thread) → 0 < past_want c now past y → is_same y.id me ≡ is_of (node_of me) (before y) → after y ≡ lowered (node_of me) (before y)
    lowered-one y some mine = grind (arith, nat_tests, want-less, switch-less, mine)

    -- the last tick of the wish
    all-dropped : (xs : List Thread) → ((y : Thread) → Contains xs y → (0 < past_want c now past y) × (is_same y.id me ≡ is_of (node_of me) (before y)) × (is_same y.id me ≡ true → past_want c now past y ≡ 1))
        → filter (λ w. not (is_of (node_of me) w)) (map before xs) ≡ map after (filter keeps xs)
    all-dropped [] each = refl
    all-dropped (x ∷ xs) each =
        let own = each x (0, omega arith, refl) in
        let rest = all-dropped xs (λ y has. each y (later x xs y has)) in
        elim (is_same x.id me) as (λ s. is_same x.id me ≡ s → filter (λ w. not (is_of (node_of me) w)) (before x ∷ map before xs) ≡ map after (filter keeps (x ∷ xs))) [
          | true ↦ λ e.
              let mine : is_of (node_of me) (before x) ≡ true = sym own.1 ∙ e in
              let none : past_want c now (entry ∷ past) x ≡ 0 = want-less x ∙ rw (own.2 e, e) refl in
              let gone : keeps x ≡ false = rw none refl in
              rw (mine, gone) rest
          | false ↦ grind (arith, nat_tests, want-less, lt-ltb, lowered-one)
        ] refl

    -- a tick of more
    all-lowered : (xs : List Thread) → ((y : Thread) → Contains xs y → (0 < past_want c now past y) × (is_same y.id me ≡ is_of (node_of me) (before y)) × (is_same y.id me ≡ true → 1 < past_want c now past y))
        → map (lowered (node_of me)) (map before xs) ≡ map after (filter keeps xs)
    all-lowered [] each = refl
    all-lowered (x ∷ xs) each =
        let own = each x (0, omega arith, refl) in
        let rest = all-lowered xs (λ y has. each y (later x xs y has)) in
        let left : 0 < past_want c now (entry ∷ past) x = grind (arith, nat_tests, want-less) in
        let kept : keeps x ≡ true = lt-ltb 0 (past_want c now (entry ∷ past) x) left in
        rw (kept, lowered-one x own.0 own.1, rest) refl

-- the wishes of a level, where the thread that had the tick asks at a level
module _ (c : Configuration) (past : List Entry) (x : Thread) (source : Source) (work : Work) (node_of : ThreadId → ℕ) (spares : List ℕ) (t : Slack)
    (recount : IsRecount node_of spares c (length past) past t) (own : HaveOwnNodes node_of c (length past) past) (j : ℕ) (at : j < length c.levels) (asks : Contains (asking c (length past) past j) x) where
  abbrev next : List Entry
  next = entry c past x.id source work ∷ past

  the-same : (k : ℕ) → k < length c.levels → (y : Thread) → Contains (asking c (length past) past k) y → node_of x.id ≡ node_of y.id → x ≡ y
  the-same k inside y has same = own j k x y at inside asks has same

  mine : (k : ℕ) → k < length c.levels → (y : Thread) → Contains (asking c (length past) past k) y → is_same y.id x.id ≡ eqb (node_of x.id) (node_of y.id)
  mine k inside y has = elim (eqb_tells (node_of x.id) (node_of y.id)) [
    | inl hit ↦ subst (λ (z : Thread). is_same z.id x.id ≡ true) (the-same k inside y has hit.1) (same-self x.id) ∙ sym hit.0
    | inr miss ↦ other (is_same y.id x.id) refl miss.1 ∙ sym miss.0
  ]
    where
      other : (b : Bool) → is_same y.id x.id ≡ b → node_of x.id ≢ node_of y.id → is_same y.id x.id ≡ false
      other true e differ = absurd (differ (ap node_of (sym (same-id y.id x.id e))))
      other false e differ = e

  same-want : (k : ℕ) → k < length c.levels → (y : Thread) → Contains (asking c (length past) past k) y → is_same y.id x.id ≡ true → past_want c (length past) past x ≡ past_want c (length past) past y
  same-want k inside y has same =
      ap (λ (z : Thread). past_want c (length past) past z) (the-same k inside y has (ap node_of (sym (same-id y.id x.id same))))

  pub wishes-spent : (k : ℕ) → k < length c.levels → AreCounted node_of c (length past) next k (wishes_at (spent (node_of x.id) t.wishes) k)
  wishes-spent k inside =
      let counted = recount.wishes k inside in
      let xs = counted.0 in
      let is_asking : (y : Thread) → Contains xs y → Contains (asking c (length past) past k) y = λ y has. (counted.1 y).0 has in
      let some : (y : Thread) → Contains xs y → 0 < past_want c (length past) past y = λ y has. (asking-is c (length past) past k y (is_asking y has)).some in
      let level : k < length t.wishes = omega (arith, recount.levels) in
      let amount : want (node_of x.id) t.wishes ≡ past_want c (length past) past x = want-counted node_of c (length past) past spares t recount j x own at asks in
      let mine_is : 0 < past_want c (length past) past x = (asking-is c (length past) past j x asks).some in (
        filter (keeps c past x.id source work) xs,
        members c past x.id source work k xs counted.1,
        order c past x.id source work xs some counted.2,
        elim (eqb_tells (want (node_of x.id) t.wishes) 1) [
          | inl hit ↦ rw hit.0
              (get_or-map (filter (λ w. not (is_of (node_of x.id) w))) t.wishes k [] [] level
              ∙ ap (filter (λ w. not (is_of (node_of x.id) w))) counted.3
              ∙ all-dropped c past x.id source work node_of xs (λ y has. (some y has, mine k inside y (is_asking y has), λ same. sym (same-want k inside y (is_asking y has) same) ∙ sym amount ∙ hit.1)))
          | inr miss ↦ rw miss.0
              (get_or-map (map (lowered (node_of x.id))) t.wishes k [] [] level
              ∙ ap (map (lowered (node_of x.id))) counted.3
              ∙ all-lowered c past x.id source work node_of xs (λ y has. (some y has, mine k inside y (is_asking y has), λ same. more miss.1 amount mine_is (same-want k inside y (is_asking y has) same))))
        ],
      )
    where
      more : {w n m : ℕ} → w ≢ 1 → w ≡ n → 0 < n → n ≡ m → 1 < m
      more other a some b = omega (arith, other, a, some, b)
