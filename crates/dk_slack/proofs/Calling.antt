-- The wishes once a thread has asked for slack at the end of a tick.
use Rattle.dk_slack.proofs.Names.{◌≡◌, ◌≢◌, ℕ, zero, suc, ◌+◌, ◌-◌, ◌*◌, ◌<◌, ◌≤◌, ◌⊎◌, Bool, true, false, not, ◌&&◌, ◌||◌, cond, eqb, List, [], ◌∷◌, ◌++◌, map, take, length, get_or, refl, sym, ap, subst, ◌∙◌, inl, inr, arith, get_or-set_same, get_or-set_other, nat_le, nat_lt, filter, Some, None, option_map_or, list_any, eq-eqb, eqb-true, not-true, eqb_tells, get_or-map, length-map, map-append, and-false, Configuration, period, window_start, ThreadId, Label, Event, Entry, is_same, is_slack_of, is_wait, does, thread_of, window, Thread, threads, is_closed, Request, aged, no_request, last_request, request, past_want, Slack, Wish, wishes_at, is_wish_of, dropped, asked, IsRecount, HaveOwnNodes, AreCounted, AreOldestFirst, asking, counted_wish, same-id, same-self, nat_tests}
use Rattle.std.proofs.Common.{Contains}
use Rattle.dk_trace.specs.Entries.{is_of}
use Rattle.dk_slack.proofs.Asked.{later}
use Rattle.dk_slack.proofs.Ticks.{silent, request-aged, threads-same}
use Rattle.dk_slack.proofs.Spending.{asking-is, is-asking, from-filter, to-filter}

module _ (label : Label) (amount : ℕ) where
  abbrev pub call : Entry
  call = record { label = label; event = Some (Event.Slack amount) }

  fresh : Request
  fresh = record { amount = amount; spent = 0; age = 0 }

  choose : (b : Bool) (r : Request) → option_map_or (λ n. record { amount = n; spent = 0; age = 0 }) (cond b (Some amount) None) r ≡ cond b (record { amount = amount; spent = 0; age = 0 }) r
  choose b r = grind (arith, nat_tests)

  -- the request of a thread once the call is past
  request-called : (c : Configuration) (past : List Entry) (y : Thread)
      → request c (length past) (call ∷ past) y
      ≡ cond (is_closed c (length past) past y) no_request
      (cond (is_of y.id call) (record { amount = amount; spent = 0; age = 0 }) (aged (is_slack_of y.id call) (last_request y.id (window c (length past) past y.level))))
  request-called c past y =
      let w = window_start c y.level (length past) in
      let began : w ≤ length past = omega arith in
      let longer : length (call ∷ past) - w ≡ suc (length past - w) = omega arith in
      let es = take (length past - w) past in
      let stopped = option_map_or (λ stop. nat_le w stop && nat_lt stop (w + period c y.level)) y.stop false in
      ap (λ n. cond (list_any (does is_wait y.id) (take n (call ∷ past)) || stopped) no_request (last_request y.id (take n (call ∷ past)))) longer
      ∙ ap (λ (b : Bool). cond ((b || list_any (does is_wait y.id) es) || stopped) no_request (last_request y.id (call ∷ es))) (and-false (is_of y.id call))
      ∙ ap (λ (r : Request). cond (list_any (does is_wait y.id) es || stopped) no_request r) (choose (is_of y.id call) (aged (is_slack_of y.id call) (last_request y.id es)))

  -- the threads are those that there were
  threads-called : (c : Configuration) (past : List Entry) → threads c (call ∷ past) ≡ threads c (silent label ∷ past)
  threads-called c past = refl

module _ (c : Configuration) (past : List Entry) (x : Thread) (label : Label) (amount : ℕ) (who : thread_of label ≡ Some x.id) (open_is : is_closed c (length past) past x ≡ false) where
  abbrev now : ℕ
  now = length past

  abbrev old : List Entry
  old = silent label ∷ past

  abbrev next : List Entry
  next = call label amount ∷ past

  who-is : (y : Thread) → is_of y.id (call label amount) ≡ is_same y.id x.id
  who-is y = ap (λ o. option_map_or (is_same y.id) o false) who

  other-request : (y : Thread) → is_same y.id x.id ≡ false → request c now next y ≡ request c now old y
  other-request y other =
      request-called label amount c past y
      ∙ ap (λ (b : Bool). cond (is_closed c now past y) no_request (cond b (record { amount = amount; spent = 0; age = 0 }) (aged (is_slack_of y.id (call label amount)) (last_request y.id (window c now past y.level))))) (who-is y ∙ other)
      ∙ sym (request-aged label c past y)

  own-request : request c now next x ≡ record { amount = amount; spent = 0; age = 0 }
  own-request = grind (arith, nat_tests)

  -- a request from before the call is older than it
  older-request : (y : Thread) → 0 < past_want c now old y → 0 < (request c now old y).age
  older-request y some = grind (arith, nat_tests)

  abbrev others : Thread → Bool
  others y = not (is_same y.id x.id)

  other-of : (y : Thread) → others y ≡ true → is_same y.id x.id ≡ false
  other-of y h = not-true (is_same y.id x.id) h

  -- another thread asks as before
  carried : (k : ℕ) (y : Thread) → is_same y.id x.id ≡ false → Contains (asking c now old k) y → Contains (asking c now next k) y
  carried k y other has =
      let was = asking-is c now old k y has in
      is-asking c now next k y (record { there = was.there; level = was.level; some = omega (arith, was.some, ap (λ (r : Request). r.amount - r.spent) (other-request y other)) })

  carried-back : (k : ℕ) (y : Thread) → is_same y.id x.id ≡ false → Contains (asking c now next k) y → Contains (asking c now old k) y
  carried-back k y other has =
      let is = asking-is c now next k y has in
      is-asking c now old k y (record { there = is.there; level = is.level; some = omega (arith, is.some, ap (λ (r : Request). r.amount - r.spent) (other-request y other)) })

  order-others : (xs : List Thread) → AreOldestFirst c now old xs → AreOldestFirst c now next (filter others xs)
  order-others [] order = tt
  order-others (y ∷ xs) order = at (others y) refl (order-others xs order.1)
    where
      at : (b : Bool) → others y ≡ b → AreOldestFirst c now next (filter others xs) → AreOldestFirst c now next (cond b (y ∷ filter others xs) (filter others xs))
      at true e rest = (
        λ z has.
            let parts = from-filter others xs z has in
            omega (arith, order.0 z parts.0, ap (λ (r : Request). r.age) (other-request z (other-of z parts.1)), ap (λ (r : Request). r.age) (other-request y (other-of y e))),
        rest,
      )
      at false e rest = rest

  order-last : (xs : List Thread) → AreOldestFirst c now next xs → ((y : Thread) → Contains xs y → (request c now next x).age < (request c now next y).age) → AreOldestFirst c now next (xs ++ x ∷ [])
  order-last [] order older = ((λ y has. absurd (omega (arith, has.1))), tt)
  order-last (z ∷ xs) order older = (
    λ y has. split xs (λ w h. order.0 w h) y has.0 has.1 has.2,
    order-last xs order.1 (λ y has. older y (later z xs y has)),
  )
    where
      mine : (request c now next x).age < (request c now next z).age
      mine = older z (0, omega arith, refl)

      split : (ys : List Thread) → ((w : Thread) → Contains ys w → (request c now next w).age < (request c now next z).age)
          → (y : Thread) (i : ℕ) → i < length (ys ++ x ∷ []) → get_or (ys ++ x ∷ []) i y ≡ y → (request c now next y).age < (request c now next z).age
      split [] all y zero low at = omega (arith, mine, ap (λ (w : Thread). (request c now next w).age) at)
      split [] all y (suc i) low at = absurd (omega arith)
      split (v ∷ ys) all y zero low at = omega (arith, all v (0, omega arith, refl), ap (λ (w : Thread). (request c now next w).age) at)
      split (v ∷ ys) all y (suc i) low at = split ys (λ w h. all w (later v ys w h)) y i (omega arith) at

  -- what stands in a list with one more item
  in-front : (xs : List Thread) (y : Thread) → Contains xs y → Contains (xs ++ x ∷ []) y
  in-front [] y has = absurd (omega (arith, has.1))
  in-front (z ∷ xs) y has = at (in-front xs y) has.0 has.1 has.2
    where
      at : (Contains xs y → Contains (xs ++ x ∷ []) y) → (i : ℕ) → i < length (z ∷ xs) → get_or (z ∷ xs) i y ≡ y → Contains (z ∷ (xs ++ x ∷ [])) y
      at rest zero low is = (0, omega arith, is)
      at rest (suc i) low is = later z (xs ++ x ∷ []) y (rest (i, omega arith, is))

  at-end : (xs : List Thread) → Contains (xs ++ x ∷ []) x
  at-end [] = (0, omega arith, refl)
  at-end (z ∷ xs) = later z (xs ++ x ∷ []) x (at-end xs)

  front-or-end : (xs : List Thread) (y : Thread) → Contains (xs ++ x ∷ []) y → Contains xs y ⊎ (x ≡ y)
  front-or-end [] y has = last has.0 has.1 has.2
    where
      last : (i : ℕ) → i < length (x ∷ []) → get_or (x ∷ []) i y ≡ y → Contains [] y ⊎ (x ≡ y)
      last zero low is = inr is
      last (suc i) low is = absurd (omega arith)
  front-or-end (z ∷ xs) y has = at (front-or-end xs y) has.0 has.1 has.2
    where
      further : Contains xs y ⊎ (x ≡ y) → Contains (z ∷ xs) y ⊎ (x ≡ y)
      further (inl h) = inl (later z xs y h)
      further (inr e) = inr e

      at : (Contains (xs ++ x ∷ []) y → Contains xs y ⊎ (x ≡ y)) → (i : ℕ) → i < length (z ∷ (xs ++ x ∷ [])) → get_or (z ∷ (xs ++ x ∷ [])) i y ≡ y → Contains (z ∷ xs) y ⊎ (x ≡ y)
      at rest zero low is = inl (0, omega arith, is)
      at rest (suc i) low is = further (rest (i, omega arith, is))

  module _ (node_of : ThreadId → ℕ) (own : HaveOwnNodes node_of c now next) (some : 0 < amount) (there : Contains (threads c past) x) (inside : x.level < length c.levels) where
    asks-now : Contains (asking c now next x.level) x
    asks-now = is-asking c now next x.level x (record {
      there = subst (λ (ts : List Thread). Contains ts x) (sym (threads-same label c past)) there;
      level = eq-eqb x.level x.level refl;
      some = omega (arith, some, ap (λ (r : Request). r.amount - r.spent) own-request);
    })

    -- whoever asks and has the caller's name is the caller
    caller : (k : ℕ) → k < length c.levels → (y : Thread) → Contains (asking c now next k) y → is_same y.id x.id ≡ true → x ≡ y
    caller k low y has same = own x.level k x y inside low asks-now has (ap node_of (sym (same-id y.id x.id same)))

    -- another thread has another node
    apart : (k : ℕ) → k < length c.levels → (y : Thread) → Contains (asking c now old k) y → is_same y.id x.id ≡ eqb (node_of x.id) (node_of y.id)
    apart k low y has = by_name (is_same y.id x.id) refl
      where
        by_name : (b : Bool) → is_same y.id x.id ≡ b → is_same y.id x.id ≡ eqb (node_of x.id) (node_of y.id)
        by_name true e = e ∙ sym (eq-eqb (node_of x.id) (node_of y.id) (ap node_of (sym (same-id y.id x.id e))))
        by_name false e = elim (eqb_tells (node_of x.id) (node_of y.id)) [
          | inl hit ↦
              let is : x ≡ y = own x.level k x y inside low asks-now (carried k y e has) hit.1 in
              let same : is_same y.id x.id ≡ true = subst (λ (z : Thread). is_same z.id x.id ≡ true) is (same-self x.id) in
              absurd (let clash : true ≡ false = sym same ∙ e in cc)
          | inr miss ↦ e ∙ sym miss.0
        ]

    abbrev before : Thread → Wish
    before y = counted_wish node_of c now old y

    abbrev after : Thread → Wish
    after y = counted_wish node_of c now next y

    wishes-left : (k : ℕ) → k < length c.levels → (xs : List Thread) → ((y : Thread) → Contains xs y → Contains (asking c now old k) y)
        → filter (λ w. not (is_wish_of (node_of x.id) w)) (map before xs) ≡ map after (filter others xs)
    wishes-left k low [] asks = refl
    wishes-left k low (y ∷ xs) asks = by_name (wishes-left k low xs (λ z has. asks z (later y xs z has))) (apart k low y (asks y (0, omega arith, refl))) (is_same y.id x.id) refl
      where
        by_name : filter (λ w. not (is_wish_of (node_of x.id) w)) (map before xs) ≡ map after (filter others xs) → is_same y.id x.id ≡ eqb (node_of x.id) (node_of y.id)
            → (b : Bool) → is_same y.id x.id ≡ b → filter (λ w. not (is_wish_of (node_of x.id) w)) (before y ∷ map before xs) ≡ map after (filter others (y ∷ xs))
        by_name rest node true e =
            let mine : is_wish_of (node_of x.id) (before y) ≡ true = sym node ∙ e in
            let gone : others y ≡ false = ap not e in
            rw (mine, gone) rest
        by_name rest node false e =
            let other : is_wish_of (node_of x.id) (before y) ≡ false = sym node ∙ e in
            let kept : others y ≡ true = ap not e in
            let same : after y ≡ before y = ap (λ (r : Request). record { node = node_of y.id; amount = r.amount - r.spent; entering = 2 * c.costs.switch - r.spent }) (other-request y e) in
            rw (other, kept, same, rest) refl

    abbrev pub wish : Wish
    wish = record { node = node_of x.id; amount = amount; entering = 2 * c.costs.switch }

    own-wish : after x ≡ wish
    own-wish = grind (arith, nat_tests)

    module _ (spares : List ℕ) (t : Slack) (recount : IsRecount node_of spares c now old t) where
      without : (k : ℕ) (low : k < length c.levels) → wishes_at (dropped (node_of x.id) t.wishes) k ≡ map after (filter others (recount.wishes k low).0)
      without k low =
          let level : k < length t.wishes = omega (arith, recount.levels) in
          get_or-map (filter (λ w. not (is_wish_of (node_of x.id) w))) t.wishes k [] [] level
          ∙ ap (filter (λ w. not (is_wish_of (node_of x.id) w))) (recount.wishes k low).3
          ∙ wishes-left k low (recount.wishes k low).0 (λ y has. ((recount.wishes k low).1 y).0 has)

      rest-asks : (k : ℕ) (low : k < length c.levels) (y : Thread) → Contains (filter others (recount.wishes k low).0) y → Contains (asking c now next k) y
      rest-asks k low y has =
          let parts = from-filter others (recount.wishes k low).0 y has in
          carried k y (other-of y parts.1) (((recount.wishes k low).1 y).0 parts.0)

      rest-has : (k : ℕ) (low : k < length c.levels) (y : Thread) → is_same y.id x.id ≡ false → Contains (asking c now next k) y → Contains (filter others (recount.wishes k low).0) y
      rest-has k low y other has = to-filter others (recount.wishes k low).0 y (((recount.wishes k low).1 y).1 (carried-back k y other has)) (ap not other)

      at-level : AreCounted node_of c now next x.level (wishes_at (asked x.level wish t.wishes) x.level)
      at-level =
          let xs = (recount.wishes x.level inside).0 in
          let ys = filter others xs in
          let many : x.level < length (dropped (node_of x.id) t.wishes) = omega (arith, recount.levels, length-map t.wishes (filter (λ w. not (is_wish_of (node_of x.id) w)))) in (
            ys ++ x ∷ [],
            λ y. (
              (λ h. elim (front-or-end ys y h) [
                | inl f ↦ rest-asks x.level inside y f
                | inr e ↦ subst (λ (z : Thread). Contains (asking c now next x.level) z) e asks-now
              ]),
              (λ h. by_name y h (is_same y.id x.id) refl),
            ),
            order-last ys (order-others xs (recount.wishes x.level inside).2) (λ y has.
                let parts = from-filter others xs y has in
                let asker = asking-is c now old x.level y (((recount.wishes x.level inside).1 y).0 parts.0) in
                omega (arith, ap (λ (r : Request). r.age) own-request, older-request y asker.some, ap (λ (r : Request). r.age) (other-request y (other-of y parts.1)))),
            get_or-set_same (dropped (node_of x.id) t.wishes) x.level (wishes_at (dropped (node_of x.id) t.wishes) x.level ++ wish ∷ []) [] many
                ∙ ap (λ ws. ws ++ wish ∷ []) (without x.level inside)
                ∙ ap (λ (w : Wish). map after ys ++ w ∷ []) (sym own-wish)
                ∙ sym (map-append after ys (x ∷ [])),
          )
        where
          by_name : (y : Thread) → Contains (asking c now next x.level) y → (b : Bool) → is_same y.id x.id ≡ b → Contains (filter others (recount.wishes x.level inside).0 ++ x ∷ []) y
          by_name y h true e =
              subst (λ (z : Thread). Contains (filter others (recount.wishes x.level inside).0 ++ x ∷ []) z) (caller x.level inside y h e) (at-end (filter others (recount.wishes x.level inside).0))
          by_name y h false e = in-front (filter others (recount.wishes x.level inside).0) y (rest-has x.level inside y e h)

      elsewhere : (k : ℕ) → k < length c.levels → k ≢ x.level → AreCounted node_of c now next k (wishes_at (asked x.level wish t.wishes) k)
      elsewhere k low differ =
          let xs = (recount.wishes k low).0 in (
            filter others xs,
            λ y. ((λ h. rest-asks k low y h), (λ h. by_name y h (is_same y.id x.id) refl)),
            order-others xs (recount.wishes k low).2,
            get_or-set_other (dropped (node_of x.id) t.wishes) x.level k (wishes_at (dropped (node_of x.id) t.wishes) x.level ++ wish ∷ []) [] differ ∙ without k low,
          )
        where
          by_name : (y : Thread) → Contains (asking c now next k) y → (b : Bool) → is_same y.id x.id ≡ b → Contains (filter others (recount.wishes k low).0) y
          by_name y h true e =
              absurd (differ (sym (ap (λ (z : Thread). z.level) (caller k low y h e) ∙ eqb-true y.level k (asking-is c now next k y h).level)))
          by_name y h false e = rest-has k low y e h

      pub wishes-asked : (k : ℕ) → k < length c.levels → AreCounted node_of c now next k (wishes_at (asked x.level wish t.wishes) k)
      wishes-asked k low = elim (eqb_tells k x.level) [
        | inl hit ↦ subst (λ (m : ℕ). AreCounted node_of c now next m (wishes_at (asked x.level wish t.wishes) m)) (sym hit.1) at-level
        | inr miss ↦ elsewhere k low miss.1
      ]
