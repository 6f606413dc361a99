-- The wishes of a level at the next tick, and once a tick is past in which nothing happened and nobody had slack.
use Rattle.dk_slack.proofs.Names.{◌≡◌, ℕ, suc, ◌+◌, ◌-◌, ◌*◌, ◌<◌, ◌≤◌, Bool, true, false, ◌&&◌, ◌||◌, cond, List, [], ◌∷◌, map, take, length, refl, sym, ap, subst, ◌∙◌, arith, nat_le, nat_lt, ◌==◌, filter, flat_map, Contains, ◌↔◌, Option, None, option_map_or, list_any, eqb-true, and_parts, eqb_tells, append-nil, and-false, Configuration, below, period, window_start, ThreadId, Label, Entry, Event, does, is_wait, is_same, is_slack_of, borrower, window, Thread, after_entry, family, threads, is_closed, Request, aged, no_request, last_request, request, Wish, AreCounted, AreOldestFirst, asking, counted_wish, nat_tests}
use Rattle.std.specs.Prelude.{All}
use Rattle.std.proofs.lemmas.List.Concat.{flat_map-cons}
use Rattle.dk_trace.specs.Entries.{is_of}
use Rattle.dk_trace.specs.Slack.{want}
use Rattle.dk_slack.proofs.Asked.{later}
use Rattle.dk_slack.proofs.Recounts.{spent_nothing}

map-same : (f g : Thread → Wish) (xs : List Thread) → ((y : Thread) → Contains xs y → f y ≡ g y) → map f xs ≡ map g xs
map-same f g [] same = refl
map-same f g (x ∷ xs) same = rw (same x (0, omega arith, refl), map-same f g xs (λ y has. same y (later x xs y has))) refl

pub filter-passes : (p : Thread → Bool) (xs : List Thread) → All (λ y. p y ≡ true) (filter p xs)
filter-passes p [] i d h = absurd (omega arith)
filter-passes p (x ∷ xs) i d h = grind (arith, nat_tests, filter-passes p xs)

pub some-of : (n : ℕ) → nat_lt 0 n ≡ true → 0 < n
some-of n h = grind (arith, nat_tests)

-- what a thread that still asks is
record IsAsking (c : Configuration) (now : ℕ) (past : List Entry) (k : ℕ) (x : Thread) : Type 0 where
  level : x.level ≡ k
  some : 0 < want c now past x

-- Two states of the past in which the same threads ask alike, and each for as long, or for one tick longer.
module _ (node_of : ThreadId → ℕ) (c : Configuration) (k now then : ℕ) (past next : List Entry) where
  -- a thread of the level asks for as much, and its request is older by the same
  pub record IsAlike (more : ℕ) (x : Thread) : Type 0 where
    pub amount : want c then next x ≡ want c now past x
    pub wish : 0 < want c now past x → counted_wish node_of c then next x ≡ counted_wish node_of c now past x
    pub older : 0 < want c now past x → (request c then next x).age ≡ (request c now past x).age + more

  module _ (more : ℕ) (same_threads : threads c next ≡ threads c past) (alike : (x : Thread) → x.level ≡ k → IsAlike more x) where
    same-asking : asking c then next k ≡ asking c now past k
    same-asking = grind (arith, nat_tests)

    asks : (x : Thread) → Contains (asking c now past k) x → IsAsking c now past k x
    asks x has = grind (arith, nat_tests, filter-passes, and_parts, eqb-true, some-of)

    aged-order : (xs : List Thread) → ((x : Thread) → Contains xs x → IsAsking c now past k x) → AreOldestFirst c now past xs → AreOldestFirst c then next xs
    aged-order [] all order = tt
    aged-order (x ∷ xs) all order =
        let first = all x (0, omega arith, refl) in
        let one = (alike x first.level).older first.some in (
          λ y has.
              let rest = all y (later x xs y has) in
              let other = (alike y rest.level).older rest.some in
              let before = order.0 y has in
              omega (arith, one, other, before),
          aged-order xs (λ y has. all y (later x xs y has)) order.1,
        )

    pub counted-alike : (ws : List Wish) → AreCounted node_of c now past k ws → AreCounted node_of c then next k ws
    counted-alike ws counted =
        let xs = counted.0 in
        let all : (x : Thread) → Contains xs x → IsAsking c now past k x = λ x has. asks x ((counted.1 x).0 has) in (
          xs,
          λ x. subst (λ (ys : List Thread). Contains xs x ↔ Contains ys x) (sym same-asking) (counted.1 x),
          aged-order xs all counted.2,
          counted.3 ∙ sym (map-same (counted_wish node_of c then next) (counted_wish node_of c now past) xs (λ y has. let a = all y has in (alike y a.level).wish a.some)),
        )

-- the request of a thread, from where the window of its level starts
abbrev request_from : Configuration → List Entry → Thread → ℕ → Request
request_from c past x w =
    cond (list_any (does is_wait x.id) (take (length past - w) past) || option_map_or (λ stop. nat_le w stop && nat_lt stop (w + period c x.level)) x.stop false) no_request
    (last_request x.id (take (length past - w) past))

-- the window of the level goes on
pub wishes-stay : (node_of : ThreadId → ℕ) (c : Configuration) (now : ℕ) (past : List Entry) (k : ℕ) (ws : List Wish) → window_start c k (now + 1) ≡ window_start c k now
    → AreCounted node_of c now past k ws → AreCounted node_of c (now + 1) past k ws
wishes-stay node_of c now past k ws stays counted =
    counted-alike node_of c k now (now + 1) past past 0 refl
    (λ x at.
    let start : window_start c x.level (now + 1) ≡ window_start c x.level now = rw at stays in
    let same : request c (now + 1) past x ≡ request c now past x = ap (request_from c past x) start in
    record {
      amount = ap (λ (r : Request). r.amount - r.spent) same;
      wish = λ some. ap (λ (r : Request). record { node = node_of x.id; amount = r.amount - r.spent; entering = 2 * c.costs.switch - r.spent }) same;
      older = λ some. omega (arith, ap (λ (r : Request). r.age) same);
    })
    ws counted

no_tick : (es : List Entry) (n : ℕ) → n ≡ 0 → take n es ≡ []
no_tick es n none = grind (arith, nat_tests)

-- a window of the level begins
pub wishes-end : (node_of : ThreadId → ℕ) (c : Configuration) (past : List Entry) (k : ℕ) → window_start c k (length past) ≡ length past → AreCounted node_of c (length past) past k []
wishes-end node_of c past k begins = ([], λ x. subst (λ (ys : List Thread). Contains [] x ↔ Contains ys x) (sym (nobody (threads c past))) (λ h. h, λ h. h), tt, refl)
  where
    nothing : (x : Thread) → x.level ≡ k → want c (length past) past x ≡ 0
    nothing x at =
        let start : window_start c x.level (length past) ≡ length past = rw at begins in
        let left : length past - window_start c x.level (length past) ≡ 0 = omega arith in
        by_closing x (take (length past - window_start c x.level (length past)) past) (no_tick past _ left) (is_closed c (length past) past x)
      where
        by_closing : (y : Thread) (es : List Entry) → es ≡ [] → (b : Bool) → (cond b no_request (last_request y.id es)).amount - (cond b no_request (last_request y.id es)).spent ≡ 0
        by_closing y es none true = refl
        by_closing y es none false = spent_nothing y.id es none

    nobody : (xs : List Thread) → filter (λ x. (x.level == k) && nat_lt 0 (want c (length past) past x)) xs ≡ []
    nobody [] = refl
    nobody (x ∷ xs) =
        let fails : ((x.level == k) && nat_lt 0 (want c (length past) past x)) ≡ false = grind (arith, nat_tests, eqb_tells, and-false) in
        rw fails (nobody xs)

-- an entry without an event stops nobody and makes nobody
module _ (label : Label) where
  abbrev pub silent : Entry
  silent = record { label = label; event = None }

  does-nothing : (test : Event → Bool) (x : ThreadId) → does test x silent ≡ false
  does-nothing test x = and-false (is_of x silent)

  thread-same : (tick : ℕ) (x : Thread) → after_entry silent tick x ≡ x
  thread-same tick x = grind (arith, nat_tests)

  all-same : (tick : ℕ) (xs : List Thread) → map (after_entry silent tick) xs ≡ xs
  all-same tick [] = refl
  all-same tick (x ∷ xs) = rw (thread-same tick x, all-same tick xs) refl

  nobody-made : (b : Bool) → cond {A = List Thread} b [] [] ≡ []
  nobody-made b = grind (arith, nat_tests)

  family-same : (c : Configuration) (p : ℕ) (past : List Entry) → family c p (silent ∷ past) ≡ family c p past
  family-same c p past = grind (arith, nat_tests, nobody-made, append-nil, all-same)

  families-same : (c : Configuration) (past : List Entry) (ps : List ℕ) → flat_map (λ p. family c p (silent ∷ past)) ps ≡ flat_map (λ p. family c p past) ps
  families-same c past [] = refl
  families-same c past (p ∷ ps) = grind (arith, nat_tests, flat_map-cons, family-same, families-same c past ps)

  pub threads-same : (c : Configuration) (past : List Entry) → threads c (silent ∷ past) ≡ threads c past
  threads-same c past = families-same c past (below (length c.processes))

  asks-nothing : (b : Bool) → cond {A = Option ℕ} b None None ≡ None
  asks-nothing b = grind (arith, nat_tests)

  -- the request of a thread once the entry is past
  pub request-aged : (c : Configuration) (past : List Entry) (x : Thread)
      → request c (length past) (silent ∷ past) x ≡ cond (is_closed c (length past) past x) no_request (aged (is_slack_of x.id silent) (last_request x.id (window c (length past) past x.level)))
  request-aged c past x =
      let w = window_start c x.level (length past) in
      let began : w ≤ length past = omega arith in
      let longer : length (silent ∷ past) - w ≡ suc (length past - w) = omega arith in
      let es = take (length past - w) past in
      let stopped = option_map_or (λ stop. nat_le w stop && nat_lt stop (w + period c x.level)) x.stop false in
      ap (λ n. cond (list_any (does is_wait x.id) (take n (silent ∷ past)) || stopped) no_request (last_request x.id (take n (silent ∷ past)))) longer
      ∙ ap (λ (b : Bool). cond ((b || list_any (does is_wait x.id) es) || stopped) no_request (last_request x.id (silent ∷ es))) (does-nothing is_wait x.id)
      ∙ ap (λ (o : Option ℕ). cond (list_any (does is_wait x.id) es || stopped) no_request (option_map_or (λ amount. record { amount = amount; spent = 0; age = 0 }) o (aged (is_slack_of x.id silent) (last_request x.id es)))) (asks-nothing (is_of x.id silent))

  -- nobody had slack
  pub wishes-keep : (node_of : ThreadId → ℕ) (c : Configuration) (past : List Entry) (k : ℕ) (ws : List Wish) → borrower label ≡ None
      → AreCounted node_of c (length past) past k ws → AreCounted node_of c (length past) (silent ∷ past) k ws
  wishes-keep node_of c past k ws nobody counted =
      counted-alike node_of c k (length past) (length past) past (silent ∷ past) 1 (threads-same c past)
      (λ x at.
      let spends : is_slack_of x.id silent ≡ false = ap (λ o. option_map_or (is_same x.id) o false) nobody in
      let b = is_closed c (length past) past x in
      let r = last_request x.id (window c (length past) past x.level) in
      let older : request c (length past) (silent ∷ past) x ≡ cond b no_request (aged false r) = request-aged c past x ∙ ap (λ (s : Bool). cond b no_request (aged s r)) spends in
      record {
        amount = ap (λ (q : Request). q.amount - q.spent) older ∙ same-amount b r;
        wish = λ some. ap (λ (q : Request). record { node = node_of x.id; amount = q.amount - q.spent; entering = 2 * c.costs.switch - q.spent }) older ∙ same-wish b r (node_of x.id) (2 * c.costs.switch);
        older = λ some. ap (λ (q : Request). q.age) older ∙ one-older b r some;
      })
      ws counted
    where
      same-amount : (b : Bool) (r : Request) → (cond b no_request (aged false r)).amount - (cond b no_request (aged false r)).spent ≡ (cond b no_request r).amount - (cond b no_request r).spent
      same-amount true r = refl
      same-amount false r = refl

      same-wish : (b : Bool) (r : Request) (node n : ℕ)
          → ◌≡◌ {A = Wish} (record { node = node; amount = (cond b no_request (aged false r)).amount - (cond b no_request (aged false r)).spent; entering = n - (cond b no_request (aged false r)).spent })
          (record { node = node; amount = (cond b no_request r).amount - (cond b no_request r).spent; entering = n - (cond b no_request r).spent })
      same-wish true r node n = refl
      same-wish false r node n = refl

      one-older : (b : Bool) (r : Request) → 0 < (cond b no_request r).amount - (cond b no_request r).spent → (cond b no_request (aged false r)).age ≡ (cond b no_request r).age + 1
      one-older true r some = absurd (omega (arith, some))
      one-older false r some = refl
