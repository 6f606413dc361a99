-- What an event leaves as the tick without it was.
use Rattle.dk_recount.proofs.Names.{◌≡◌, ◌-◌, ◌∙◌, ◌&&◌, ◌||◌, cond, eqb, leb, ltb, ℕ, suc, List, [], ◌∷◌, length, map, take, Option, refl, ap, sym, subst, arith, not, filter, count_by, sum_by, Contains, ◌↔◌, list_any, Configuration, below, period, release, window_start, window_end, ThreadId, Label, Event, Entry, is_budget_of, is_out_of, does, is_wait, window, quiet, Thread, threads, family, share, Job, job, rem, thread_rem, kernel_rem, is_closed, is_stopped_in, held_by, blocking, windows_left, sum_starts, thread_demand, kernel_demand, own_demand, remaining_demand, Request, no_request, last_request, request, want, is_claimed_up_to, unclaimed, same-job, Table, AreThreads, Lockable, AreHolders, Wish, AreCounted, AreOldestFirst, asking, counted_wish, unclaimed_of, filter-same, map-same, kernel_part, entry_of, sum_by-same, sum_from-eq, sum_every-as, nat_tests}

-- what is counted of the newest entries depends on the first one as far as it tells it apart
take-as : {X : Type 0} (F : List Entry → X) (e f : Entry) → ((es : List Entry) → F (e ∷ es) ≡ F (f ∷ es)) → (n : ℕ) (past : List Entry) → F (take n (e ∷ past)) ≡ F (take n (f ∷ past))
take-as F e f same is past = grind (arith, nat_tests)

-- an event that makes and stops nobody
module _ (c : Configuration) (label : Label) (event : Option Event) (past : List Entry)
    (fam : (p : ℕ) → family c p (entry_of label event ∷ past) ≡ family c p (quiet label ∷ past))
    (same : threads c (entry_of label event ∷ past) ≡ threads c (quiet label ∷ past)) where
  abbrev e : Entry
  e = entry_of label event

  abbrev new : List Entry
  new = e ∷ past

  abbrev old : List Entry
  old = quiet label ∷ past

  -- it closes nobody's window
  abbrev Stays : Thread → Type 0
  Stays y = (es : List Entry) → list_any (does is_wait y.id) (e ∷ es) ≡ list_any (does is_wait y.id) (quiet label ∷ es)

  share-as : (y : Thread) (s : ℕ) → share c new y s ≡ share c old y s
  share-as y s = grind (arith, nat_tests)

  pub job-as : (t : ℕ) (y : Thread) → Stays y → job c t new y ≡ job c t old y
  job-as t y stays =
      let n = suc (length past) - window_start c y.level t in
      same-job _ _ _ _ _ _ _ _ (share-as y (window_start c y.level t))
      (take-as (count_by (is_budget_of y.id)) e (quiet label) (λ es. refl) n past)
      (take-as (count_by (is_out_of y.id)) e (quiet label) (λ es. refl) n past)
      (ap (λ b. b || is_stopped_in c t y) (take-as (list_any (does is_wait y.id)) e (quiet label) stays n past))

  rem-as : (t : ℕ) (y : Thread) → Stays y → thread_rem c t new y ≡ thread_rem c t old y
  rem-as t y stays = ap (rem c.costs.switch) (job-as t y stays)

  pub part-as : (t k : ℕ) → kernel_part c t new k ≡ kernel_part c t old k
  part-as t k = grind (arith, nat_tests, same-job, take-as)

  pub parts-as : (t : ℕ) → map (kernel_part c t new) (below (length c.levels)) ≡ map (kernel_part c t old) (below (length c.levels))
  parts-as t = map-same (kernel_part c t new) (kernel_part c t old) 0 (length c.levels) (λ j h. part-as t j)

  kernel_rem-as : (t i : ℕ) → kernel_rem c t new i ≡ kernel_rem c t old i
  kernel_rem-as t i = ap (λ (j : Job). release c i - j.used) (part-as t i)

  starts-as : (t before : ℕ) (y : Thread) → sum_starts c y.level t before (share c new y) ≡ sum_starts c y.level t before (share c old y)
  starts-as t before y = sum_every-as (share c new y) (share c old y) (period c y.level) (window_end c y.level t) (windows_left c y.level t before) (share-as y)

  pub own-as : (t j : ℕ) → ((y : Thread) → Stays y) → own_demand c t new j ≡ own_demand c t old j
  own-as t j stays =
      let kernel = kernel_rem-as t j in
      let each = sum_by-same (λ y. cond (eqb y.level j) (thread_rem c t new y) 0) (λ y. cond (eqb y.level j) (thread_rem c t old y) 0) (threads c new)
      (λ y has. ap (λ n. cond (eqb y.level j) n 0) (rem-as t y (stays y))) in
      let rows = ap (sum_by (λ y. cond (eqb y.level j) (thread_rem c t old y) 0)) same in
      omega (arith, kernel, each, rows)

  pub remaining-as : (t j : ℕ) → ((y : Thread) → Stays y) → remaining_demand c t new j ≡ remaining_demand c t old j
  remaining-as t j stays =
      let b = window_end c j t in
      let kernel = sum_from-eq 0 (suc j) (kernel_demand c t new b) (kernel_demand c t old b) (λ i. let r = kernel_rem-as t i in omega (arith, r)) in
      let each = sum_by-same (λ y. cond (leb y.level j) (thread_demand c t new b y) 0) (λ y. cond (leb y.level j) (thread_demand c t old b y) 0) (threads c new)
      (λ y has. ap (λ n. cond (leb y.level j) n 0) (let r = rem-as t y (stays y) in let s = starts-as t b y in omega (arith, r, s))) in
      let rows = ap (sum_by (λ y. cond (leb y.level j) (thread_demand c t old b y) 0)) same in
      omega (arith, kernel, each, rows)

  pub blocking-as : (j : ℕ) → ((x : ThreadId) → held_by x new ≡ held_by x old) → blocking c new j ≡ blocking c old j
  blocking-as j held = grind (arith, nat_tests, sum_by-same)

  pub unclaimed-as : (t : ℕ) → unclaimed_of c t new ≡ unclaimed_of c t old
  unclaimed-as t =
      map-same (unclaimed c t new) (unclaimed c t old) 0 (length c.levels)
      (λ j h. ap (λ xs. count_by (λ f. not (is_claimed_up_to xs j f)) (window c t new j)) same
      ∙ take-as (count_by (λ f. not (is_claimed_up_to (threads c old) j f))) e (quiet label) (λ es. refl) (suc (length past) - window_start c j t) past)

  pub rows-as : (t : ℕ) (table : Table) → AreThreads c t old table → AreThreads c t new table
  rows-as t table r = grind (arith, nat_tests)

  pub holders-as : (rows : List Lockable) → ((x : ThreadId) → held_by x new ≡ held_by x old) → AreHolders c old rows → AreHolders c new rows
  holders-as rows held r = grind (arith, nat_tests)

  -- it asks for no slack
  abbrev AsksNothing : Thread → Type 0
  AsksNothing y = (es : List Entry) → last_request y.id (e ∷ es) ≡ last_request y.id (quiet label ∷ es)

  request-as : (t : ℕ) (y : Thread) → Stays y → AsksNothing y → request c t new y ≡ request c t old y
  request-as t y stays nothing =
      let n = suc (length past) - window_start c y.level t in
      ap (λ b. cond (b || is_stopped_in c t y) no_request (last_request y.id (window c t new y.level))) (take-as (list_any (does is_wait y.id)) e (quiet label) stays n past)
      ∙ ap (cond (is_closed c t old y) no_request) (take-as (last_request y.id) e (quiet label) nothing n past)

  pub want-as : (t : ℕ) (y : Thread) → Stays y → AsksNothing y → want c t new y ≡ want c t old y
  want-as t y stays nothing = ap (λ (r : Request). r.amount - r.spent) (request-as t y stays nothing)

  pub counted-as : (node_of : ThreadId → ℕ) (t k : ℕ) (ws : List Wish) → ((y : Thread) → Stays y) → ((y : Thread) → AsksNothing y)
      → AreCounted node_of c t old k ws → AreCounted node_of c t new k ws
  counted-as node_of t k ws stays nothing counted =
      let askers : asking c t new k ≡ asking c t old k =
      filter-same (λ y. eqb y.level k && ltb 0 (want c t new y)) (λ y. eqb y.level k && ltb 0 (want c t old y)) (threads c new)
      (λ y h. ap (λ n. eqb y.level k && ltb 0 n) (want-as t y (stays y) (nothing y)))
      ∙ ap (filter (λ y. eqb y.level k && ltb 0 (want c t old y))) same in (
        counted.0,
        subst (λ found. (y : Thread) → Contains counted.0 y ↔ Contains found y) (sym askers) counted.1,
        ordered counted.0 counted.2,
        counted.3 ∙ each counted.0,
      )
    where
      ordered : (xs : List Thread) → AreOldestFirst c t old xs → AreOldestFirst c t new xs
      ordered [] o = tt
      ordered (x ∷ xs) o = (
        λ y h. let a = ap (λ (r : Request). r.age) (request-as t x (stays x) (nothing x)) in let b = ap (λ (r : Request). r.age) (request-as t y (stays y) (nothing y)) in omega (arith, a, b, o.0 y h),
        ordered xs o.1,
      )

      each : (xs : List Thread) → map (counted_wish node_of c t old) xs ≡ map (counted_wish node_of c t new) xs
      each [] = refl
      each (x ∷ xs) =
          let here : counted_wish node_of c t old x ≡ counted_wish node_of c t new x = grind (arith, nat_tests, request-as) in
          rw (here, each xs) refl
