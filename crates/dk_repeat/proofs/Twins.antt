-- Two pasts that stand alike where all windows begin, and go on with the same entries: their threads count alike.
use Rattle.dk_repeat.proofs.Names.{ℕ, suc, ◌≡◌, ◌+◌, ◌-◌, ◌*◌, ◌/◌, ◌<◌, Bool, true, false, cond, not, ◌&&◌, ◌||◌, eqb, leb, ltb, List, [], ◌∷◌, ◌++◌, length, Option, Some, None, refl, sym, ap, ◌∙◌, subst, arith, map, sum_by, count_by, find, list_any, option_map_or, Configuration, period, main_level, budget, release, window_start, window_end, IsChecked, spare, sum_up_to, sum_from-same, sum_every-each, first-same, ThreadId, Source, Entry, window, is_same, is_budget_of, is_out_of, is_kernel_at, is_of, does, is_wait, stops, kernel_level, payer, Thread, family, threads, share, is_main, is_void, is_ended_by, is_lent_at, lent_at, is_stopped_before, child_share, job, rem, body_left, is_closed, is_stopped_in, thread_rem, thread_body_left, kernel_rem, held_by, held_after, aged, greatest_left, thread_blocking, blocking, Request, request, last_request, no_request, want, is_entering, is_wishing, older, oldest, level_of, is_claimed_up_to, unclaimed, overdrawn_at, source, windows_left, sum_starts, thread_demand, kernel_demand, own_demand, remaining_demand, fits_at, fits, same-job}
use Rattle.dk_repeat.proofs.Since.{LevelsBegin, Since, row_since, stop_since, stopped_before, stands, has_share, stopped_in, leb-behind, start-behind, end-behind, window-behind, stopped-behind, stands-behind, share-behind, in-behind, starts-behind}
use Rattle.dk_repeat.proofs.Pairs.{Pairs, Both, pairs-flat, sum-pairs, find-pairs, both-or-else, all-numbers, count-each}

-- two threads of the same name, level and quota that stand alike, counted from two ticks
pub record Twin (c : Configuration) (A B : ℕ) (x y : Thread) : Type 0 where
  pub same : row_since A x ≡ row_since B y
  pub positive : 0 < period c x.level
  pub known : x.id.process < length c.processes

-- what is counted of a row from a tick on
abbrev lent_since : Configuration → ℕ → Since → ℕ
lent_since c d r = cond ((not (eqb r.id.serial 0) && stands c d r.level r.start r.stop) && leb r.start d) r.quota 0

abbrev closed_since : Configuration → ℕ → List Entry → Since → Bool
closed_since c d new r = list_any (does is_wait r.id) (window c d new r.level) || stopped_in c d r.level r.stop

abbrev child_since : Configuration → ℕ → Since → ℕ
child_since c d r = cond (has_share d r.start r.stop) ((r.quota * period c r.level) / period c (main_level c r.id.process)) 0

and-swap : (a b e f : Bool) → (((a && b) && e) && f) ≡ ((a && (b && f)) && e)
and-swap true true true true = refl
and-swap true true true false = refl
and-swap true true false true = refl
and-swap true true false false = refl
and-swap true false true true = refl
and-swap true false true false = refl
and-swap true false false true = refl
and-swap true false false false = refl
and-swap false b e f = refl

pub held-same : (x : ThreadId) (one other new : List Entry) → held_by x one ≡ held_by x other → held_by x (new ++ one) ≡ held_by x (new ++ other)
held-same x one other [] same = same
held-same x one other (e ∷ new) same =
    ap (λ before. cond (stops x e) [] (cond (is_of x e) (held_after e.event (map aged before)) before)) (held-same x one other new same)

-- one side
module _ (c : Configuration) (A : ℕ) (begins : LevelsBegin c A) (one new : List Entry) (long : length one ≡ A) where
  lent-behind : (d : ℕ) (x : Thread) → 0 < period c x.level → cond (is_lent_at c (d + A) x) x.quota 0 ≡ lent_since c d (row_since A x)
  lent-behind d x positive =
      let a = and-swap (not (is_main x)) (not (is_void x)) (leb x.start (d + A)) (not (is_ended_by c (d + A) x)) in
      let b = stands-behind c A begins d x positive in
      let e = leb-behind A x.start d in
      ap (λ t. cond t x.quota 0)
      (a ∙ ap (λ t. (not (is_main x) && t) && leb x.start (d + A)) b ∙ ap (λ t. (not (is_main x) && stands c d x.level (x.start - A) (stop_since A x.stop)) && t) e)

  child-behind : (d : ℕ) (x : Thread) → child_share c x (d + A) ≡ child_since c d (row_since A x)
  child-behind d x = ap (λ t. cond t ((x.quota * period c x.level) / period c (main_level c x.id.process)) 0) (share-behind c A begins d x)

  closed-behind : (d : ℕ) (x : Thread) → 0 < period c x.level → is_closed c (d + A) (new ++ one) x ≡ closed_since c d new (row_since A x)
  closed-behind d x positive =
      ap (λ entries. list_any (does is_wait x.id) entries || is_stopped_in c (d + A) x) (window-behind c A begins new one d x.level long positive)
      ∙ ap (λ t. list_any (does is_wait x.id) (window c d new x.level) || t) (in-behind c A begins d x positive)

module _ (c : Configuration) (one other : List Entry) (begins : LevelsBegin c (length one)) (begins' : LevelsBegin c (length other))
    (held : (x : ThreadId) → held_by x one ≡ held_by x other) (checked : IsChecked c)
    (new : List Entry)
    (rows : (p : ℕ) → p < length c.processes → Pairs (Twin c (length one) (length other)) (family c p (new ++ one)) (family c p (new ++ other)))
    (d : ℕ) where
  abbrev Twins : Thread → Thread → Type 0
  Twins x y = Twin c (length one) (length other) x y

  window-same : (i : ℕ) → 0 < period c i → window c (d + length one) (new ++ one) i ≡ window c (d + length other) (new ++ other) i
  window-same i positive =
      window-behind c (length one) begins new one d i refl positive ∙ sym (window-behind c (length other) begins' new other d i refl positive)

  id-same : (x y : Thread) → Twins x y → x.id ≡ y.id
  id-same x y t = ap (λ r. r.id) t.same

  level-same : (x y : Thread) → Twins x y → x.level ≡ y.level
  level-same x y t = ap (λ r. r.level) t.same

  positive' : (x y : Thread) → Twins x y → 0 < period c y.level
  positive' x y t = subst (λ i. 0 < period c i) (level-same x y t) t.positive

  pub main-same : (x y : Thread) → Twins x y → is_main x ≡ is_main y
  main-same x y t = ap (λ r. eqb r.id.serial 0) t.same

  stopped-same : (s : ℕ) (x y : Thread) → Twins x y → is_stopped_before (s + length one) x ≡ is_stopped_before (s + length other) y
  stopped-same s x y t =
      stopped-behind c (length one) begins s x.stop ∙ ap (λ r. stopped_before s r.stop) t.same ∙ sym (stopped-behind c (length other) begins' s y.stop)

  lent-same : (s p q : ℕ) → p < length c.processes → p ≡ q → lent_at c (s + length one) (family c p (new ++ one)) ≡ lent_at c (s + length other) (family c q (new ++ other))
  lent-same s p q known is =
      sum-pairs (Twin c (length one) (length other)) (λ x. cond (is_lent_at c (s + length one) x) x.quota 0) (λ y. cond (is_lent_at c (s + length other) y) y.quota 0)
      (family c p (new ++ one)) (family c p (new ++ other)) (rows p known)
      (λ x y t. lent-behind c (length one) begins one new refl s x t.positive ∙ ap (lent_since c s) t.same
      ∙ sym (lent-behind c (length other) begins' other new refl s y (positive' x y t)))
      ∙ ap (λ r. lent_at c (s + length other) (family c r (new ++ other))) is

  abbrev share_with : Bool → Bool → ℕ → ℕ → ℕ → ℕ
  share_with main stopped budget lent child = cond main (cond stopped 0 (budget - lent)) child

  same-share : (m m' t t' : Bool) (b b' l l' k k' : ℕ) → m ≡ m' → t ≡ t' → b ≡ b' → l ≡ l' → k ≡ k' → share_with m t b l k ≡ share_with m' t' b' l' k'
  same-share m m' t t' b b' l l' k k' e1 e2 e3 e4 e5 =
      ap (λ z. share_with z t b l k) e1 ∙ ap (λ z. share_with m' z b l k) e2 ∙ ap (λ z. share_with m' t' z l k) e3
      ∙ ap (λ z. share_with m' t' b' z k) e4 ∙ ap (λ z. share_with m' t' b' l' z) e5

  pub share-same : (s : ℕ) (x y : Thread) → Twins x y → share c (new ++ one) x (s + length one) ≡ share c (new ++ other) y (s + length other)
  share-same s x y t =
      let process : x.id.process ≡ y.id.process = ap (λ r. r.id.process) t.same in
      same-share (is_main x) (is_main y) (is_stopped_before (s + length one) x) (is_stopped_before (s + length other) y)
      (budget c x.id.process) (budget c y.id.process)
      (lent_at c (s + length one) (family c x.id.process (new ++ one))) (lent_at c (s + length other) (family c y.id.process (new ++ other)))
      (child_share c x (s + length one)) (child_share c y (s + length other))
      (main-same x y t) (stopped-same s x y t) (ap (budget c) process) (lent-same s x.id.process y.id.process t.known process)
      (child-behind c (length one) begins one new refl s x ∙ ap (child_since c s) t.same ∙ sym (child-behind c (length other) begins' other new refl s y))

  closed-same : (x y : Thread) → Twins x y → is_closed c (d + length one) (new ++ one) x ≡ is_closed c (d + length other) (new ++ other) y
  closed-same x y t =
      closed-behind c (length one) begins one new refl d x t.positive ∙ ap (closed_since c d new) t.same
      ∙ sym (closed-behind c (length other) begins' other new refl d y (positive' x y t))

  -- a count over the entries of the current window
  count-same : (test : ThreadId → Entry → Bool) (x y : Thread) → Twins x y
      → count_by (test x.id) (window c (d + length one) (new ++ one) x.level) ≡ count_by (test y.id) (window c (d + length other) (new ++ other) y.level)
  count-same test x y t =
      ap (count_by (test x.id)) (window-behind c (length one) begins new one d x.level refl t.positive)
      ∙ ap (λ r. count_by (test r.id) (window c d new r.level)) t.same
      ∙ sym (ap (count_by (test y.id)) (window-behind c (length other) begins' new other d y.level refl (positive' x y t)))

  share-now : (x y : Thread) → Twins x y
      → share c (new ++ one) x (window_start c x.level (d + length one)) ≡ share c (new ++ other) y (window_start c y.level (d + length other))
  share-now x y t =
      ap (share c (new ++ one) x) (start-behind c (length one) begins x.level d t.positive)
      ∙ share-same (window_start c x.level d) x y t
      ∙ ap (λ r. share c (new ++ other) y (window_start c r.level d + length other)) t.same
      ∙ sym (ap (share c (new ++ other) y) (start-behind c (length other) begins' y.level d (positive' x y t)))

  pub job-same : (x y : Thread) → Twins x y → job c (d + length one) (new ++ one) x ≡ job c (d + length other) (new ++ other) y
  job-same x y t =
      same-job _ _ _ _ _ _ _ _ (share-now x y t) (count-same is_budget_of x y t) (count-same is_out_of x y t) (closed-same x y t)

  pub rem-same : (x y : Thread) → Twins x y → thread_rem c (d + length one) (new ++ one) x ≡ thread_rem c (d + length other) (new ++ other) y
  rem-same x y t = ap (rem c.costs.switch) (job-same x y t)

  pub left-same : (x y : Thread) → Twins x y → thread_body_left c (d + length one) (new ++ one) x ≡ thread_body_left c (d + length other) (new ++ other) y
  left-same x y t = ap (body_left c.costs.switch) (job-same x y t)

  pub kernel-same : (i : ℕ) → 0 < period c i → kernel_rem c (d + length one) (new ++ one) i ≡ kernel_rem c (d + length other) (new ++ other) i
  kernel-same i positive = ap (λ w. release c i - count_by (is_kernel_at i) w) (window-same i positive)

  pub threads-same : Pairs Twins (threads c (new ++ one)) (threads c (new ++ other))
  threads-same =
      pairs-flat Twins (λ p. family c p (new ++ one)) (λ p. family c p (new ++ other)) 0 (length c.processes) (λ p less. rows p (omega (arith, less)))

  pub held-of : (x y : Thread) → Twins x y → held_by x.id (new ++ one) ≡ held_by y.id (new ++ other)
  held-of x y t = held-same x.id one other new (held x.id) ∙ ap (λ r. held_by r.id (new ++ other)) t.same

  own-same : (j : ℕ) → 0 < period c j → own_demand c (d + length one) (new ++ one) j ≡ own_demand c (d + length other) (new ++ other) j
  own-same j positive =
      let k = kernel-same j positive in
      let s =
      sum-pairs Twins (λ x. cond (eqb x.level j) (thread_rem c (d + length one) (new ++ one) x) 0) (λ y. cond (eqb y.level j) (thread_rem c (d + length other) (new ++ other) y) 0)
      (threads c (new ++ one)) (threads c (new ++ other)) threads-same
      (λ x y t. ap (λ k. cond (eqb x.level j) k 0) (rem-same x y t) ∙ ap (λ i. cond (eqb i j) (thread_rem c (d + length other) (new ++ other) y) 0) (level-same x y t)) in
      ap (λ n. n + sum_by (λ x. cond (eqb x.level j) (thread_rem c (d + length one) (new ++ one) x) 0) (threads c (new ++ one))) k
      ∙ ap (λ n. kernel_rem c (d + length other) (new ++ other) j + n) s

  -- sums over the windows to come
  sums-same : (i until : ℕ) (f g : ℕ → ℕ) → 0 < period c i → ((s : ℕ) → f (s + length one) ≡ g (s + length other))
      → sum_starts c i (d + length one) (until + length one) f ≡ sum_starts c i (d + length other) (until + length other) g
  sums-same i until f g positive each =
      starts-behind c (length one) begins i d until f positive
      ∙ sum_every-each (period c i) (window_end c i d) (windows_left c i d until) (λ s. f (s + length one)) (λ s. g (s + length other)) each
      ∙ sym (starts-behind c (length other) begins' i d until g positive)

  demand-of : (until : ℕ) (x y : Thread) → Twins x y
      → thread_demand c (d + length one) (new ++ one) (until + length one) x ≡ thread_demand c (d + length other) (new ++ other) (until + length other) y
  demand-of until x y t =
      let a = rem-same x y t in
      let b = sums-same x.level until (share c (new ++ one) x) (share c (new ++ other) y) t.positive (λ s. share-same s x y t) in
      let e = ap (λ i. sum_starts c i (d + length other) (until + length other) (share c (new ++ other) y)) (level-same x y t) in
      omega (arith, a, b, e)

  kernel-demand : (until i : ℕ) → 0 < period c i
      → kernel_demand c (d + length one) (new ++ one) (until + length one) i ≡ kernel_demand c (d + length other) (new ++ other) (until + length other) i
  kernel-demand until i positive =
      let a = kernel-same i positive in
      let b = sums-same i until (λ s. release c i) (λ s. release c i) positive (λ s. refl) in
      omega (arith, a, b)

  remaining-at : (until j : ℕ) → j < length c.levels
      → sum_up_to j (kernel_demand c (d + length one) (new ++ one) (until + length one))
      + sum_by (λ x. cond (leb x.level j) (thread_demand c (d + length one) (new ++ one) (until + length one) x) 0) (threads c (new ++ one))
      ≡ sum_up_to j (kernel_demand c (d + length other) (new ++ other) (until + length other))
      + sum_by (λ x. cond (leb x.level j) (thread_demand c (d + length other) (new ++ other) (until + length other) x) 0) (threads c (new ++ other))
  remaining-at until j known =
      let a =
      sum_from-same 0 (suc j) (kernel_demand c (d + length one) (new ++ one) (until + length one)) (kernel_demand c (d + length other) (new ++ other) (until + length other))
      (λ i low high. kernel-demand until i (checked.positive i (omega (arith, high, known)))) in
      let b =
      sum-pairs Twins (λ x. cond (leb x.level j) (thread_demand c (d + length one) (new ++ one) (until + length one) x) 0)
      (λ y. cond (leb y.level j) (thread_demand c (d + length other) (new ++ other) (until + length other) y) 0)
      (threads c (new ++ one)) (threads c (new ++ other)) threads-same
      (λ x y t. ap (λ k. cond (leb x.level j) k 0) (demand-of until x y t)
      ∙ ap (λ i. cond (leb i j) (thread_demand c (d + length other) (new ++ other) (until + length other) y) 0) (level-same x y t)) in
      omega (arith, a, b)

  remaining-same : (j : ℕ) → j < length c.levels → remaining_demand c (d + length one) (new ++ one) j ≡ remaining_demand c (d + length other) (new ++ other) j
  remaining-same j known =
      let positive = checked.positive j known in
      ap (λ e. sum_up_to j (kernel_demand c (d + length one) (new ++ one) e)
      + sum_by (λ x. cond (leb x.level j) (thread_demand c (d + length one) (new ++ one) e x) 0) (threads c (new ++ one))) (end-behind c (length one) begins j d positive)
      ∙ remaining-at (window_end c j d) j known
      ∙ sym (ap (λ e. sum_up_to j (kernel_demand c (d + length other) (new ++ other) e)
      + sum_by (λ x. cond (leb x.level j) (thread_demand c (d + length other) (new ++ other) e x) 0) (threads c (new ++ other))) (end-behind c (length other) begins' j d positive))

  blocking-same : (j : ℕ) → blocking c (new ++ one) j ≡ blocking c (new ++ other) j
  blocking-same j =
      sum-pairs Twins (thread_blocking c (new ++ one) j) (thread_blocking c (new ++ other) j) (threads c (new ++ one)) (threads c (new ++ other)) threads-same
      (λ x y t. ap (λ h. cond (ltb j x.level) (greatest_left c j h) 0) (held-of x y t)
      ∙ ap (λ i. cond (ltb j i) (greatest_left c j (held_by y.id (new ++ other))) 0) (level-same x y t))

  fits-same_at : (j : ℕ) → j < length c.levels → fits_at c (d + length one) (new ++ one) j ≡ fits_at c (d + length other) (new ++ other) j
  fits-same_at j known =
      let positive = checked.positive j known in
      let own = own-same j positive in
      let all = remaining-same j known in
      let held_up = blocking-same j in
      let e = end-behind c (length one) begins j d positive in
      let e' = end-behind c (length other) begins' j d positive in
      let room : window_end c j (d + length one) - (d + length one) ≡ window_end c j (d + length other) - (d + length other) = omega (arith, e, e') in
      let need : remaining_demand c (d + length one) (new ++ one) j + blocking c (new ++ one) j + 1 ≡ remaining_demand c (d + length other) (new ++ other) j + blocking c (new ++ other) j + 1 = omega (arith, all, held_up) in
      ap (λ n. cond (eqb n 0) true (leb (remaining_demand c (d + length one) (new ++ one) j + blocking c (new ++ one) j + 1) (window_end c j (d + length one) - (d + length one)))) own
      ∙ ap (λ n. cond (eqb (own_demand c (d + length other) (new ++ other) j) 0) true (leb n (window_end c j (d + length one) - (d + length one)))) need
      ∙ ap (λ n. cond (eqb (own_demand c (d + length other) (new ++ other) j) 0) true (leb (remaining_demand c (d + length other) (new ++ other) j + blocking c (new ++ other) j + 1) n)) room

  pub fits-same : fits c (d + length one) (new ++ one) ≡ fits c (d + length other) (new ++ other)
  fits-same = all-numbers (fits_at c (d + length one) (new ++ one)) (fits_at c (d + length other) (new ++ other)) 0 (length c.levels) (λ j less. fits-same_at j (omega (arith, less)))

  request-same : (x y : Thread) → Twins x y → request c (d + length one) (new ++ one) x ≡ request c (d + length other) (new ++ other) y
  request-same x y t =
      ap (λ w. cond (is_closed c (d + length one) (new ++ one) x) no_request (last_request x.id w)) (window-behind c (length one) begins new one d x.level refl t.positive)
      ∙ ap (λ b. cond b no_request (last_request x.id (window c d new x.level))) (closed-same x y t)
      ∙ ap (λ r. cond (is_closed c (d + length other) (new ++ other) y) no_request (last_request r.id (window c d new r.level))) t.same
      ∙ sym (ap (λ w. cond (is_closed c (d + length other) (new ++ other) y) no_request (last_request y.id w)) (window-behind c (length other) begins' new other d y.level refl (positive' x y t)))

  pub entering-same : (x y : Thread) → Twins x y → is_entering c (d + length one) (new ++ one) x ≡ is_entering c (d + length other) (new ++ other) y
  entering-same x y t = ap (λ (r : Request). ltb r.spent (2 * c.costs.switch)) (request-same x y t)

  pub wishing-same : (k : ℕ) (x y : Thread) → Twins x y → is_wishing c (d + length one) (new ++ one) k x ≡ is_wishing c (d + length other) (new ++ other) k y
  wishing-same k x y t =
      ap (λ i. ((eqb i k) && (eqb (thread_rem c (d + length one) (new ++ one) x) 0)) && ltb 0 (want c (d + length one) (new ++ one) x)) (level-same x y t)
      ∙ ap (λ n. ((eqb y.level k) && (eqb n 0)) && ltb 0 (want c (d + length one) (new ++ one) x)) (rem-same x y t)
      ∙ ap (λ (r : Request). ((eqb y.level k) && (eqb (thread_rem c (d + length other) (new ++ other) y) 0)) && ltb 0 (r.amount - r.spent)) (request-same x y t)

  older-same : (x y : Thread) (o o' : Option Thread) → Twins x y → Both Twins o o'
      → Both Twins (older c (d + length one) (new ++ one) x o) (older c (d + length other) (new ++ other) y o')
  older-same x y None None t h = t
  older-same x y None (Some w) t h = absurd h
  older-same x y (Some z) None t h = absurd h
  older-same x y (Some z) (Some w) t h =
      let age : leb (request c (d + length one) (new ++ one) z).age (request c (d + length one) (new ++ one) x).age ≡ leb (request c (d + length other) (new ++ other) w).age (request c (d + length other) (new ++ other) y).age =
      ap (λ (r : Request). leb r.age (request c (d + length one) (new ++ one) x).age) (request-same z w h)
      ∙ ap (λ (r : Request). leb (request c (d + length other) (new ++ other) w).age r.age) (request-same x y t) in
      pick (leb (request c (d + length one) (new ++ one) z).age (request c (d + length one) (new ++ one) x).age)
      (leb (request c (d + length other) (new ++ other) w).age (request c (d + length other) (new ++ other) y).age) x y z w age t h
    where
      pick : (a b : Bool) (x y z w : Thread) → a ≡ b → Twins x y → Twins z w → Both Twins (cond a (Some x) (Some z)) (cond b (Some y) (Some w))
      pick true true x y z w same t h = t
      pick false false x y z w same t h = h
      pick true false x y z w same t h = absurd (cc)
      pick false true x y z w same t h = absurd (cc)

  pub oldest-same : (xs ys : List Thread) → Pairs Twins xs ys → Both Twins (oldest c (d + length one) (new ++ one) xs) (oldest c (d + length other) (new ++ other) ys)
  oldest-same [] [] h = tt
  oldest-same [] (y ∷ ys) h = absurd h
  oldest-same (x ∷ xs) [] h = absurd h
  oldest-same (x ∷ xs) (y ∷ ys) h =
      older-same x y (oldest c (d + length one) (new ++ one) xs) (oldest c (d + length other) (new ++ other) ys) h.0 (oldest-same xs ys h.1)

  level_of-same : (x : ThreadId) → level_of (threads c (new ++ one)) x ≡ level_of (threads c (new ++ other)) x
  level_of-same x =
      both-or-else Twins (λ y. Some y.level) (λ y. Some y.level) None
      (find (λ y. is_same x y.id) (threads c (new ++ one))) (find (λ y. is_same x y.id) (threads c (new ++ other)))
      (find-pairs Twins (λ y. is_same x y.id) (λ y. is_same x y.id) (threads c (new ++ one)) (threads c (new ++ other)) threads-same (λ y z t. ap (is_same x) (id-same y z t)))
      (λ y z t. ap Some (level-same y z t))

  payer-same : (j : ℕ) (o : Option ThreadId)
      → option_map_or (λ x. option_map_or (λ i. leb i j) (level_of (threads c (new ++ one)) x) false) o false
      ≡ option_map_or (λ x. option_map_or (λ i. leb i j) (level_of (threads c (new ++ other)) x) false) o false
  payer-same j None = refl
  payer-same j (Some x) = ap (λ l. option_map_or (λ i. leb i j) l false) (level_of-same x)

  claimed-same : (j : ℕ) (e : Entry) → is_claimed_up_to (threads c (new ++ one)) j e ≡ is_claimed_up_to (threads c (new ++ other)) j e
  claimed-same j e = ap (λ b. option_map_or (λ i. leb i j) (kernel_level e.label) false || b) (payer-same j (payer e.label))

  unclaimed-same : (j : ℕ) → 0 < period c j → unclaimed c (d + length one) (new ++ one) j ≡ unclaimed c (d + length other) (new ++ other) j
  unclaimed-same j positive =
      ap (count_by (λ e. not (is_claimed_up_to (threads c (new ++ one)) j e))) (window-same j positive)
      ∙ count-each (λ e. not (is_claimed_up_to (threads c (new ++ one)) j e)) (λ e. not (is_claimed_up_to (threads c (new ++ other)) j e))
      (window c (d + length other) (new ++ other) j) (λ e. ap not (claimed-same j e))

  pub source-same : source c (d + length one) (new ++ one) ≡ source c (d + length other) (new ++ other)
  source-same =
      ap (λ o. option_map_or Source.Reclaimed o Source.Timeline)
      (first-same (overdrawn_at c (d + length one) (new ++ one)) (overdrawn_at c (d + length other) (new ++ other)) 0 (length c.levels)
      (λ j less. ap (λ n. cond (ltb n (spare c j)) None (Some j)) (unclaimed-same j (checked.positive j (omega (arith, less))))))
