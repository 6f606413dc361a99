-- Ticks one after the other of a thread that computes and holds nothing.
use Rattle.dk_recount.proofs.Names.{◌≡◌, ◌<◌, ◌≤◌, ◌+◌, ◌-◌, ◌∙◌, ◌∷◌, ℕ, zero, suc, Bool, eqb, leb, List, [], length, take, get_or, Some, refl, ap, sym, subst, arith, All, length-map, nat_tests, MAX_TICKS, Configuration, LevelRow, length-map-numbers, ThreadId, Phase, Choice, Entry, Clock, end_at, passed, body-less, Lockable, effective_level, hold_left, Cells, dropped_cells, held_cells, adjusted, at_level, by_level, from_level, less, between-start, get_or-by_level, by-twice, Slack, counted, counted_for, Seat, Roster, seat_at, seat-then, jobs-none, jobs-more, HasFamilies, IsSound, Tables, node_in, IsReady, IsRecount, HasWork, MayBudget, MayCount, charged, counts, first_in, level_in, moved_on, Computes, EndsAfter, MayComputeFor, Passes, computed}
use Rattle.std.specs.Prelude.{◌^◌, cond}
use Rattle.std.proofs.lemmas.List.{length-set}
use Rattle.dk_recount.proofs.Stretching.{StretchLaws, begins-not}
use Rattle.dk_recount.proofs.Chains.{Chain, HoldsAreThePasts, chain-may, chain-passes}
use Rattle.dk_recount.proofs.Cells.{by-nothing}

-- The demand.

less-twice : (b : Bool) (m n : ℕ) → cond b (less 1 (cond b (less m n) n)) (cond b (less m n) n) ≡ cond b (less (suc m) n) n
less-twice b m n = grind (arith, nat_tests)

less-none : (b : Bool) (n : ℕ) → cond b (less 0 n) n ≡ n
less-none b n = grind (arith, nat_tests)

pub own-more : (l m : ℕ) (ns : List ℕ) → by_level (at_level l (less 1)) (by_level (at_level l (less m)) ns) ≡ by_level (at_level l (less (suc m))) ns
own-more l m ns = by-twice _ _ _ ns (λ j n. less-twice (eqb j l) m n)

pub remaining-more : (l m : ℕ) (ns : List ℕ) → by_level (from_level l (less 1)) (by_level (from_level l (less m)) ns) ≡ by_level (from_level l (less (suc m))) ns
remaining-more l m ns = by-twice _ _ _ ns (λ j n. less-twice (leb l j) m n)

-- The unclaimed ticks.

pub counted-more : (l m : ℕ) (us : List ℕ) → counted (Some l) (counted_for m (Some l) us) ≡ counted_for (suc m) (Some l) us
counted-more zero m us = refl
counted-more (suc l) m [] = refl
counted-more (suc l) m (u ∷ us) = grind (arith, nat_tests, counted-more l m us)

pub counted-none : (l : ℕ) (us : List ℕ) → us ≡ counted_for 0 (Some l) us
counted-none zero us = refl
counted-none (suc l) [] = refl
counted-none (suc l) (u ∷ us) = grind (arith, nat_tests, counted-none l us)

length-counted : (n l : ℕ) (us : List ℕ) → length (counted_for n (Some l) us) ≡ length us
length-counted n zero us = refl
length-counted n (suc l) [] = refl
length-counted n (suc l) (u ∷ us) = ap suc (length-counted n l us)

-- The tables.

fields : (d : Tables) (j j' : Roster) (m m' : List Lockable) (e e' : Cells) (s s' : Slack) → j ≡ j' → m ≡ m' → e ≡ e' → s ≡ s'
    → record d { jobs = j; mutexes = m; demand = e; slack = s } ≡ record d { jobs = j'; mutexes = m'; demand = e'; slack = s' }
fields d j j' m m' e e' s s' one two three four = rw (one, two, three, four) refl

cells : (e : Cells) (own own' remaining remaining' blocking blocking' : List ℕ) (tick tick' : ℕ) → own ≡ own' → remaining ≡ remaining' → blocking ≡ blocking' → tick ≡ tick'
    → ◌≡◌ {A = Cells} (record { own = own; remaining = remaining; blocking = blocking; windows = record { tick = tick; periods = e.windows.periods } })
    (record { own = own'; remaining = remaining'; blocking = blocking'; windows = record { tick = tick'; periods = e.windows.periods } })
cells e own own' remaining remaining' blocking blocking' tick tick' one two three four = rw (one, two, three, four) refl

-- the demand after a tick at the level, at which the thread runs too
demand-more : (l l' f m : ℕ) (e : Cells) → l' ≡ l → f ≡ l
    → (let after = held_cells l' f 1 0 (dropped_cells l' 1 (record (dropped_cells l m e) { windows = passed m e.windows })) in
    record after { windows = record after.windows { tick = after.windows.tick + 1 } } ≡ record (dropped_cells l (suc m) e) { windows = passed (suc m) e.windows })
demand-more l l' f m e is runs =
    let at : (k g : ℕ) → Cells = λ k g. held_cells k g 1 0 (dropped_cells k 1 (record (dropped_cells l m e) { windows = passed m e.windows })) in
    let moved : Cells → Cells = λ (z : Cells). record z { windows = record z.windows { tick = z.windows.tick + 1 } } in
    let one : e.windows.tick + m + 1 ≡ e.windows.tick + suc m = omega arith in
    ap (λ k. moved (at k f)) is ∙ ap (λ g. moved (at l g)) runs
    ∙ cells e _ _ _ _ _ _ _ _ (own-more l m e.own) (remaining-more l m e.remaining) (sym (between-start (adjusted 1 0) e.blocking l)) one

pub sound-computed : (x : ThreadId) (d : Tables) → IsSound d → (m : ℕ) → IsSound (computed x m d)
sound-computed x d sound m = grind (arith, nat_tests, length-counted, length-set)

own-left : (l m : ℕ) (ns : List ℕ) → l < length ns → 0 < get_or (by_level (at_level l (less m)) ns) l 0 → suc m ≤ get_or ns l 0
own-left l m ns inside some = grind (arith, nat_tests, get_or-by_level)

rest-left : (l j m : ℕ) (ns : List ℕ) → j < length ns → l ≤ j → 0 < get_or (by_level (from_level l (less m)) ns) j 0 → suc m ≤ get_or ns j 0
rest-left l j m ns inside after some = grind (arith, nat_tests, get_or-by_level)

count-left : (l m : ℕ) (us : List ℕ) → All (λ u. u + 1 < 2 ^ 32) (take l (counted_for m (Some l) us)) → All (λ u. u + suc m < 2 ^ 32) (take l us)
count-left zero m us h k y inside = absurd (omega (arith, inside))
count-left (suc l) m [] h k y inside = absurd (omega (arith, inside))
count-left (suc l) m (u ∷ us) h zero y inside = (let one = h 0 y (omega arith) in omega (arith, one))
count-left (suc l) m (u ∷ us) h (suc k) y inside = count-left l m us (λ i z below. h (suc i) z (omega (arith, below))) k y (omega (arith, inside))

module _ (x : ThreadId) (d : Tables) (sound : IsSound d) (families : HasFamilies d) where
  abbrev node : ℕ
  node = node_in d.threads x

  abbrev level : ℕ
  level = level_in d x

  module _ (n : ℕ) (computes : Computes x n d) (within : EndsAfter n d) where
    level-then : (m : ℕ) → level_in (computed x m d) x ≡ level
    level-then m = ap (λ (s : Seat). s.level) (seat-then d.jobs node computes.node m)

    first-then : (m : ℕ) → first_in (computed x m d) x ≡ level
    first-then m = ap (λ k. effective_level x k d.mutexes) (level-then m) ∙ computes.runs

    -- one more tick of the thread
    computed-more : (m : ℕ) → suc m ≤ n → moved_on (charged (Choice.Budget x Phase.Body) (computed x m d)) ≡ computed x (suc m) d
    computed-more m less =
        let D = computed x m d in
        fields d _ _ _ _ _ _ _ _
        (jobs-more d.jobs node computes.node m (body-less d.jobs.switch n (suc m) (seat_at d.jobs node).job less computes.body))
        computes.holds
        (demand-more level (level_in D x) (first_in D x) m d.demand (level-then m) (first-then m))
        (ap (λ k. counts (Some k) D.slack) (level-then m) ∙ ap (λ us. record d.slack { unclaimed = us }) (counted-more level m d.slack.unclaimed))

    computed-none : d ≡ computed x 0 d
    computed-none = grind (arith, nat_tests, fields, jobs-none, by-nothing, less-none, counted-none)

    abbrev choice : Choice
    choice = Choice.Budget x Phase.Body

    compute-chain : Chain choice n (λ m. computed x m d)
    compute-chain = record {
      more = computed-more;
      rows = λ m. refl;
      families = λ m. families;
      sound = sound-computed x d sound;
      chosen = computes.chosen;
      free = λ m y names. subst (λ z. hold_left z d.mutexes ≡ 0) (same-name y names) computes.free;
      still = λ m less. begins-not d.demand.windows (suc m) (omega arith) (sooner (suc m) d.demand.windows.tick (end_at d.demand.windows 0) less within);
    }
      where
        same-name : (y : ThreadId) → Some x ≡ Some y → x ≡ y
        same-name y names = cc

        sooner : (m t e : ℕ) → m ≤ n → t + n < e → t + m < e
        sooner m t e less within = omega (arith, less, within)

    module _ (laws : StretchLaws) (left : HoldsAreThePasts) where
      pub compute-passes : Passes choice n d (computed x n d)
      compute-passes = subst (λ t. Passes choice n t (computed x n d)) (sym computed-none) (chain-passes laws left choice n (λ m. computed x m d) compute-chain n (omega arith))

      -- what so many ticks of it owe
      may-at : (c : Configuration) (past : List Entry) → IsReady c past d → length past + n ≤ MAX_TICKS → (m : ℕ) → suc m ≡ n → MayComputeFor x (suc m) d
      may-at c past ready room m last =
          let D = computed x m d in
          let may : MayBudget x D = chain-may laws left choice n (λ i. computed x i d) compute-chain c past (subst (IsReady c past) computed-none ready) room m (omega (arith, last)) in
          let level = level-then m in
          let work : HasWork (level_in d x) D.demand = subst (λ l. HasWork l D.demand) level may.work in
          let count : MayCount (Some (level_in d x)) D.slack = subst (λ l. MayCount (Some l) D.slack) level may.count in
          let long : length d.demand.own ≡ length d.demand.windows.periods = own-length c (length past) past ready.recount in
          let long' : length d.demand.remaining ≡ length d.demand.windows.periods = remaining-length c (length past) past ready.recount in
          record {
            work = record {
              known = work.known;
              own = own-left (level_in d x) m d.demand.own (let known = work.known in omega (arith, long, known)) work.own;
              remaining = λ j after inside. rest-left (level_in d x) j m d.demand.remaining (omega (arith, long', inside)) after (work.remaining j after inside);
            };
            count = count-left (level_in d x) m d.slack.unclaimed count;
          }
        where
          periods-length : (c : Configuration) (now : ℕ) (past : List Entry) → IsRecount c now past d → length d.demand.windows.periods ≡ length c.levels
          periods-length c now past r = ap (λ (w : Clock). length w.periods) r.cells.windows ∙ length-map c.levels (λ (row : LevelRow). row.period)

          own-length : (c : Configuration) (now : ℕ) (past : List Entry) → IsRecount c now past d → length d.demand.own ≡ length d.demand.windows.periods
          own-length c now past r = ap length r.cells.own ∙ length-map-numbers _ 0 (length c.levels) ∙ sym (periods-length c now past r)

          remaining-length : (c : Configuration) (now : ℕ) (past : List Entry) → IsRecount c now past d → length d.demand.remaining ≡ length d.demand.windows.periods
          remaining-length c now past r = ap length r.cells.remaining ∙ length-map-numbers _ 0 (length c.levels) ∙ sym (periods-length c now past r)

      pub may-compute : (c : Configuration) (past : List Entry) → IsReady c past d → length past + n ≤ MAX_TICKS → 0 < n → MayComputeFor x n d
      may-compute c past ready room some =
          let last : suc (n - 1) ≡ n = omega (arith, some) in
          subst (λ k. MayComputeFor x k d) last (may-at c past ready room (n - 1) last)
