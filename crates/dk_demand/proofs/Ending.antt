-- The demand cells after the end of a main.
use Rattle.dk_demand.proofs.Names.{ℕ, ◌≡◌, ◌+◌, ◌-◌, cond, eqb, leb, List, [], ◌∷◌, length, refl, sym, ap, ◌∙◌, subst, arith, sum_by, nat_tests, sum_by-cons, Configuration, below, clock_at, Entry, Has, Thread, family, held_by, thread_blocking, blocking, own_demand, remaining_demand, shares_to_come, quiet, TickKeepsThreads, given_up, ProcessIsClosed, holds_part, TickBlocksByHolds, RowsAreNamed, Cells, adjusted, by_level, at_level, from_level, less, each_level, dropped_cells, future_cells, closed_cells, lost_cells, EndMovesCells}
use Rattle.dk_demand.proofs.EachLevel.{one_by_one, each-changed}
use Rattle.dk_demand.proofs.Ticking.{ChangesByLevel, levels-same, lists-of}
use Rattle.dk_demand.proofs.Booking.{freed-lists, freed-remaining, freed-windows, freed-blocking}

pub record EndLaws (c : Configuration) (e : Entry) (past : List Entry) : Type 0 where
  pub changed : ChangesByLevel
  pub closed : ProcessIsClosed c e past
  pub holds : TickBlocksByHolds c e.label past
  pub threads_stay : TickKeepsThreads c e.label past
  pub named : RowsAreNamed c past

-- a level's number falls once more
less-again : (k j amount old part : ℕ) → at_level k (less amount) j (old - part) ≡ old - (cond (eqb k j) amount 0 + part)
less-again k j amount old part = grind (arith, nat_tests)

from-again : (k j amount old part : ℕ) → from_level k (less amount) j (old - part) ≡ old - (cond (leb k j) amount 0 + part)
from-again k j amount old part = grind (arith, nat_tests)

abbrev given_at : Configuration → Entry → List Entry → ℕ → List Thread → ℕ
given_at c e past j ys = sum_by (λ y. cond (eqb y.level j) (given_up c e past y) 0) ys

abbrev given_to : Configuration → Entry → List Entry → ℕ → List Thread → ℕ
given_to c e past j ys = sum_by (λ y. cond (leb y.level j) (given_up c e past y) 0) ys

abbrev holds_of : Configuration → Entry → List Entry → ℕ → List Thread → ℕ
holds_of c e past j ys = sum_by (λ y. holds_part c j y.level (held_by y.id (quiet e.label ∷ past))) ys

closed-own : (c : Configuration) (e : Entry) (past : List Entry) (ys : List Thread) (d : Cells) (old : ℕ → ℕ) → ChangesByLevel
    → d.own ≡ each_level c old → (closed_cells c e past ys d).own ≡ each_level c (λ j. old j - given_at c e past j ys)
closed-own c e past [] d old changed is = is ∙ levels-same c old (λ j. old j - 0) (λ j known. omega arith)
closed-own c e past (y ∷ ys) d old changed is =
    let amount = given_up c e past y in
    let rest = closed_cells c e past ys d in
    freed-lists c y.level (held_by y.id (quiet e.label ∷ past)) (dropped_cells y.level amount rest)
    ∙ ap (by_level (at_level y.level (less amount))) (closed-own c e past ys d old changed is)
    ∙ changed c (at_level y.level (less amount)) (λ j. old j - given_at c e past j ys) (λ j. old j - given_at c e past j (y ∷ ys))
    (λ j known. less-again y.level j amount (old j) (given_at c e past j ys)
    ∙ sym (ap (λ k. old j - k) (sum_by-cons (λ z. cond (eqb z.level j) (given_up c e past z) 0) y ys)))

closed-remaining : (c : Configuration) (e : Entry) (past : List Entry) (ys : List Thread) (d : Cells) (old : ℕ → ℕ) → ChangesByLevel
    → d.remaining ≡ each_level c old → (closed_cells c e past ys d).remaining ≡ each_level c (λ j. old j - given_to c e past j ys)
closed-remaining c e past [] d old changed is = is ∙ levels-same c old (λ j. old j - 0) (λ j known. omega arith)
closed-remaining c e past (y ∷ ys) d old changed is =
    let amount = given_up c e past y in
    let rest = closed_cells c e past ys d in
    freed-remaining c y.level (held_by y.id (quiet e.label ∷ past)) (dropped_cells y.level amount rest)
    ∙ ap (by_level (from_level y.level (less amount))) (closed-remaining c e past ys d old changed is)
    ∙ changed c (from_level y.level (less amount)) (λ j. old j - given_to c e past j ys) (λ j. old j - given_to c e past j (y ∷ ys))
    (λ j known. from-again y.level j amount (old j) (given_to c e past j ys)
    ∙ sym (ap (λ k. old j - k) (sum_by-cons (λ z. cond (leb z.level j) (given_up c e past z) 0) y ys)))

closed-blocking : (c : Configuration) (e : Entry) (past : List Entry) (ys : List Thread) (d : Cells) (old : ℕ → ℕ) → ChangesByLevel
    → d.blocking ≡ each_level c old → (closed_cells c e past ys d).blocking ≡ each_level c (λ j. old j - holds_of c e past j ys)
closed-blocking c e past [] d old changed is = is ∙ levels-same c old (λ j. old j - 0) (λ j known. omega arith)
closed-blocking c e past (y ∷ ys) d old changed is =
    let held = held_by y.id (quiet e.label ∷ past) in
    freed-blocking c y.level held (dropped_cells y.level (given_up c e past y) (closed_cells c e past ys d)) (λ j. old j - holds_of c e past j ys) changed
    (closed-blocking c e past ys d old changed is)
    ∙ levels-same c (λ j. old j - holds_of c e past j ys - holds_part c j y.level held) (λ j. old j - holds_of c e past j (y ∷ ys))
    (λ j known. (let split = sum_by-cons (λ z. holds_part c j z.level (held_by z.id (quiet e.label ∷ past))) y ys in omega (arith, split)))

closed-windows : (c : Configuration) (e : Entry) (past : List Entry) (ys : List Thread) (d : Cells) → (closed_cells c e past ys d).windows ≡ d.windows
closed-windows c e past [] d = refl
closed-windows c e past (y ∷ ys) d = grind (arith, nat_tests, freed-windows, closed-windows c e past ys)

sum-same : (f g : Thread → ℕ) (ys : List Thread) → ((y : Thread) → Has ys y → f y ≡ g y) → sum_by f ys ≡ sum_by g ys
sum-same f g [] same = refl
sum-same f g (y ∷ ys) same = grind (arith, nat_tests, sum_by-cons, sum-same f g ys)

-- what the losses of the windows to come change
lost-own : (lost : ℕ → ℕ) (js : List ℕ) (d : Cells) → (lost_cells lost js d).own ≡ d.own
lost-own lost [] d = refl
lost-own lost (j ∷ js) d = lost-own lost js (future_cells j (lost j) 0 d)

lost-blocking : (lost : ℕ → ℕ) (js : List ℕ) (d : Cells) → (lost_cells lost js d).blocking ≡ d.blocking
lost-blocking lost [] d = refl
lost-blocking lost (j ∷ js) d = lost-blocking lost js (future_cells j (lost j) 0 d)

lost-windows : (lost : ℕ → ℕ) (js : List ℕ) (d : Cells) → (lost_cells lost js d).windows ≡ d.windows
lost-windows lost [] d = refl
lost-windows lost (j ∷ js) d = lost-windows lost js (future_cells j (lost j) 0 d)

lost-remaining : (lost : ℕ → ℕ) (js : List ℕ) (d : Cells) → (lost_cells lost js d).remaining ≡ one_by_one (λ j. adjusted (lost j) 0) js d.remaining
lost-remaining lost [] d = refl
lost-remaining lost (j ∷ js) d = lost-remaining lost js (future_cells j (lost j) 0 d)

pub end-cells : (c : Configuration) (e : Entry) (past : List Entry) → EndLaws c e past → EndMovesCells c e past
end-cells c e past laws d x counts end =
    let n = length past in
    let before = quiet e.label ∷ past in
    let p = x.id.process in
    let ys = family c p past in
    let here = (laws.named.place x end.among).0 in
    let lists = lists-of c n before d counts in
    let shut = closed_cells c e past ys d in
    let lost : ℕ → ℕ = λ j. shares_to_come c n before j p in
    let levels = below (length c.levels) in
    let done = lost_cells lost levels shut in
    let own_list : done.own ≡ each_level c (own_demand c n (e ∷ past)) =
    lost-own lost levels shut ∙ closed-own c e past ys d (own_demand c n before) laws.changed lists.own_is
    ∙ levels-same c (λ j. own_demand c n before j - given_at c e past j ys) (own_demand c n (e ∷ past))
    (λ j known. let law = laws.closed.own x j end in omega (arith, law)) in
    let remaining_list : done.remaining ≡ each_level c (remaining_demand c n (e ∷ past)) =
    lost-remaining lost levels shut
    ∙ ap (one_by_one (λ j. adjusted (lost j) 0) levels) (closed-remaining c e past ys d (remaining_demand c n before) laws.changed lists.remaining_is)
    ∙ each-changed c (λ j. adjusted (lost j) 0) (λ j. remaining_demand c n before j - given_to c e past j ys) (remaining_demand c n (e ∷ past))
    (λ f right. laws.changed c f (λ j. remaining_demand c n before j - given_to c e past j ys) (remaining_demand c n (e ∷ past)) right)
    (λ j known. let law = laws.closed.remaining x j known end in omega (arith, law)) in
    let blocking_list : done.blocking ≡ each_level c (blocking c (e ∷ past)) =
    lost-blocking lost levels shut ∙ closed-blocking c e past ys d (blocking c before) laws.changed lists.blocks_is
    ∙ levels-same c (λ j. blocking c before j - holds_of c e past j ys) (blocking c (e ∷ past))
    (λ j known. (let law = laws.closed.blocking x j end in
    let parts = sum-same (thread_blocking c before j) (λ y. holds_part c j y.level (held_by y.id before)) ys
    (λ y h. laws.holds y j (subst (λ xs. Has xs y) (sym laws.threads_stay.threads) (laws.named.all p y here h))) in
    omega (arith, law, parts))) in
    let windows : done.windows ≡ d.windows = lost-windows lost levels shut ∙ closed-windows c e past ys d in
    let tick : done.windows.tick ≡ n = ap (λ w. w.tick) windows ∙ counts.1 in (
      record {
        windows = windows ∙ counts.0.windows ∙ ap (λ t. clock_at c t) (ap (λ w. w.tick) (sym windows));
        own = subst (λ t. done.own ≡ each_level c (own_demand c t (e ∷ past))) (sym tick) own_list;
        remaining = subst (λ t. done.remaining ≡ each_level c (remaining_demand c t (e ∷ past))) (sym tick) remaining_list;
        blocking = blocking_list;
      },
      tick,
    )
