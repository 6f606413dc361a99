-- The shares at the window starts to come, and a child's present share: those of the recount are those of the past.
use Rattle.dk_budget.proofs.Names.{◌≡◌, ◌∙◌, ◌<◌, ◌≤◌, ◌+◌, ◌-◌, ◌*◌, ◌/◌, ◌%◌, ◌||◌, ℕ, zero, suc, Bool, true, false, List, [], ◌∷◌, length, map, Option, Some, None, ap, sym, subst, arith, refl, inl, inr, nat_lt, nat_le, ◌&&◌, ◌==◌, not, filter, find, sum_by, if◌then◌else◌, option_map_or, ◌∣◌, cases_Bool, cases_lt, nat_tests, sum_by-cons, div-add-mod, dvd-mul_right, le_of_dvd, dvd-sub, Configuration, IsChecked, sum_every, period, main_level, window_start, window_end, sum_every-zero, clock_at, periods_of, start_at, Entry, Has, Thread, family, is_main, is_void, is_ended_by, is_stopped_before, share, window_end-above, Loan, Lender, is_before, is_in_force, main_share, child_share, quota_at, present_child_share, main_future, child_future, future_shares, counted_loan, counted_lender, recount, IsChildOf, IsFamilyOf}
use Rattle.dk_trace.specs.Threads as trace
use Rattle.dk_trace.specs.Demand.{sum_starts}
use Rattle.dk_budget.specs.Shares as table
use Rattle.dk_budget.proofs.Starting.{period-same}
use Rattle.dk_budget.proofs.Recounts.{row-of}
use Rattle.dk_budget.proofs.Sharing.{stands-at, lent-same, not-after, dvd-end}

-- sums of terms that are the same from the first one on
every-same : (step first n : ℕ) (f g : ℕ → ℕ) → ((s : ℕ) → first ≤ s → f s ≡ g s) → sum_every step first n f ≡ sum_every step first n g
every-same step first zero f g same = refl
every-same step first (suc n) f g same = grind (arith, nat_tests, every-same step (first + step) n)

-- the window starts to come, by the clock and by the configuration
starts-same : (c : Configuration) (now i j : ℕ) (f g : ℕ → ℕ) → ((s : ℕ) → window_end c i now ≤ s → f s ≡ g s)
    → table.sum_starts (clock_at c now) i j f ≡ sum_starts c i now (window_end c j now) g
starts-same c now i j f g same = grind (arith, nat_tests, period-same, every-same)

ended-later : (c : Configuration) (now s : ℕ) (y : Thread) → now ≤ s → is_ended_by c now y ≡ true → is_ended_by c s y ≡ true
ended-later c now s y le over = grind (arith, nat_tests)

-- the main's part
main-later : (c : Configuration) (now : ℕ) (past : List Entry) (p : ℕ) (main : Thread) (children : List Thread) (s : ℕ)
    → IsFamilyOf c now past p main children → now ≤ s
    → main_share (counted_lender c now past p) s ≡ share c past main s
main-later c now past p main children s is le = grind (arith, nat_tests, stands-at, lent-same, ended-later)

main-future : (c : Configuration) (now j : ℕ) (past : List Entry) (p : ℕ) (main : Thread) (children : List Thread)
    → IsChecked c → p < length c.processes → IsFamilyOf c now past p main children
    → main_future (clock_at c now) j (counted_lender c now past p)
    ≡ (if nat_le main.level j then sum_starts c main.level now (window_end c j now) (share c past main) else 0)
main-future c now j past p main children checked here is =
    let m = main_level c p in
    let up = window_end-above c m now (checked.positive m (checked.levels p here)) in
    let sums = starts-same c now m j (main_share (counted_lender c now past p)) (share c past main)
    (λ s le. main-later c now past p main children s is (omega (arith, up, le))) in
    ap (λ k. if nat_le m j then k else 0) sums
    ∙ sym (ap (λ i. if nat_le i j then sum_starts c i now (window_end c j now) (share c past main) else 0) is.level)

-- the window of an earlier tick ends no later
end-order : (c : Configuration) (i t n : ℕ) → 0 < period c i → t ≤ n → window_end c i t ≤ window_end c i n
end-order c i t n positive le = grind (arith, nat_tests)

-- whether the loan of a child that stands is in force from the next window on
force-later : (c : Configuration) (now s : ℕ) (level : ℕ) (stop : Option ℕ) (begun : Bool) → 0 < period c level
    → ((t : ℕ) → stop ≡ Some t → t ≤ now) → window_end c level now ≤ s
    → (begun && is_before (option_map_or (λ t. Some (window_end c level t)) stop None) s)
    ≡ (begun && not (option_map_or (λ t. nat_lt t s) stop false))
force-later c now s level None begun positive old le = refl
force-later c now s level (Some t) begun positive old le =
    let early : t ≤ now = old t refl in
    let up = window_end-above c level now positive in
    let order = end-order c level t now positive early in
    let one : nat_lt s (window_end c level t) ≡ false = grind (arith, nat_tests) in
    let two : nat_lt t s ≡ true = grind (arith, nat_tests) in
    ap (λ b. begun && b) one ∙ sym (ap (λ b. begun && not b) two)

quota-same : (c : Configuration) (m level quota : ℕ) → quota_at (periods_of c) m level quota ≡ (quota * period c level) / period c m
quota-same c m level quota = grind (arith, nat_tests, period-same)

-- a share of a child that isn't void
share-open : (c : Configuration) (past : List Entry) (p s : ℕ) (y : Thread) → is_main y ≡ false → y.id.process ≡ p → is_void y ≡ false
    → share c past y s
    ≡ (if nat_le y.start s && not (is_stopped_before s y) then (y.quota * period c y.level) / period c (main_level c p) else 0)
share-open c past p s y child own open_ = grind (arith, nat_tests)

stands-parts : (c : Configuration) (now : ℕ) (y : Thread) → is_main y ≡ false → stands-at c now y ≡ (not (is_void y) && not (is_ended_by c now y))
stands-parts c now y child = ap (λ b. not b && not (is_void y) && not (is_ended_by c now y)) child

stands-open : (a b : Bool) → (not a && not b) ≡ true → a ≡ false
stands-open a b h = grind (arith, nat_tests)

stands-not : (a b : Bool) → (not a && not b) ≡ false → (a || b) ≡ true
stands-not a b h = grind (arith, nat_tests)

-- the share of a child that is void or ended
share-gone : (c : Configuration) (now : ℕ) (past : List Entry) (s : ℕ) (y : Thread) → is_main y ≡ false → 0 < period c y.level
    → (is_void y || is_ended_by c now y) ≡ true → window_start c y.level now ≤ s → share c past y s ≡ 0
share-gone c now past s y child positive gone le =
    ap (λ b. if b then trace.main_share c past y s else trace.child_share c y s) child
    ∙ (elim (cases_Bool (is_void y)) [
      | inl void ↦ ap (λ b. if (not b && nat_le y.start s) && not (is_stopped_before s y) then (y.quota * period c y.level) / period c (main_level c y.id.process) else 0) void
      | inr open_ ↦
          let over : is_ended_by c now y ≡ true = sym (ap (λ b. b || is_ended_by c now y) open_) ∙ gone in
          let stopped : is_stopped_before s y ≡ true = go y.stop over in
          ap (λ b. if (not (is_void y) && nat_le y.start s) && not b then (y.quota * period c y.level) / period c (main_level c y.id.process) else 0) stopped
          ∙ none (not (is_void y) && nat_le y.start s) ((y.quota * period c y.level) / period c (main_level c y.id.process))
    ])
  where
    none : (b : Bool) (q : ℕ) → (if b && false then q else 0) ≡ 0
    none true q = refl
    none false q = refl

    go : (stop : Option ℕ) → option_map_or (λ t. nat_le t now) (option_map_or (λ t. Some (window_end c y.level t)) stop None) false ≡ true
        → option_map_or (λ t. nat_lt t s) stop false ≡ true
    go None h = absurd (cc)
    go (Some t) h =
        let by : window_end c y.level t ≤ now = grind (arith, nat_tests) in
        let low = not-after (period c y.level) (window_end c y.level t) now positive (dvd-end (period c y.level) t) by in
        let up = window_end-above c y.level t positive in
        grind (arith, nat_tests, low, up)

-- a child's part
child-later : (c : Configuration) (now : ℕ) (past : List Entry) (p s : ℕ) (y : Thread) → IsChildOf c now p y → 0 < period c y.level
    → is_void y ≡ false → window_end c y.level now ≤ s
    → child_share (periods_of c) (main_level c p) (counted_loan c y) s ≡ share c past y s
child-later c now past p s y is positive open_ le =
    ap (λ q. if is_in_force s (counted_loan c y) then q else 0) (quota-same c (main_level c p) y.level y.quota)
    ∙ ap (λ b. if b then (y.quota * period c y.level) / period c (main_level c p) else 0)
    (force-later c now s y.level y.stop (nat_le y.start s) positive is.stopped le)
    ∙ sym (share-open c past p s y is.child is.process open_)

abbrev future_of : Configuration → ℕ → ℕ → List Entry → Thread → ℕ
future_of c now j past y = if nat_le y.level j then sum_starts c y.level now (window_end c j now) (share c past y) else 0

loan-sum : (f : Loan → ℕ) (c : Configuration) (y : Thread) (b : Bool) (ys : List Thread)
    → sum_by f (map (counted_loan c) (if b then y ∷ ys else ys)) ≡ (if b then f (counted_loan c y) else 0) + sum_by f (map (counted_loan c) ys)
loan-sum f c y b ys = grind (arith, nat_tests, sum_by-cons)

child-one : (c : Configuration) (now j : ℕ) (past : List Entry) (p : ℕ) (y : Thread) → IsChecked c → IsChildOf c now p y
    → (if stands-at c now y then child_future (periods_of c) (main_level c p) (clock_at c now) j (counted_loan c y) else 0) ≡ future_of c now j past y
child-one c now j past p y checked is =
    let positive = checked.positive y.level is.known in
    let up = window_end-above c y.level now positive in
    let parts = stands-parts c now y is.child in
    elim (cases_Bool (stands-at c now y)) [
      | inl stands ↦
          let open_ = stands-open (is_void y) (is_ended_by c now y) (sym parts ∙ stands) in
          ap (λ b. if b then child_future (periods_of c) (main_level c p) (clock_at c now) j (counted_loan c y) else 0) stands
          ∙ ap (λ k. if nat_le y.level j then k else 0)
          (starts-same c now y.level j (child_share (periods_of c) (main_level c p) (counted_loan c y)) (share c past y)
          (λ s le. child-later c now past p s y is positive open_ le))
      | inr gone ↦
          let over = stands-not (is_void y) (is_ended_by c now y) (sym parts ∙ gone) in
          let none : sum_starts c y.level now (window_end c j now) (share c past y) ≡ 0 =
          every-same (period c y.level) (window_end c y.level now) ((window_end c j now - window_end c y.level now) / period c y.level) (share c past y) (λ s. 0)
          (λ s le. share-gone c now past s y is.child positive over (omega arith))
          ∙ sum_every-zero (period c y.level) (window_end c y.level now) ((window_end c j now - window_end c y.level now) / period c y.level) in
          ap (λ b. if b then child_future (periods_of c) (main_level c p) (clock_at c now) j (counted_loan c y) else 0) gone
          ∙ sym (ap (λ k. if nat_le y.level j then k else 0) none ∙ both (nat_le y.level j))
    ]
  where
    both : (b : Bool) → (if◌then◌else◌ {A = ℕ} b 0 0) ≡ 0
    both true = refl
    both false = refl

children-future : (c : Configuration) (now j : ℕ) (past : List Entry) (p : ℕ) (ys : List Thread) → IsChecked c → ((y : Thread) → Has ys y → IsChildOf c now p y)
    → sum_by (child_future (periods_of c) (main_level c p) (clock_at c now) j) (map (counted_loan c) (filter (stands-at c now) ys))
    ≡ sum_by (future_of c now j past) ys
children-future c now j past p [] checked each = refl
children-future c now j past p (y ∷ ys) checked each =
    let f = child_future (periods_of c) (main_level c p) (clock_at c now) j in
    let split = loan-sum f c y (stands-at c now y) (filter (stands-at c now) ys) in
    let one = child-one c now j past p y checked (each y (inl refl)) in
    let rest = children-future c now j past p ys checked (λ z h. each z (inr h)) in
    let whole = sum_by-cons (future_of c now j past) y ys in
    omega (arith, split, one, rest, whole)

-- only children stand
family-stands : (c : Configuration) (now : ℕ) (past : List Entry) (p : ℕ) (main : Thread) (children : List Thread) → IsFamilyOf c now past p main children
    → filter (stands-at c now) (family c p past) ≡ filter (stands-at c now) children
family-stands c now past p main children is = grind (arith, nat_tests)

pub futures-same : (c : Configuration) (now j : ℕ) (past : List Entry) (p : ℕ) (main : Thread) (children : List Thread) → IsChecked c → p < length c.processes
    → IsFamilyOf c now past p main children
    → future_shares (recount c now past) (clock_at c now) p j ≡ sum_by (future_of c now j past) (family c p past)
futures-same c now j past p main children checked here is =
    let w = clock_at c now in
    let f = child_future (periods_of c) (main_level c p) w j in
    let first = main-future c now j past p main children checked here is in
    let rest = ap (λ ys. sum_by f (map (counted_loan c) ys)) (family-stands c now past p main children is) ∙ children-future c now j past p children checked is.each in
    let whole : sum_by (future_of c now j past) (family c p past) ≡ future_of c now j past main + sum_by (future_of c now j past) children =
    ap (sum_by (future_of c now j past)) is.rows ∙ sum_by-cons (future_of c now j past) main children in
    ap (λ o. option_map_or (λ (x : Lender). main_future w j x + sum_by (child_future (periods_of c) x.level w j) x.loans.items) o 0) (row-of c now past p here)
    ∙ omega (arith, first, rest, whole)

-- the loan of a serial
find-loan : (c : Configuration) (now : ℕ) (ys : List Thread) (y : Thread) → Has ys y
    → ((z : Thread) → Has ys z → z.id.serial ≡ y.id.serial → z ≡ y)
    → find (λ (l : Loan). l.serial == y.id.serial) (map (counted_loan c) (filter (stands-at c now) ys)) ≡ (if stands-at c now y then Some (counted_loan c y) else None)
find-loan c now [] y h distinct = absurd h
find-loan c now (z ∷ ys) y h distinct =
    elim (cases_Bool (z.id.serial == y.id.serial)) [
      | inl same ↦
          let it : z ≡ y = distinct z (inl refl) (grind (arith, nat_tests)) in
          subst (λ w. find (λ (l : Loan). l.serial == y.id.serial) (map (counted_loan c) (if stands-at c now w then w ∷ filter (stands-at c now) ys else filter (stands-at c now) ys))
          ≡ (if stands-at c now y then Some (counted_loan c y) else None)) (sym it)
          (here (stands-at c now y) refl)
      | inr other ↦
          let later : Has ys y = elim h [
            | inl is ↦ absurd (let e : z.id.serial ≡ y.id.serial = ap (λ w. w.id.serial) is in let wrong : (z.id.serial == y.id.serial) ≡ true = grind (arith, nat_tests) in cc)
            | inr there ↦ there
          ] in
          skip (stands-at c now z) other ∙ find-loan c now ys y later (λ w there. distinct w (inr there))
    ]
  where
    skip : (b : Bool) → (z.id.serial == y.id.serial) ≡ false
        → find (λ (l : Loan). l.serial == y.id.serial) (map (counted_loan c) (if b then z ∷ filter (stands-at c now) ys else filter (stands-at c now) ys))
        ≡ find (λ (l : Loan). l.serial == y.id.serial) (map (counted_loan c) (filter (stands-at c now) ys))
    skip true other = ap (λ b. if b then Some (counted_loan c z) else find (λ (l : Loan). l.serial == y.id.serial) (map (counted_loan c) (filter (stands-at c now) ys))) other
    skip false other = refl

    not-there : (zs : List Thread) → ((z : Thread) → Has zs z → z.id.serial ≡ y.id.serial → z ≡ y) → stands-at c now y ≡ false
        → find (λ (l : Loan). l.serial == y.id.serial) (map (counted_loan c) (filter (stands-at c now) zs)) ≡ None
    not-there [] only gone = refl
    not-there (z ∷ zs) only gone =
        elim (cases_Bool (stands-at c now z)) [
          | inr passed ↦
              ap (λ b. find (λ (l : Loan). l.serial == y.id.serial) (map (counted_loan c) (if b then z ∷ filter (stands-at c now) zs else filter (stands-at c now) zs))) passed
              ∙ not-there zs (λ w h. only w (inr h)) gone
          | inl stands ↦
              elim (cases_Bool (z.id.serial == y.id.serial)) [
                | inl same ↦ absurd (let it : z ≡ y = only z (inl refl) (grind (arith, nat_tests)) in
                    let wrong : true ≡ false = sym stands ∙ ap (stands-at c now) it ∙ gone in cc)
                | inr other ↦
                    ap (λ b. find (λ (l : Loan). l.serial == y.id.serial) (map (counted_loan c) (if b then z ∷ filter (stands-at c now) zs else filter (stands-at c now) zs))) stands
                    ∙ ap (λ b. if b then Some (counted_loan c z) else find (λ (l : Loan). l.serial == y.id.serial) (map (counted_loan c) (filter (stands-at c now) zs))) other
                    ∙ not-there zs (λ w h. only w (inr h)) gone
              ]
        ]

    here : (b : Bool) → stands-at c now y ≡ b
        → find (λ (l : Loan). l.serial == y.id.serial) (map (counted_loan c) (if b then y ∷ filter (stands-at c now) ys else filter (stands-at c now) ys))
        ≡ (if b then Some (counted_loan c y) else None)
    here true is = ap (λ b. if b then Some (counted_loan c y) else find (λ (l : Loan). l.serial == y.id.serial) (map (counted_loan c) (filter (stands-at c now) ys))) self
      where
        self : (y.id.serial == y.id.serial) ≡ true
        self = grind (arith, nat_tests)
    here false is = not-there ys (λ z h same. distinct z (inr h) same) is

-- at the start of a window a child's loan is in force where the child hasn't been stopped before it
force-now : (c : Configuration) (now : ℕ) (level : ℕ) (stop : Option ℕ) (begun : Bool) → 0 < period c level
    → (begun && is_before (option_map_or (λ t. Some (window_end c level t)) stop None) (window_start c level now))
    ≡ (begun && not (option_map_or (λ t. nat_lt t (window_start c level now)) stop false))
force-now c now level None begun positive = refl
force-now c now level (Some t) begun positive =
    let s = window_start c level now in
    let up = window_end-above c level t positive in
    let P = period c level in
    elim (cases_lt t s) [
      | inr later ↦
          let one : nat_lt s (window_end c level t) ≡ true = grind (arith, nat_tests) in
          let two : nat_lt t s ≡ false = grind (arith, nat_tests) in
          ap (λ b. begun && b) one ∙ sym (ap (λ b. begun && not b) two)
      | inl before ↦
          let d : P ∣ s = starts c level now in
          let e : P ∣ window_start c level t = starts c level t in
          let low : window_start c level t ≤ t = omega arith in
          let some : 0 < s - window_start c level t = omega arith in
          let gap : P ≤ s - window_start c level t = le_of_dvd some (dvd-sub P d e) in
          let one : nat_lt s (window_end c level t) ≡ false = (let by : window_end c level t ≤ s = omega arith in grind (arith, nat_tests, by)) in
          let two : nat_lt t s ≡ true = grind (arith, nat_tests) in
          ap (λ b. begun && b) one ∙ sym (ap (λ b. begun && not b) two)
    ]
  where
    starts : (c : Configuration) (level n : ℕ) → period c level ∣ window_start c level n
    starts c level n =
        let e : period c level * (n / period c level) ≡ n - n % period c level = omega (arith, div-add-mod n (period c level)) in
        subst (λ k. period c level ∣ k) e (dvd-mul_right (period c level) (n / period c level))

child-now : (c : Configuration) (now : ℕ) (past : List Entry) (p : ℕ) (y : Thread) → IsChildOf c now p y → 0 < period c y.level → is_void y ≡ false
    → child_share (periods_of c) (main_level c p) (counted_loan c y) (start_at (clock_at c now) y.level) ≡ share c past y (window_start c y.level now)
child-now c now past p y is positive open_ =
    let s = window_start c y.level now in
    ap (λ P. child_share (periods_of c) (main_level c p) (counted_loan c y) (now - now % P)) (period-same c.levels y.level)
    ∙ ap (λ q. if is_in_force s (counted_loan c y) then q else 0) (quota-same c (main_level c p) y.level y.quota)
    ∙ ap (λ b. if b then (y.quota * period c y.level) / period c (main_level c p) else 0) (force-now c now y.level y.stop (nat_le y.start s) positive)
    ∙ sym (share-open c past p s y is.child is.process open_)

pub child-same : (c : Configuration) (now : ℕ) (past : List Entry) (p : ℕ) (main : Thread) (children : List Thread) (y : Thread) → IsChecked c → p < length c.processes
    → IsFamilyOf c now past p main children → Has children y
    → present_child_share (recount c now past) (clock_at c now) p y.id.serial ≡ share c past y (window_start c y.level now)
child-same c now past p main children y checked here is h =
    let w = clock_at c now in
    let k = is.each y h in
    let positive = checked.positive y.level k.known in
    let at : Option Loan → ℕ = λ o. option_map_or (λ (l : Loan). child_share (periods_of c) (main_level c p) l (start_at w l.level)) o 0 in
    let parts = stands-parts c now y k.child in
    ap
    (λ o. option_map_or
    (λ (x : Lender). option_map_or (λ (l : Loan). child_share (periods_of c) x.level l (start_at w l.level)) (find (λ (l : Loan). l.serial == y.id.serial) x.loans.items) 0) o 0)
    (row-of c now past p here)
    ∙ ap (λ ys. at (find (λ (l : Loan). l.serial == y.id.serial) (map (counted_loan c) ys))) (family-stands c now past p main children is)
    ∙ ap at (find-loan c now children y h (λ z there same. is.distinct z y there h same))
    ∙ (elim (cases_Bool (stands-at c now y)) [
      | inl stands ↦
          ap (λ b. at (if b then Some (counted_loan c y) else None)) stands
          ∙ child-now c now past p y k positive (stands-open (is_void y) (is_ended_by c now y) (sym parts ∙ stands))
      | inr gone ↦
          ap (λ b. at (if b then Some (counted_loan c y) else None)) gone
          ∙ sym (share-gone c now past (window_start c y.level now) y k.child positive (stands-not (is_void y) (is_ended_by c now y) (sym parts ∙ gone)) (omega arith))
    ])
