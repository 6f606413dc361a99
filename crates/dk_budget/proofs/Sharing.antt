-- The shares of the recount are those of the past.
use Rattle.dk_budget.proofs.Names.{◌≡◌, ◌∙◌, ◌<◌, ◌≤◌, ◌+◌, ◌-◌, ◌*◌, ◌/◌, ◌%◌, ℕ, Bool, true, false, List, [], ◌∷◌, length, map, cond, Option, Some, None, ap, sym, subst, arith, refl, inl, inr, nat_lt, nat_le, ◌&&◌, not, filter, find, if◌then◌else◌, option_map_or, ◌∣◌, nat_tests, sum_by-cons, dvd_trans, dvd-add, dvd_refl, mul-div_cancel', div-add-mod, div-add-mod', dvd-mul_right, le-div_iff_mul-le, Configuration, IsChecked, period, main_level, budget, window_start, window_end, clock_at, start_at, Entry, Has, Thread, family, is_main, is_void, is_ended_by, end_of, is_lent_at, share, Loan, Lender, is_in_force, lent_at, main_share, present_main_share, counted_loan, counted_lender, recount, HasSlowerChildren}
use Rattle.dk_trace.specs.Threads as trace
use Rattle.dk_budget.proofs.Starting.{period-same}
use Rattle.dk_budget.proofs.Recounts.{row-of}

-- whether a child is neither void nor ended
abbrev pub stands-at : Configuration → ℕ → Thread → Bool
stands-at c now y = not (is_main y) && not (is_void y) && not (is_ended_by c now y)

before-end : (s : ℕ) (end : Option ℕ) → not (option_map_or (λ t. nat_le t s) end false) ≡ option_map_or (λ t. nat_lt s t) end true
before-end s end = grind (arith, nat_tests)

-- what one child takes of its main's share, by the table and by the past
one-out : (q : ℕ) (main void begun over gone : Bool) (left : Bool) → not gone ≡ left → (over ≡ true → gone ≡ true)
    → (if not main && not void && not over then (if begun && left then q else 0) else 0) ≡ (if not main && not void && begun && not gone then q else 0)
one-out q main void begun over gone left is late = grind (arith, nat_tests)

-- a standing child's part of the sum over the table
part : (c : Configuration) (s : ℕ) (y : Thread) (z : Bool) (ys : List Thread)
    → lent_at s (map (counted_loan c) (cond z (y ∷ ys) ys))
    ≡ (if z then (if is_in_force s (counted_loan c y) then y.quota else 0) else 0) + lent_at s (map (counted_loan c) ys)
part c s y true ys = sum_by-cons (λ (l : Loan). if is_in_force s l then l.quota else 0) (counted_loan c y) (map (counted_loan c) ys)
part c s y false ys = omega arith

pub lent-same : (c : Configuration) (now s : ℕ) (ys : List Thread)
    → ((y : Thread) → Has ys y → is_ended_by c now y ≡ true → is_ended_by c s y ≡ true)
    → lent_at s (map (counted_loan c) (filter (stands-at c now) ys)) ≡ trace.lent_at c s ys
lent-same c now s [] late = refl
lent-same c now s (y ∷ ys) late =
    let rest = lent-same c now s ys (λ x has. late x (inr has)) in
    let here = one-out y.quota (is_main y) (is_void y) (nat_le y.start s) (is_ended_by c now y) (is_ended_by c s y)
    (option_map_or (λ t. nat_lt s t) (end_of c y) true) (before-end s (end_of c y)) (late y (inl refl)) in
    let split = part c s y (stands-at c now y) (filter (stands-at c now) ys) in
    let other = sum_by-cons (λ (x : Thread). if is_lent_at c s x then x.quota else 0) y ys in
    split ∙ ap (λ n. n + lent_at s (map (counted_loan c) (filter (stands-at c now) ys))) here ∙ ap (λ n. (if is_lent_at c s y then y.quota else 0) + n) rest ∙ sym other

-- a multiple of P that is not after tick n is not after the start of the window that n lies in
pub not-after : (P e n : ℕ) → 0 < P → P ∣ e → e ≤ n → e ≤ n - n % P
not-after P e n positive d le =
    let whole : P * (e / P) ≡ e = mul-div_cancel' P d in
    let times : (e / P) * P ≤ n = omega arith in
    let few : e / P ≤ n / P = (le-div_iff_mul-le positive).1 times in
    let up = mul-le P (e / P) (n / P) few in
    let rest = div-add-mod' n P in
    omega (arith, up, rest, whole)
  where
    mul-le : (P a b : ℕ) → a ≤ b → P * a ≤ b * P
    mul-le P a b le = grind arith

pub dvd-end : (P n : ℕ) → P ∣ (n - n % P) + P
dvd-end P n =
    let e : P * (n / P) ≡ n - n % P = omega (arith, div-add-mod n P) in
    dvd-add P (subst (λ k. P ∣ k) e (dvd-mul_right P (n / P))) (dvd_refl P)

-- a child of a slower level that ended by now ended before the present window of its main
ended-late : (c : Configuration) (now fast slow : ℕ) (stop : Option ℕ) → 0 < period c fast → period c fast ∣ period c slow
    → option_map_or (λ t. nat_le t now) (option_map_or (λ n. Some (window_end c slow n)) stop None) false ≡ true
    → option_map_or (λ t. nat_le t (window_start c fast now)) (option_map_or (λ n. Some (window_end c slow n)) stop None) false ≡ true
ended-late c now fast slow None positive d over = absurd (cc)
ended-late c now fast slow (Some n) positive d over =
    let e : period c fast ∣ window_end c slow n = dvd_trans (period c fast) d (dvd-end (period c slow) n) in
    let le : window_end c slow n ≤ now = grind (arith, nat_tests) in
    let gone : window_end c slow n ≤ window_start c fast now = not-after (period c fast) (window_end c slow n) now positive e le in
    grind (arith, nat_tests)

-- a main's share of the present window
pub main-same : (c : Configuration) (now : ℕ) (past : List Entry) (x : Thread) → IsChecked c → x.id.process < length c.processes
    → is_main x ≡ true → find is_main (family c x.id.process past) ≡ Some x → HasSlowerChildren c past x.id.process
    → present_main_share (recount c now past) (clock_at c now) x.id.process ≡ share c past x (window_start c (main_level c x.id.process) now)
main-same c now past x checked known main is slower =
    let p = x.id.process in
    let m = main_level c p in
    let s = window_start c (main_level c x.id.process) now in
    let ys = family c p past in
    let inside : main_level c x.id.process < length c.levels = checked.levels p known in
    let loans = map (counted_loan c) (filter (stands-at c now) ys) in
    let share_by : Option ℕ → ℕ → ℕ = λ stop out. if option_map_or (λ t. nat_lt t s) stop false then 0 else budget c p - out in
    ap (λ o. option_map_or (λ (r : Lender). main_share r (start_at (clock_at c now) r.level)) o 0) (row-of c now past p known)
    ∙ ap (λ (n : ℕ). main_share (counted_lender c now past p) (now - now % n)) (period-same c.levels m)
    ∙ ap (λ o. share_by (option_map_or (λ (y : Thread). y.stop) o None) (lent_at s loans)) is
    ∙ ap (share_by x.stop)
    (lent-same c now s ys
    (λ y has. ended-late c now m y.level y.stop (checked.positive m inside) (checked.divides m y.level (slower y has).0 (slower y has).1)))
    ∙ sym (ap (λ b. if b then trace.main_share c past x s else trace.child_share c x s) main)
