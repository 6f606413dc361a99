-- What the recount of a past says: why a call is refused, and what a tick changes.
use Rattle.dk_budget.proofs.Names.{◌≡◌, ◌∙◌, ◌<◌, ◌+◌, ◌-◌, ◌*◌, ◌/◌, ℕ, Bool, true, List, [], ◌∷◌, length, map, Option, Some, None, ap, sym, arith, refl, slice_get, nat_lt, nat_le, ◌&&◌, not, filter, sum_by, if◌then◌else◌, option_map_or, range_with_len, nat_tests, slice_get-get_or, length-map, length-map-range_with_len, get_or-map-range_with_len, sum_by-cons, Configuration, period, main_level, max_level, slots, budget, periods_of, Entry, Refusal, Thread, is_main, is_void, is_ended_by, first_refusal, standing_children, create_refusal, least_share, Loan, Lender, lent, not_ended_at, period_in, lend_reasons, lend_refusal, given_back, all_given_back, counted_loan, counted_lender, recount}
use Rattle.std.specs.Prelude.{◌||◌}
use Rattle.dk_budget.proofs.Starting.{period-same}

-- the row of a process that there is
pub row-of : (c : Configuration) (now : ℕ) (past : List Entry) (p : ℕ) → p < length c.processes
    → slice_get (map (counted_lender c now past) (range_with_len 0 (length c.processes))) p ≡ Some (counted_lender c now past p)
row-of c now past p known =
    let n = length c.processes in
    let f : ℕ → Lender = counted_lender c now past in
    let size : length (map (counted_lender c now past) (range_with_len 0 (length c.processes))) ≡ length c.processes = length-map-range_with_len f 0 n in
    let below : p < length (map (counted_lender c now past) (range_with_len 0 (length c.processes))) = omega arith in
    slice_get-get_or (map f (range_with_len 0 n)) p (f p) below ∙ ap Some (get_or-map-range_with_len f 0 n p p (f p) known (omega arith))

lent-counted : (c : Configuration) (ys : List Thread) → lent (map (counted_loan c) ys) ≡ sum_by (λ (y : Thread). y.quota) ys
lent-counted c [] = refl
lent-counted c (y ∷ ys) =
    let one = sum_by-cons (λ (l : Loan). l.quota) (counted_loan c y) (map (counted_loan c) ys) in
    let other = sum_by-cons (λ (t : Thread). t.quota) y ys in
    let rest = lent-counted c ys in
    omega (arith, one, other, rest)

-- the reasons from the second on, by the numbers that they ask for
abbrev later-reasons : (c : Configuration) → ℕ → ℕ → ℕ → ℕ → ℕ → ℕ → ℕ → ℕ → ℕ → Option Refusal
later-reasons c p level quota entry instructions count out long short =
    first_refusal
    ((nat_lt level (main_level c p) || nat_lt (max_level c p) level, Refusal.Level)
    ∷ (nat_le instructions entry, Refusal.Entry)
    ∷ (nat_le (slots c p) count, Refusal.Slots)
    ∷ (nat_lt ((quota * long) / short) (least_share c), Refusal.TooSmall)
    ∷ (nat_lt (budget c p) (out + quota + least_share c), Refusal.Budget)
    ∷ [])

first-passed : (is : Bool) (reason : Refusal) (rest : Option Refusal) → is ≡ true → (if not is then Some reason else rest) ≡ rest
first-passed is reason rest h = grind (arith, nat_tests)

pub refusal-same : (c : Configuration) (now : ℕ) (past : List Entry) (x : Thread) (level quota entry instructions : ℕ)
    → x.id.process < length c.processes → is_main x ≡ true
    → lend_refusal (recount c now past) x.id.process level quota entry instructions ≡ create_refusal c now past x level quota entry instructions
refusal-same c now past x level quota entry instructions known main =
    let p = x.id.process in
    let children = standing_children c now past p in
    let reasons : ℕ → ℕ → ℕ → ℕ → Option Refusal = later-reasons c p level quota entry instructions in
    ap
    (λ o. option_map_or (λ (y : Lender). first_refusal (lend_reasons c.costs.switch (periods_of c) y level quota entry instructions)) o None)
    (row-of c now past p known)
    ∙ ap (λ k. reasons k (lent (map (counted_loan c) children)) (period_in (periods_of c) level) (period_in (periods_of c) (main_level c p)))
    (length-map children (counted_loan c))
    ∙ ap (λ k. reasons (length children) k (period_in (periods_of c) level) (period_in (periods_of c) (main_level c p))) (lent-counted c children)
    ∙ ap (λ k. reasons (length children) (sum_by (λ (y : Thread). y.quota) children) k (period_in (periods_of c) (main_level c p)))
    (period-same c.levels level)
    ∙ ap (λ k. reasons (length children) (sum_by (λ (y : Thread). y.quota) children) (period c level) k) (period-same c.levels (main_level c p))
    ∙ sym
    (first-passed (is_main x) Refusal.NotMain
    (reasons (length children) (sum_by (λ (y : Thread). y.quota) children) (period c level) (period c (main_level c p))) main)

-- whether a child is neither void nor ended
abbrev stands-at : Configuration → ℕ → Thread → Bool
stands-at c now y = not (is_main y) && not (is_void y) && not (is_ended_by c now y)

loans-next : (c : Configuration) (now : ℕ) (ys : List Thread)
    → not_ended_at (now + 1) (map (counted_loan c) (filter (stands-at c now) ys)) ≡ map (counted_loan c) (filter (stands-at c (now + 1)) ys)
loans-next c now [] = refl
loans-next c now (y ∷ ys) = grind (arith, nat_tests, loans-next c now ys)

lenders-next : (c : Configuration) (now : ℕ) (past : List Entry) (ps : List ℕ)
    → map (given_back (now + 1)) (map (counted_lender c now past) ps) ≡ map (counted_lender c (now + 1) past) ps
lenders-next c now past [] = refl
lenders-next c now past (p ∷ ps) = grind (arith, nat_tests, loans-next, lenders-next c now past ps)

pub next-recount : (c : Configuration) (now : ℕ) (past : List Entry) → all_given_back (now + 1) (recount c now past) ≡ recount c (now + 1) past
next-recount c now past = grind (arith, nat_tests, lenders-next)
