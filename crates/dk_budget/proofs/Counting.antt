-- At how many window starts a loan is in force, and what the shares there add up to.
use Rattle.dk_budget.proofs.Names.{◌≡◌, ◌∙◌, ◌≤◌, ◌+◌, ◌-◌, ◌*◌, ℕ, Bool, true, false, List, [], ◌∷◌, Option, Some, arith, refl, nat_lt, nat_le, ◌&&◌, if◌then◌else◌, sum_by, option_map_or, nat_tests, sum_by-cons, sum_every-each, sum_every-add, sum_every-rows, Clock, end_at, period_at, Loan, Lender, Starts, after_stop, is_before, is_in_force, lent, lent_at, sum_over, sum_starts, windows_left, main_share}
use Rattle.dk_budget.proofs.Progressions.{sum_every-times, sum_every-const}

-- one for each start that the loan is in force at
abbrev pub times_in_force : Starts → Loan → ℕ
times_in_force x l = sum_over x (λ s. if is_in_force s l then 1 else 0)

-- the starts that a tick cuts off
abbrev Cuts : Starts → Option ℕ → Starts → Type 0
Cuts x tick y = (f : ℕ → ℕ) → sum_over y f ≡ sum_over x (λ s. if is_before tick s then f s else 0)

both : (n : ℕ) (a b : Bool) → (if b then (if a then n else 0) else 0) ≡ (if a && b then n else 0)
both n a b = grind (arith, nat_tests)

either : (s start : ℕ) → 1 ≡ (if nat_le start s then 1 else 0) + (if nat_lt s start then 1 else 0)
either s start = grind (arith, nat_tests)

pub running-count : (all running early : Starts) (l : Loan) → Cuts all l.end running → Cuts running (Some l.start) early
    → running.count - early.count ≡ times_in_force all l
running-count all running early l ends starts =
    let begun : ℕ → ℕ = λ s. if nat_le l.start s then 1 else 0 in
    let ahead : ℕ → ℕ = λ s. if nat_lt s l.start then 1 else 0 in
    let whole : sum_over running (λ s. 1) ≡ running.count * 1 = sum_every-const running.period running.first running.count 1 in
    let part : sum_over early (λ s. 1) ≡ early.count * 1 = sum_every-const early.period early.first early.count 1 in
    let cut : sum_over early (λ s. 1) ≡ sum_over running ahead = starts (λ s. 1) in
    let split : sum_over running (λ s. 1) ≡ sum_over running begun + sum_over running ahead =
    sum_every-each running.period running.first running.count (λ s. 1) (λ s. begun s + ahead s) (λ s. either s l.start)
    ∙ sum_every-add running.period running.first running.count begun ahead in
    let there : sum_over running begun ≡ times_in_force all l =
    ends begun
    ∙ sum_every-each all.period all.first all.count (λ s. if is_before l.end s then begun s else 0) (λ s. if is_in_force s l then 1 else 0)
    (λ s. both 1 (nat_le l.start s) (is_before l.end s)) in
    omega arith

weighed : (q : ℕ) (b : Bool) → (if b then q else 0) ≡ q * (if b then 1 else 0)
weighed q b = grind (arith, nat_tests)

-- the same amount at each start that the loan is in force at
pub amount-times : (x : Starts) (q : ℕ) (l : Loan) → sum_over x (λ s. if is_in_force s l then q else 0) ≡ q * times_in_force x l
amount-times x q l =
    sum_every-each x.period x.first x.count (λ s. if is_in_force s l then q else 0) (λ s. q * (if is_in_force s l then 1 else 0))
    (λ s. weighed q (is_in_force s l))
    ∙ sum_every-times x.period x.first x.count q (λ s. if is_in_force s l then 1 else 0)

sum_by-each : (f g : Loan → ℕ) → ((l : Loan) → f l ≡ g l) → (ls : List Loan) → sum_by f ls ≡ sum_by g ls
sum_by-each f g same [] = refl
sum_by-each f g same (l ∷ ls) = grind (arith, nat_tests, sum_by-each f g same ls)

-- all that is lent at the starts
pub lent-over : (x : Starts) (ls : List Loan) → sum_over x (λ s. lent_at s ls) ≡ sum_by (λ (l : Loan). l.quota * times_in_force x l) ls
lent-over x ls =
    sum_every-rows x.period x.first x.count (λ s (l : Loan). if is_in_force s l then l.quota else 0) ls
    ∙ sum_by-each (λ (l : Loan). sum_over x (λ s. if is_in_force s l then l.quota else 0)) (λ (l : Loan). l.quota * times_in_force x l)
    (λ l. amount-times x l.quota l) ls

lent_at-le : (s : ℕ) (ls : List Loan) → lent_at s ls ≤ lent ls
lent_at-le s [] = omega arith
lent_at-le s (l ∷ ls) =
    let one = sum_by-cons (λ (y : Loan). if is_in_force s y then y.quota else 0) l ls in
    let all = sum_by-cons (λ (y : Loan). y.quota) l ls in
    let here = at-most (is_in_force s l) l.quota in
    let rest = lent_at-le s ls in
    omega (arith, one, all, here, rest)
  where
    at-most : (b : Bool) (q : ℕ) → (if b then q else 0) ≤ q
    at-most true q = omega arith
    at-most false q = omega arith

-- a main has its share up to its stop
up-to-stop : (stop : Option ℕ) (s n : ℕ)
    → (if is_before (after_stop stop) s then n else 0) ≡ (if option_map_or (λ t. nat_lt t s) stop false then 0 else n)
up-to-stop stop s n = grind (arith, nat_tests)

-- the main's shares: its budget at each start up to its stop, less what is lent there
pub main-over : (x : Lender) (all until : Starts) → Cuts all (after_stop x.stop) until → lent x.loans.items ≤ x.budget
    → sum_over all (main_share x) + sum_over until (λ s. lent_at s x.loans.items) ≡ x.budget * until.count
main-over x all until cut covered =
    let left : ℕ → ℕ = λ s. x.budget - lent_at s x.loans.items in
    let out : ℕ → ℕ = λ s. lent_at s x.loans.items in
    let shares : sum_over until left ≡ sum_over all (main_share x) =
    cut left
    ∙ sum_every-each all.period all.first all.count (λ s. if is_before (after_stop x.stop) s then left s else 0) (main_share x)
    (λ s. up-to-stop x.stop s (left s)) in
    let whole : sum_over until (λ s. x.budget) ≡ until.count * x.budget = sum_every-const until.period until.first until.count x.budget in
    let split : sum_over until (λ s. x.budget) ≡ sum_over until left + sum_over until out =
    sum_every-each until.period until.first until.count (λ s. x.budget) (λ s. left s + out s)
    (λ s. let le = lent_at-le s x.loans.items in omega (arith, le, covered))
    ∙ sum_every-add until.period until.first until.count left out in
    omega arith

-- the starts to come, by the numbers that the code has of them
pub over-starts : (x : Starts) (w : Clock) (i j : ℕ) (f : ℕ → ℕ) → x.first ≡ end_at w i → x.period ≡ period_at w i → x.count ≡ windows_left w i j
    → sum_over x f ≡ sum_starts w i j f
over-starts x w i j f first period count = grind (arith, nat_tests)
