-- What is known of a loan that is found, and how much a quota is in the child's windows.
use Rattle.dk_budget.proofs.Names.{◌≡◌, ◌<◌, ◌≤◌, ◌+◌, ◌*◌, ◌/◌, ℕ, Bool, true, false, List, [], ◌∷◌, length, get_or, Option, Some, cond, subst, ap, arith, All, find, slice_get, option_map_or, slice_get-get_or, All-head, All-tail, sum_by-cons, MAX_SPAN, Clock, start_at, Loan, Lender, lent, Book, period_in, ArePeriods, IsSoundLender, child_share, of_lender, quota_at, present_child_share, nat_tests}
use Rattle.std.proofs.Common.{◌==◌}

All-find : (P : Loan → Type 0) (test : Loan → Bool) (ls : List Loan) (l : Loan) → All P ls → find test ls ≡ Some l → P l
All-find P test [] l all is = absurd (cc)
All-find P test (x ∷ xs) l all is =
    first (test x) x (find test xs) (All-head P x xs all) (All-find P test xs l (All-tail P x xs all)) is
  where
    first : (b : Bool) (x : Loan) (rest : Option Loan) → P x → (rest ≡ Some l → P l) → cond b (Some x) rest ≡ Some l → P l
    first true x rest here later is = let same : x ≡ l = cc in subst P same here
    first false x rest here later is = later is

quota-find : (test : Loan → Bool) (ls : List Loan) (l : Loan) → find test ls ≡ Some l → l.quota ≤ lent ls
quota-find test [] l is = absurd (cc)
quota-find test (x ∷ xs) l is =
    let more = sum_by-cons (λ (y : Loan). y.quota) x xs in
    let le = first (test x) x (find test xs) (lent xs) (quota-find test xs l) is in
    omega (arith, more, le)
  where
    first : (b : Bool) (x : Loan) (rest : Option Loan) (n : ℕ) → (rest ≡ Some l → l.quota ≤ n) → cond b (Some x) rest ≡ Some l → l.quota ≤ x.quota + n
    first true x rest n later is = let same : x.quota ≡ l.quota = ap (λ (y : Loan). y.quota) (the x is) in omega arith
      where
        the : (x : Loan) → Some x ≡ Some l → x ≡ l
        the x is = cc
    first false x rest n later is = let le = later is in omega (arith, le)

-- a loan that is found
pub record IsLoanOf (periods : List ℕ) (x : Lender) (l : Loan) : Type 0 where
  pub level : l.level < length periods
  pub short : l.quota ≤ period_in periods x.level

pub found-loan : (periods : List ℕ) (x : Lender) (test : Loan → Bool) (l : Loan) → IsSoundLender periods x → find test x.loans.items ≡ Some l
    → IsLoanOf periods x l
found-loan periods x test l s is = record {
  level = All-find (λ y. y.level < length periods) test x.loans.items l s.levels is;
  short = omega (arith, quota-find test x.loans.items l is, s.covered, s.short);
}

-- a child's share is no longer than its window
quota-few : (q main child : ℕ) → 0 < main → q ≤ main → child ≤ MAX_SPAN → (q * child) / main ≤ MAX_SPAN
quota-few q main child positive few short = grind (arith, nat_tests)

pub period-at : (periods : List ℕ) (i : ℕ) → i < length periods → period_in periods i ≡ get_or periods i 0
period-at periods i below = ap (λ o. option_map_or (λ (n : ℕ). n) o 0) (slice_get-get_or periods i 0 below)

-- the period that was read
pub read-period : (periods list : List ℕ) (i period : ℕ) → list ≡ periods → i < length periods → period ≡ get_or list i period → period ≡ period_in periods i
read-period periods list i period same below is = grind (arith, nat_tests, slice_get-get_or)

pub period-positive : (periods : List ℕ) (i : ℕ) → ArePeriods periods → i < length periods → 0 < period_in periods i
period-positive periods i are below = let at = period-at periods i below in let some = are.positive i 0 below in omega (arith, at, some)

pub period-short : (periods : List ℕ) (i : ℕ) → ArePeriods periods → i < length periods → period_in periods i ≤ MAX_SPAN
period-short periods i are below = let at = period-at periods i below in let few = are.short i 0 below in omega (arith, at, few)

pub share-few : (periods : List ℕ) (main level quota : ℕ) → ArePeriods periods → main < length periods → level < length periods
    → quota ≤ period_in periods main → quota_at periods main level quota ≤ MAX_SPAN
share-few periods main level quota are known low few = grind (arith, nat_tests, quota-few, period-positive, period-short)

-- a number of a process that there is
pub of-row : (f : Lender → ℕ) (b : Book) (p : ℕ) (row : Lender) → slice_get b.lenders p ≡ Some row → of_lender f b p ≡ f row
of-row f b p row is = ap (λ (o : Option Lender). option_map_or f o 0) is

-- of a process that there is, by what is found among its loans
pub present-child : (b old : Book) (w : Clock) (p serial : ℕ) (row : Lender) (o : Option Loan) → b ≡ old → slice_get b.lenders p ≡ Some row
    → find (λ (l : Loan). l.serial == serial) row.loans.items ≡ o
    → present_child_share old w p serial ≡ option_map_or (λ (l : Loan). child_share b.periods row.level l (start_at w l.level)) o 0
present-child b old w p serial row o viewed is found = grind (arith, nat_tests)
