-- Whose tick an entry is: names that are the same, and what its payer and its borrower say.
use Rattle.dk_trace.proofs.Names.{◌≡◌, true, false, refl, sym, ◌∙◌, option_map_or, ThreadId, Label, Entry, is_same, payer, borrower, thread_of, is_of, is_budget_of, nat_tests, arith}
use Rattle.std.proofs.Common.{Option, Some, None}
use Rattle.dk_trace.proofs.Same.{same-self}

pub label-payer : (label : Label) (x : ThreadId) → payer label ≡ Some x → thread_of label ≡ Some x
label-payer label x h = grind (arith, nat_tests)

pub label-borrower : (label : Label) (x : ThreadId) → borrower label ≡ Some x → thread_of label ≡ Some x
label-borrower label x h = grind (arith, nat_tests)

pub label-nobody : (label : Label) → payer label ≡ None → borrower label ≡ None → thread_of label ≡ None
label-nobody label p b = grind (arith, nat_tests)

-- a tick on a thread's budget is the thread's
pub budget-of : (x : ThreadId) (e : Entry) → is_budget_of x e ≡ true → is_of x e ≡ true
budget-of x e h = grind (arith, nat_tests)

pub budget-not : (x : ThreadId) (e : Entry) → is_of x e ≡ false → is_budget_of x e ≡ false
budget-not x e other = grind (arith, nat_tests)

same-some : (x : ThreadId) (o : Option ThreadId) → option_map_or (is_same x) o false ≡ true → o ≡ Some x
same-some x o h = grind (arith, nat_tests)

pub of-thread : (x : ThreadId) (e : Entry) → is_of x e ≡ true → thread_of e.label ≡ Some x
of-thread x e h = same-some x (thread_of e.label) h

pub thread-of : (x : ThreadId) (e : Entry) → thread_of e.label ≡ Some x → is_of x e ≡ true
thread-of x e is = rw (is, same-self x) refl

-- the entry is of nobody but its payer
pub of-payer : (x y : ThreadId) (e : Entry) → payer e.label ≡ Some y → is_of x e ≡ true → x ≡ y
of-payer x y e pays mine = let same : Some x ≡ Some y = sym (of-thread x e mine) ∙ label-payer e.label y pays in cc

-- and nobody but its borrower
pub of-borrower : (x y : ThreadId) (e : Entry) → borrower e.label ≡ Some y → is_of x e ≡ true → x ≡ y
of-borrower x y e borrows mine = let same : Some x ≡ Some y = sym (of-thread x e mine) ∙ label-borrower e.label y borrows in cc

pub of-nobody : (x : ThreadId) (e : Entry) → payer e.label ≡ None → borrower e.label ≡ None → is_of x e ≡ true → ⊥
of-nobody x e pays borrows mine = let none : Some x ≡ None = sym (of-thread x e mine) ∙ label-nobody e.label pays borrows in absurd (cc)

pub payer-of : (x : ThreadId) (e : Entry) → payer e.label ≡ Some x → is_of x e ≡ true
payer-of x e pays = rw (label-payer e.label x pays, same-self x) refl

pub payer-budget_of : (x : ThreadId) (e : Entry) → payer e.label ≡ Some x → is_budget_of x e ≡ true
payer-budget_of x e pays = rw (pays, same-self x) refl

pub payer-none : (x : ThreadId) (e : Entry) → payer e.label ≡ None → is_budget_of x e ≡ false
payer-none x e pays = rw pays refl
