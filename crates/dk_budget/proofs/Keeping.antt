-- What a stop and a giving back keep of the loans, and what a change of one row keeps of the table.
use Rattle.dk_budget.proofs.Names.{◌≡◌, ◌<◌, ◌≤◌, ◌+◌, ℕ, suc, Bool, true, false, List, [], ◌∷◌, ◌∙◌, length, get_or, set, Option, Some, None, arith, cond, refl, subst, sym, ap, length-append, map, eqb, zero, All, slice_get, is_some, if◌then◌else◌, nat_lt, ◌==◌, not, slice_set, filter_map, cons_option, refill, range_with_len, option_map_or, slice_get-get_or, get_or_from_slice_get, slice_get_within, length-map, All-nil, All-head, All-tail, All-set, All-map, All-push, All-weaker, All-filter, sum_by-cons, length-filter, count_by-le-length, sum_by_push, length-set, nat_tests, Configuration, Clock, end_at, Loan, Lender, lent, stopped, stopped_one, Book, IsSound, IsSoundLender, first_refusal, Entry, Label, quiet, family-charged, lend_reasons, lend_refusal, changed_row, changed_at, stopped_child, stopped_process, given_back, lent_to, all_given_back, recount, counted_lender}
use Rattle.std.specs.List.{filter}
use Rattle.dk_budget.proofs.Giving.{put-row}

-- what is left of a loan has its quota and its level
abbrev Keeps : (Loan → Option Loan) → Type 0
Keeps h = (l y : Loan) → h l ≡ Some y → (y.quota ≡ l.quota) × (y.level ≡ l.level)

length-more : (o : Option Loan) (ys : List Loan) (n : ℕ) → length ys ≤ n → length (cons_option o ys) ≤ suc n
length-more o ys n few = grind (arith, nat_tests)

length-kept : (h : Loan → Option Loan) (ls : List Loan) → length (filter_map h ls) ≤ length ls
length-kept h [] = omega arith
length-kept h (l ∷ ls) = length-more (h l) (filter_map h ls) (length ls) (length-kept h ls)

lent-more : (o : Option Loan) (q n : ℕ) (ys : List Loan) → ((y : Loan) → o ≡ Some y → y.quota ≡ q) → lent ys ≤ n → lent (cons_option o ys) ≤ q + n
lent-more None q n ys is few = omega arith
lent-more (Some y) q n ys is few = let same = is y refl in let more = sum_by-cons (λ (l : Loan). l.quota) y ys in omega (arith, same, more)

lent-kept : (h : Loan → Option Loan) → Keeps h → (ls : List Loan) → lent (filter_map h ls) ≤ lent ls
lent-kept h keeps [] = omega arith
lent-kept h keeps (l ∷ ls) =
    let rest = lent-more (h l) l.quota (lent ls) (filter_map h ls) (λ y is. (keeps l y is).0) (lent-kept h keeps ls) in
    let more = sum_by-cons (λ (x : Loan). x.quota) l ls in
    omega (arith, rest, more)

levels-more : (n : ℕ) (o : Option Loan) (ys : List Loan) → ((y : Loan) → o ≡ Some y → y.level < n) → All (λ (l : Loan). l.level < n) ys
    → All (λ (l : Loan). l.level < n) (cons_option o ys)
levels-more n o ys is rest = grind (arith, nat_tests)

levels-kept : (n : ℕ) (h : Loan → Option Loan) → Keeps h → (ls : List Loan) → All (λ (l : Loan). l.level < n) ls
    → All (λ (l : Loan). l.level < n) (filter_map h ls)
levels-kept n h keeps [] low = All-nil (λ (l : Loan). l.level < n)
levels-kept n h keeps (l ∷ ls) low =
    let here : l.level < n = All-head (λ (x : Loan). x.level < n) l ls low in
    levels-more n (h l) (filter_map h ls) (λ y is. let same = (keeps l y is).1 in omega (arith, same, here))
    (levels-kept n h keeps ls (All-tail (λ (x : Loan). x.level < n) l ls low))

stopped-keeps : (over early : Bool) (e : ℕ) (l y : Loan)
    → (if over then Some l else if early then None else Some (record l { end = Some e })) ≡ Some y → (y.quota ≡ l.quota) × (y.level ≡ l.level)
stopped-keeps over early e l y is = grind (arith, nat_tests)

Keeps-stopped : (w : Clock) → Keeps (stopped w)
Keeps-stopped w l y is = stopped-keeps (is_some l.end) (nat_lt w.tick l.start) (end_at w l.level) l y is

one-keeps : (mine : Bool) (w : Clock) (l y : Loan) → (if mine then stopped w l else Some l) ≡ Some y → (y.quota ≡ l.quota) × (y.level ≡ l.level)
one-keeps mine w l y is = grind (arith, nat_tests)

Keeps-stopped_one : (w : Clock) (serial : ℕ) → Keeps (stopped_one w serial)
Keeps-stopped_one w serial l y is = one-keeps (l.serial == serial) w l y is

lent-filter : (test : Loan → Bool) (ls : List Loan) → lent (filter test ls) ≤ lent ls
lent-filter test [] = omega arith
lent-filter test (l ∷ ls) =
    let more = sum_by-cons (λ (x : Loan). x.quota) l ls in
    let rest = pick (test l) l (filter test ls) in
    omega (arith, rest, more, lent-filter test ls)
  where
    pick : (b : Bool) (l : Loan) (ys : List Loan) → lent (cond b (l ∷ ys) ys) ≤ l.quota + lent ys
    pick true l ys = omega (arith, sum_by-cons (λ (x : Loan). x.quota) l ys)
    pick false l ys = omega arith

sound-kept : (periods : List ℕ) (h : Loan → Option Loan) (stop : Option ℕ) (x : Lender) → Keeps h → IsSoundLender periods x
    → IsSoundLender periods (record x { stop = stop; loans = record { items = filter_map h x.loans.items } })
sound-kept periods h stop x keeps s = grind (arith, nat_tests, length-kept, lent-kept, levels-kept)

pub sound-stopped_child : (periods : List ℕ) (w : Clock) (serial : ℕ) (x : Lender) → IsSoundLender periods x
    → IsSoundLender periods (stopped_child w serial x)
sound-stopped_child periods w serial x s = sound-kept periods (stopped_one w serial) x.stop x (Keeps-stopped_one w serial) s

pub sound-stopped_process : (periods : List ℕ) (w : Clock) (x : Lender) → IsSoundLender periods x
    → IsSoundLender periods (stopped_process w x)
sound-stopped_process periods w x s = sound-kept periods (stopped w) (Some w.tick) x (Keeps-stopped w) s

pub sound-given_back : (periods : List ℕ) (now : ℕ) (x : Lender) → IsSoundLender periods x → IsSoundLender periods (given_back now x)
sound-given_back periods now x s =
    let test : Loan → Bool = λ l. not (option_map_or (λ tick. tick == now) l.end false) in
    record {
      level = s.level;
      reach = s.reach;
      few = s.few;
      room = omega (arith, length-filter test x.loans.items, count_by-le-length test x.loans.items, s.room);
      short = s.short;
      covered = omega (arith, lent-filter test x.loans.items, s.covered);
      levels = All-filter test (λ (l : Loan). l.level < length periods) x.loans.items s.levels;
    }

pub sound-lent_to : (periods : List ℕ) (l : Loan) (x : Lender) → l.level < length periods → length x.loans.items < x.threads
    → lent x.loans.items + l.quota ≤ x.budget → IsSoundLender periods x → IsSoundLender periods (lent_to l x)
sound-lent_to periods l x known room covered s = record {
  level = s.level;
  reach = s.reach;
  few = s.few;
  room = grind (arith, length-append);
  short = s.short;
  covered = omega (arith, sum_by_push (λ (y : Loan). y.quota) x.loans.items l, covered);
  levels = All-push (λ (y : Loan). y.level < length periods) x.loans.items l s.levels known;
}

-- one row changed
pub sound-changed : (b : Book) (p : ℕ) (change : Lender → Lender) (d : Lender) → p < length b.lenders → IsSound b
    → IsSoundLender b.periods (change (get_or b.lenders p d)) → IsSound (changed_at p change b)
sound-changed b p change d below s row =
    let same : changed_row p change b.lenders ≡ set b.lenders p (change (get_or b.lenders p d)) =
    ap (λ o. option_map_or (λ (x : Lender). set b.lenders p (change x)) o b.lenders) (slice_get-get_or b.lenders p d below) in
    subst (λ (rows : List Lender). IsSound (record b { lenders = rows })) (sym same)
    (record {
      switch = s.switch;
      periods = s.periods;
      few = omega (arith, length-set b.lenders p (change (get_or b.lenders p d)), s.few);
      lenders = All-set (IsSoundLender b.periods) b.lenders p (change (get_or b.lenders p d)) row s.lenders;
    })

-- the rows as they are written back, where the reference has them all
written : (change : Lender → Lender) (p : ℕ) (rows seen : List Lender) (row new : Lender) → seen ≡ rows → p < length rows
    → new ≡ change (get_or seen p row) → refill (length rows) rows (set seen p new) ≡ changed_row p change rows
written change p rows seen row new same below made = grind (arith, nat_tests, put-row)

-- what a call that changes one row leaves: a sound table, which is the old one with that row changed
pub record IsWritten (b old : Book) (p : ℕ) (change : Lender → Lender) (written : List Lender) : Type 0 where
  pub sound : IsSound (record b { lenders = written })
  pub view : record b { lenders = written } ≡ changed_at p change old

pub row-written : (b old : Book) (p : ℕ) (change : Lender → Lender) (seen : List Lender) (row new : Lender) → b ≡ old → seen ≡ b.lenders
    → p < length old.lenders → new ≡ change (get_or seen p row) → IsSound b
    → (IsSoundLender b.periods (get_or b.lenders p row) → IsSoundLender b.periods (change (get_or b.lenders p row)))
    → IsWritten b old p change (refill (length b.lenders) b.lenders (set seen p new))
row-written b old p change seen row new viewed same known made s keeps = grind (arith, nat_tests, written, sound-changed)

-- the row that was read
pub read-row : (b old : Book) (p : ℕ) (seen : List Lender) (row : Lender) → b ≡ old → seen ≡ b.lenders → p < length old.lenders
    → row ≡ get_or seen p row → slice_get b.lenders p ≡ Some row
read-row b old p seen row viewed same known is = grind (arith, nat_tests, slice_get-get_or)

pub sound-row : (b : Book) (p : ℕ) (row : Lender) → slice_get b.lenders p ≡ Some row → IsSound b → IsSoundLender b.periods row
sound-row b p row is s = grind (arith, nat_tests, get_or_from_slice_get, slice_get_within)

-- what lend leaves; row is as it was read before
pub lent-written : (b old : Book) (p : ℕ) (l : Loan) (seen : List Lender) (row at new : Lender) → b ≡ old → seen ≡ b.lenders
    → slice_get b.lenders p ≡ Some row → new ≡ lent_to l (get_or seen p at) → IsSound b
    → l.level ≤ row.max_level → length row.loans.items < row.threads → lent row.loans.items + l.quota ≤ row.budget
    → IsWritten b old p (lent_to l) (refill (length b.lenders) b.lenders (set seen p new))
lent-written b old p l seen row at new viewed same is made s level room covered =
    let known : p < length old.lenders = subst (λ (k : Book). p < length k.lenders) viewed (slice_get_within b.lenders p row is) in
    let there : get_or b.lenders p at ≡ row = get_or_from_slice_get b.lenders p row at is in
    row-written b old p (lent_to l) seen at new viewed same known made s
    (λ sound. subst (λ (x : Lender). IsSoundLender b.periods (lent_to l x)) (sym there)
    (let here : IsSoundLender b.periods row = subst (IsSoundLender b.periods) there sound in
    let reach = here.reach in
    sound-lent_to b.periods l row (omega (arith, level, reach)) room covered here))

-- why a loan is refused, by the row that was read
pub refusal-of : (b old : Book) (p level quota entry instructions : ℕ) (row : Lender) → b ≡ old → slice_get b.lenders p ≡ Some row
    → lend_refusal old p level quota entry instructions ≡ first_refusal (lend_reasons b.switch b.periods row level quota entry instructions)
refusal-of b old p level quota entry instructions row viewed is = grind (arith, nat_tests)

-- all rows changed
pub sound-all_given_back : (b : Book) (now : ℕ) → IsSound b → IsSound (all_given_back now b)
sound-all_given_back b now s = record {
  switch = s.switch;
  periods = s.periods;
  few = omega (arith, length-map b.lenders (given_back now), s.few);
  lenders = All-map (IsSoundLender b.periods) (given_back now) b.lenders
      (All-weaker (IsSoundLender b.periods) (λ x. IsSoundLender b.periods (given_back now x)) (sound-given_back b.periods now) b.lenders s.lenders);
}

get-map : (f : ℕ → Lender) (low n p : ℕ) → p < n → slice_get (map f (range_with_len low n)) p ≡ Some (f (low + p))
get-map f low zero p h = absurd (omega arith)
get-map f low (suc n) zero h = ap (λ k. Some (f k)) (omega arith)
get-map f low (suc n) (suc p) h = get-map f (low + 1) n p (omega arith) ∙ ap (λ k. Some (f k)) (omega arith)

all-same : (f g : ℕ → Lender) (low n : ℕ) → ((q : ℕ) → q < n → f (low + q) ≡ g (low + q)) → map f (range_with_len low n) ≡ map g (range_with_len low n)
all-same f g low zero same = refl
all-same f g low (suc n) same =
    let here : f low ≡ g low = ap f (omega arith) ∙ same 0 (omega arith) ∙ ap g (omega arith) in
    let rest = all-same f g (low + 1) n (λ q h. ap f (omega arith) ∙ same (suc q) (omega arith) ∙ ap g (omega arith)) in
    rw (here, rest) refl

set-map : (f g : ℕ → Lender) (low n p : ℕ) (y : Lender) → p < n → y ≡ g (low + p) → ((q : ℕ) → q < n → eqb q p ≡ false → f (low + q) ≡ g (low + q))
    → slice_set (map f (range_with_len low n)) p y ≡ map g (range_with_len low n)
set-map f g low zero p y h is same = absurd (omega arith)
set-map f g low (suc n) zero y h is same =
    let here : y ≡ g low = is ∙ ap g (omega arith) in
    let rest = all-same f g (low + 1) n (λ q h. ap f (omega arith) ∙ same (suc q) (omega arith) (let o : eqb (suc q) 0 ≡ false = grind (arith, nat_tests) in o) ∙ ap g (omega arith)) in
    rw (here, rest) refl
set-map f g low (suc n) (suc p) y h is same =
    let here : f low ≡ g low = ap f (omega arith) ∙ same 0 (omega arith) (let o : eqb 0 (suc p) ≡ false = grind (arith, nat_tests) in o) ∙ ap g (omega arith) in
    let rest = set-map f g (low + 1) n p y (omega arith) (is ∙ ap g (omega arith))
    (λ q h off. ap f (omega arith) ∙ same (suc q) (omega arith) (let o : eqb (suc q) (suc p) ≡ false = grind (arith, nat_tests) in o) ∙ ap g (omega arith)) in
    rw (here, rest) refl

-- a change of one process, and the others as they are
pub changed-lenders : (c : Configuration) (now p : ℕ) (before after : List Entry) (change : Lender → Lender) → p < length c.processes
    → counted_lender c now after p ≡ change (counted_lender c now before p)
    → ((q : ℕ) → q < length c.processes → eqb q p ≡ false → counted_lender c now after q ≡ counted_lender c now before q)
    → changed_at p change (recount c now before) ≡ recount c now after
changed-lenders c now p before after change known own others = grind (arith, nat_tests, get-map, set-map)

pub quiet-lender : (c : Configuration) (now p : ℕ) (label : Label) (past : List Entry) → counted_lender c now (quiet label ∷ past) p ≡ counted_lender c now past p
quiet-lender c now p label past = grind (arith, nat_tests, family-charged)

pub quiet-loans : (c : Configuration) (now : ℕ) (label : Label) (past : List Entry) → recount c now (quiet label ∷ past) ≡ recount c now past
quiet-loans c now label past = grind (arith, nat_tests, all-same, quiet-lender)
