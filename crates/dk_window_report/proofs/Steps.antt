-- What one more entry makes of what is kept of a thread.
use Rattle.std.proofs.Common.{ℕ, zero, suc, ◌≡◌, ◌≢◌, ◌+◌, ◌-◌, ◌*◌, ◌/◌, ◌%◌, ◌<◌, ◌≤◌, inl, inr, ◌∙◌, refl, sym, ap, subst, zero-add, arith, Bool, true, false, cond, List, [], ◌∷◌, ◌++◌, length, map, take, drop}
use Rattle.std.specs.Prelude.{◌==◌, ◌||◌, ◌&&◌, min, max, if◌then◌else◌, count_by}
use Rattle.std.specs.List.{list_any}
use Rattle.std.proofs.lemmas.List.{length-take-le, map-append, length-map, length_push}
use Rattle.std.proofs.lemmas.List.Folds.{list_any-append}
use Rattle.std.proofs.lemmas.List.Sums.{count_by-le-length, sum_by-cons}
use Rattle.std.proofs.Math.Nat.{div-add-mod, div-zero, mod-zero, div-mul-le_self, mod-lt, mod-le, div-le_self}
use Rattle.std.proofs.lemmas.Nat.{div-mul-add, mod_below}
use Rattle.std.proofs.lemmas.Bool.{ne_eqb, eq-eqb, cases_lt, lt-ltb, le-ltb}
use Rattle.std.proofs.Math.Bool.{or-false}
use Rattle.dk_config.specs.Sums.{numbers, below, greatest}
use Rattle.dk_config.proofs.Counting.{length-map-numbers}
use Rattle.dk_trace.specs.declared.ThreadId.{ThreadId}
use Rattle.dk_trace.specs.declared.Entry.{Entry}
use Rattle.dk_trace.specs.Entries.{is_budget_of}
use Rattle.dk_trace.proofs.Windows.{mod-next, count_by-cons, take-newest}
use Rattle.dk_window_report.specs.declared.row.Did.{Did}
use Rattle.dk_window_report.specs.declared.row.WindowCounts.{WindowCounts}
use Rattle.dk_window_report.specs.declared.row.Row.{Row}
use Rattle.dk_window_report.specs.Windows.{window_at, ended_windows, present_window, done_in, did_in, is_overrun, first_overrun, first_overrun_from, unstopped, once, stopped_once, until_stopped, least_from, least, counts_of}
use Rattle.dk_window_report.specs.Owners.{Owner, own_entries}
use Rattle.dk_window_report.specs.Rows.{raised, raised_if, did_with, lesser, counts_with, ended, stepped_at, stepped, row_of, nothing_done}

abbrev pub no_counts : WindowCounts
no_counts = record { windows = 0; waited = 0; stopped = 0; overran = 0; first_overran = 0; least_used = 0; most_used = 0; first_done = 0; last_done = 0 }

abbrev pub no_row : Row
no_row = record { thread = record { process = 0; serial = 0 }; period = 0; since = 0; did = nothing_done; counts = no_counts; gone = false }

raised-is : (n : ℕ) → n < 4294967295 → raised n ≡ n + 1
raised-is n h = omega (arith, h)

-- ---- windows

map-within : {A : Type 0} (f g : ℕ → A) (low n : ℕ) → ((i : ℕ) → low ≤ i → i < low + n → f i ≡ g i) → map f (numbers low n) ≡ map g (numbers low n)
map-within f g low zero same = refl
map-within f g low (suc n) same =
    ap (λ x. x ∷ map f (numbers (suc low) n)) (same low (omega arith) (omega arith))
    ∙ ap (λ xs. g low ∷ xs) (map-within f g (suc low) n (λ i a b. same i (omega (arith, a)) (omega (arith, b))))

pub numbers-more : (low n : ℕ) → numbers low (suc n) ≡ numbers low n ++ (low + n) ∷ []
numbers-more low zero = let same : low ≡ low + 0 = omega arith in ap (λ k. k ∷ []) same
numbers-more low (suc n) =
    let same : suc low + n ≡ low + suc n = omega arith in
    ap (λ xs. low ∷ xs) (numbers-more (suc low) n) ∙ ap (λ k. low ∷ (numbers (suc low) n ++ k ∷ [])) same

mul-le : (a b p : ℕ) → a ≤ b → a * p ≤ b * p
mul-le a b zero h = omega arith
mul-le a b (suc p) h = let rest = mul-le a b p h in omega (arith, rest, h)

-- a window that has ended isn't changed by a later entry
window-same : (p : ℕ) (e : Entry) (es : List Entry) (w : ℕ) → w < length es / p → window_at p (e ∷ es) w ≡ window_at p es w
window-same p e es w h =
    let most = mul-le (w + 1) (length es / p) p (omega (arith, h)) in
    let whole = div-mul-le_self (length es) p in
    let step : suc (length es) - (w + 1) * p ≡ suc (length es - (w + 1) * p) = omega (arith, most, whole) in
    ap (λ k. take p (drop k (e ∷ es))) step

windows-same : (p : ℕ) (e : Entry) (es : List Entry) → map (window_at p (e ∷ es)) (below (length es / p)) ≡ ended_windows p es
windows-same p e es = map-within (window_at p (e ∷ es)) (window_at p es) 0 (length es / p) (λ i a b. window-same p e es i (omega (arith, b)))

-- no window ends
pub div-same : (n p : ℕ) → suc n % p ≡ suc (n % p) → suc n / p ≡ n / p
div-same n zero h = div-zero (suc n) ∙ sym (div-zero n)
div-same n (suc q) h =
    let p = suc q in
    let parts = div-add-mod n p in
    let low : suc (n % p) < p = subst (λ k. k < p) h (mod_below (suc n) p (omega arith)) in
    let next : n / p * p + suc (n % p) ≡ suc n = omega (arith, parts) in
    ap (λ k. k / p) (sym next) ∙ div-mul-add (n / p) p (suc (n % p)) low

-- a window ends
pub div-more : (n p : ℕ) → suc (n % p) ≡ p → suc n / p ≡ suc (n / p)
div-more n zero h = absurd (omega (arith, h))
div-more n (suc q) h =
    let p = suc q in
    let parts = div-add-mod n p in
    let times : suc (n / p) * p ≡ n / p * p + p = omega arith in
    let next : suc (n / p) * p + 0 ≡ suc n = omega (arith, parts, h, times) in
    ap (λ k. k / p) (sym next) ∙ div-mul-add (suc (n / p)) p 0 (omega arith)

pub goes-on-present : (p : ℕ) (e : Entry) (es : List Entry) → suc (length es) % p ≡ suc (length es % p) → present_window p (e ∷ es) ≡ e ∷ present_window p es
goes-on-present p e es h = ap (λ k. take k (e ∷ es)) h

pub goes-on-ended : (p : ℕ) (e : Entry) (es : List Entry) → suc (length es) % p ≡ suc (length es % p) → ended_windows p (e ∷ es) ≡ ended_windows p es
goes-on-ended p e es h = ap (λ k. map (window_at p (e ∷ es)) (below k)) (div-same (length es) p h) ∙ windows-same p e es

last-window : (p : ℕ) (e : Entry) (es : List Entry) → suc (length es % p) ≡ p → window_at p (e ∷ es) (length es / p) ≡ e ∷ present_window p es
last-window p e es h =
    let n = length es in
    let parts = div-add-mod n p in
    let times : (n / p + 1) * p ≡ n / p * p + p = omega arith in
    let none : suc n - (n / p + 1) * p ≡ 0 = omega (arith, parts, h, times) in
    ap (λ k. take p (drop k (e ∷ es))) none ∙ ap (λ k. take k (e ∷ es)) (sym h)

pub ends-ended : (p : ℕ) (e : Entry) (es : List Entry) → suc (length es % p) ≡ p → ended_windows p (e ∷ es) ≡ ended_windows p es ++ (e ∷ present_window p es) ∷ []
ends-ended p e es h =
    let n = length es in
    let f = window_at p (e ∷ es) in
    ap (λ k. map f (below k)) (div-more n p h) ∙ ap (map f) (numbers-more 0 (n / p)) ∙ map-append f (below (n / p)) ((0 + n / p) ∷ [])
    ∙ ap (λ k. map f (below (n / p)) ++ f k ∷ []) (zero-add (n / p))
    ∙ ap (λ ws. ws ++ f (n / p) ∷ []) (windows-same p e es)
    ∙ ap (λ w. ended_windows p es ++ w ∷ []) (last-window p e es h)

-- ---- what a thread did in a window

if-one : (b : Bool) (n : ℕ) → n < 4294967295 → cond b 1 0 + n ≡ raised_if b n
if-one true n h = omega (arith, h)
if-one false n h = omega arith

pub did-equal : (a b : Did) → a.used ≡ b.used → a.done ≡ b.done → a.waited ≡ b.waited → a.stopped ≡ b.stopped → a ≡ b
did-equal a b e0 e1 e2 e3 =
    ap (λ x. record { used = x; done = a.done; waited = a.waited; stopped = a.stopped }) e0
    ∙ ap (λ x. record { used = b.used; done = x; waited = a.waited; stopped = a.stopped }) e1
    ∙ ap (λ x. record { used = b.used; done = b.done; waited = x; stopped = a.stopped }) e2
    ∙ ap (λ x. record { used = b.used; done = b.done; waited = b.waited; stopped = x }) e3

suc-raised : (n : ℕ) → n < 4294967295 → suc n ≡ raised n
suc-raised n h = omega (arith, h)

pub did-more : (x : ThreadId) (e : Entry) (window : List Entry) → length window < 4294967295 → did_in x (e ∷ window) ≡ did_with false x e (length window) (did_in x window)
did-more x e window few =
    let paid = is_budget_of x e in
    let most = count_by-le-length (is_budget_of x) window in
    did-equal (did_in x (e ∷ window)) (did_with false x e (length window) (did_in x window))
    (count_by-cons (is_budget_of x) e window ∙ if-one paid (count_by (is_budget_of x) window) (omega (arith, most, few)))
    (ap (λ n. if paid then n else done_in x window) (suc-raised (length window) few))
    refl refl

-- of a thread that was stopped in a window before
once-with : (g : Bool) (x : ThreadId) (e : Entry) (n : ℕ) (d : Did) → once g (did_with false x e n d) ≡ did_with g x e n (once g d)
once-with true x e n d = refl
once-with false x e n d = refl

once-none : (g : Bool) → once g nothing_done ≡ nothing_done
once-none true = refl
once-none false = refl

once-gone : (g : Bool) (d : Did) → (g || d.stopped) ≡ (g || (once g d).stopped)
once-gone true d = refl
once-gone false d = refl

-- ---- the numbers of one more window

count-more : {A : Type 0} (p : A → Bool) (xs : List A) (x : A) → count_by p (xs ++ x ∷ []) ≡ count_by p xs + cond (p x) 1 0
count-more {A} p [] x = sum_by-cons (λ y. cond (p y) 1 0) x [] ∙ (omega arith)
count-more {A} p (y ∷ xs) x =
    let f = λ (z : A). cond (p z) 1 0 in
    let whole = sum_by-cons f y (xs ++ x ∷ []) in
    let part = sum_by-cons f y xs in
    let rest = count-more p xs x in
    omega (arith, whole, part, rest)

count-raised : {A : Type 0} (p : A → Bool) (xs : List A) (x : A) → length xs < 4294967295 → count_by p (xs ++ x ∷ []) ≡ raised_if (p x) (count_by p xs)
count-raised p xs x few =
    let most = count_by-le-length p xs in
    let swap : count_by p xs + cond (p x) 1 0 ≡ cond (p x) 1 0 + count_by p xs = omega arith in
    count-more p xs x ∙ swap ∙ if-one (p x) (count_by p xs) (omega (arith, most, few))

least_from-more : (m : ℕ) (ns : List ℕ) (n : ℕ) → least_from m (ns ++ n ∷ []) ≡ min (least_from m ns) n
least_from-more m [] n = refl
least_from-more m (k ∷ ns) n = least_from-more (min m k) ns n

least-more : {A : Type 0} (f : A → ℕ) (xs : List A) (x : A) → least (map f (xs ++ x ∷ [])) ≡ lesser (length xs) (least (map f xs)) (f x)
least-more f [] x = refl
least-more f (y ∷ xs) x =
    let some : suc (length xs) ≢ 0 = λ is. omega (arith, is) in
    ap (least_from (f y)) (map-append f xs (x ∷ [])) ∙ least_from-more (f y) (map f xs) (f x)
    ∙ sym (ap (λ b. if b then f x else min (least_from (f y) (map f xs)) (f x)) (ne_eqb (suc (length xs)) 0 some))

greatest-more : {A : Type 0} (f : A → ℕ) (xs : List A) (x : A) → greatest (map f (xs ++ x ∷ [])) ≡ max (greatest (map f xs)) (f x)
greatest-more f [] x = omega arith
greatest-more f (y ∷ xs) x = let rest = greatest-more f xs x in omega (arith, rest)

pub counts-equal : (a b : WindowCounts) → a.windows ≡ b.windows → a.waited ≡ b.waited → a.stopped ≡ b.stopped → a.overran ≡ b.overran → a.first_overran ≡ b.first_overran
    → a.least_used ≡ b.least_used → a.most_used ≡ b.most_used → a.first_done ≡ b.first_done → a.last_done ≡ b.last_done → a ≡ b
counts-equal a b e0 e1 e2 e3 e4 e5 e6 e7 e8 =
    ap (λ x. record { windows = x; waited = a.waited; stopped = a.stopped; overran = a.overran; first_overran = a.first_overran; least_used = a.least_used; most_used = a.most_used; first_done = a.first_done; last_done = a.last_done }) e0
    ∙ ap (λ x. record { windows = b.windows; waited = x; stopped = a.stopped; overran = a.overran; first_overran = a.first_overran; least_used = a.least_used; most_used = a.most_used; first_done = a.first_done; last_done = a.last_done }) e1
    ∙ ap (λ x. record { windows = b.windows; waited = b.waited; stopped = x; overran = a.overran; first_overran = a.first_overran; least_used = a.least_used; most_used = a.most_used; first_done = a.first_done; last_done = a.last_done }) e2
    ∙ ap (λ x. record { windows = b.windows; waited = b.waited; stopped = b.stopped; overran = x; first_overran = a.first_overran; least_used = a.least_used; most_used = a.most_used; first_done = a.first_done; last_done = a.last_done }) e3
    ∙ ap (λ x. record { windows = b.windows; waited = b.waited; stopped = b.stopped; overran = b.overran; first_overran = x; least_used = a.least_used; most_used = a.most_used; first_done = a.first_done; last_done = a.last_done }) e4
    ∙ ap (λ x. record { windows = b.windows; waited = b.waited; stopped = b.stopped; overran = b.overran; first_overran = b.first_overran; least_used = x; most_used = a.most_used; first_done = a.first_done; last_done = a.last_done }) e5
    ∙ ap (λ x. record { windows = b.windows; waited = b.waited; stopped = b.stopped; overran = b.overran; first_overran = b.first_overran; least_used = b.least_used; most_used = x; first_done = a.first_done; last_done = a.last_done }) e6
    ∙ ap (λ x. record { windows = b.windows; waited = b.waited; stopped = b.stopped; overran = b.overran; first_overran = b.first_overran; least_used = b.least_used; most_used = b.most_used; first_done = x; last_done = a.last_done }) e7
    ∙ ap (λ x. record { windows = b.windows; waited = b.waited; stopped = b.stopped; overran = b.overran; first_overran = b.first_overran; least_used = b.least_used; most_used = b.most_used; first_done = b.first_done; last_done = x }) e8

-- the first of those that overran, with one more
first-if : (b : Bool) (k n : ℕ) (ds : List Did) (d : Did) → 0 < k → first_overrun_from (k + 1) (ds ++ d ∷ []) ≡ (if (first_overrun_from (k + 1) ds == 0) && is_overrun d then k + 1 + length ds else first_overrun_from (k + 1) ds)
    → (if b then k else first_overrun_from (k + 1) (ds ++ d ∷ []))
    ≡ (if ((if b then k else first_overrun_from (k + 1) ds) == 0) && is_overrun d then k + suc (length ds) else (if b then k else first_overrun_from (k + 1) ds))
first-if true k n ds d some h = sym (ap (λ t. if t && is_overrun d then k + suc (length ds) else k) (ne_eqb k 0 (λ is. omega (arith, is, some))))
first-if false k n ds d some h =
    let size : k + 1 + length ds ≡ k + suc (length ds) = omega arith in
    h ∙ ap (λ m. if (first_overrun_from (k + 1) ds == 0) && is_overrun d then m else first_overrun_from (k + 1) ds) size

first-from-more : (k : ℕ) (ds : List Did) (d : Did) → 0 < k
    → first_overrun_from k (ds ++ d ∷ []) ≡ (if (first_overrun_from k ds == 0) && is_overrun d then k + length ds else first_overrun_from k ds)
first-from-more k [] d some = let same : k ≡ k + 0 = omega arith in ap (λ m. if is_overrun d then m else 0) same
first-from-more k (y ∷ ds) d some = first-if (is_overrun y) k 0 ds d some (first-from-more (k + 1) ds d (omega arith))

first-more : (ds : List Did) (d : Did) → length ds < 4294967295
    → first_overrun (ds ++ d ∷ []) ≡ (if (first_overrun ds == 0) && is_overrun d then raised (length ds) else first_overrun ds)
first-more ds d few =
    let size : 1 + length ds ≡ raised (length ds) = omega (arith, few) in
    first-from-more 1 ds d (omega arith) ∙ ap (λ m. if (first_overrun ds == 0) && is_overrun d then m else first_overrun ds) size

-- whether a window before was the one of the stop
abbrev pub is_gone : List Did → Bool
is_gone ds = list_any (λ (d : Did). d.stopped) ds

unstopped-more : (ds : List Did) (d : Did) → map unstopped (ds ++ d ∷ []) ≡ map unstopped ds ++ unstopped d ∷ []
unstopped-more ds d = map-append unstopped ds (d ∷ [])

once-if : (b : Bool) (d : Did) (ds : List Did) (g : Bool) (more : List Did) → more ≡ stopped_once ds ++ once g d ∷ []
    → (if b then map unstopped (ds ++ d ∷ []) else more) ≡ (if b then map unstopped ds else stopped_once ds) ++ once (b || g) d ∷ []
once-if true d ds g more h = unstopped-more ds d
once-if false d ds g more h = h

either-same : {A : Type 0} (b : Bool) (x : A) → (if b then x else x) ≡ x
either-same true x = refl
either-same false x = refl

-- one window more is told of
once-more : (ds : List Did) (d : Did) → stopped_once (ds ++ d ∷ []) ≡ stopped_once ds ++ once (is_gone ds) d ∷ []
once-more [] d = ap (λ rest. d ∷ rest) (either-same d.stopped [])
once-more (y ∷ ds) d = ap (λ rest. y ∷ rest) (once-if y.stopped d ds (is_gone ds) (stopped_once (ds ++ d ∷ [])) (once-more ds d))

gone-if : (b : Bool) (ds : List Did) → is_gone (stopped_once ds) ≡ is_gone ds → (b || is_gone (if b then map unstopped ds else stopped_once ds)) ≡ (b || is_gone ds)
gone-if true ds h = refl
gone-if false ds h = h

gone-once : (ds : List Did) → is_gone (stopped_once ds) ≡ is_gone ds
gone-once [] = refl
gone-once (y ∷ ds) = gone-if y.stopped ds (gone-once ds)

length-if : (b : Bool) (ds : List Did) → length (stopped_once ds) ≡ length ds → length (if b then map unstopped ds else stopped_once ds) ≡ length ds
length-if true ds h = length-map ds unstopped
length-if false ds h = h

length-once : (ds : List Did) → length (stopped_once ds) ≡ length ds
length-once [] = refl
length-once (y ∷ ds) = ap suc (length-if y.stopped ds (length-once ds))

abbrev none : List Did
none = []

either-none : (b : Bool) → (if b then none else none) ≡ none
either-none true = refl
either-none false = refl

first-and-rest : (b g : Bool) (y d : Did) (rest more : List Did) → more ≡ (if g then rest else rest ++ d ∷ [])
    → y ∷ (if b then [] else more) ≡ (if b || g then y ∷ (if b then [] else rest) else (y ∷ (if b then [] else rest)) ++ d ∷ [])
first-and-rest true g y d rest more h = refl
first-and-rest false true y d rest more h = ap (λ ds. y ∷ ds) h
first-and-rest false false y d rest more h = ap (λ ds. y ∷ ds) h

until-more : (ds : List Did) (d : Did) → until_stopped (ds ++ d ∷ []) ≡ (if is_gone ds then until_stopped ds else until_stopped ds ++ d ∷ [])
until-more [] d = ap (λ rest. d ∷ rest) (either-none d.stopped)
until-more (y ∷ ds) d = first-and-rest y.stopped (is_gone ds) y d (until_stopped ds) (until_stopped (ds ++ d ∷ [])) (until-more ds d)

until-le-if : (b : Bool) (n : ℕ) (ds : List Did) → length ds ≤ n → length (if b then [] else ds) ≤ n
until-le-if true n ds h = omega arith
until-le-if false n ds h = h

until-le : (ds : List Did) → length (until_stopped ds) ≤ length ds
until-le [] = omega arith
until-le (y ∷ ds) = let rest = until-le-if y.stopped (length ds) (until_stopped ds) (until-le ds) in omega (arith, rest)

-- a number of the windows up to the stop
by-gone : {A : Type 0} (f : List Did → A) (g : Bool) (ds : List Did) (d : Did) (more : A) → f (ds ++ d ∷ []) ≡ more
    → f (if g then ds else ds ++ d ∷ []) ≡ (if g then f ds else more)
by-gone f true ds d more h = refl
by-gone f false ds d more h = h

lived-more : {A : Type 0} (f : List Did → A) (ds : List Did) (d : Did) (more : A) → f (until_stopped ds ++ d ∷ []) ≡ more
    → f (until_stopped (ds ++ d ∷ [])) ≡ (if is_gone ds then f (until_stopped ds) else more)
lived-more f ds d more h = ap f (until-more ds d) ∙ by-gone f (is_gone ds) (until_stopped ds) d more h

pub counts-with-one : (ds : List Did) (d : Did) → length ds < 4294967295 → counts_of (ds ++ d ∷ []) ≡ counts_with (is_gone ds) (counts_of ds) d
counts-with-one ds d few =
    let most = until-le ds in
    let ls = until_stopped ds in
    let windows = length ls in
    counts-equal (counts_of (ds ++ d ∷ [])) (counts_with (is_gone ds) (counts_of ds) d)
    (lived-more length ds d (raised windows) (length_push ls d ∙ sym (raised-is windows (omega (arith, most, few)))))
    (count-raised (λ (y : Did). y.waited) ds d few)
    (count-raised (λ (y : Did). y.stopped) ds d few)
    (count-raised is_overrun ds d few)
    (lived-more first_overrun ds d _ (first-more ls d (omega (arith, most, few))))
    (lived-more (λ (xs : List Did). least (map (λ (y : Did). y.used) xs)) ds d _ (least-more (λ (y : Did). y.used) ls d))
    (lived-more (λ (xs : List Did). greatest (map (λ (y : Did). y.used) xs)) ds d _ (greatest-more (λ (y : Did). y.used) ls d))
    (lived-more (λ (xs : List Did). least (map (λ (y : Did). y.done) xs)) ds d _ (least-more (λ (y : Did). y.done) ls d))
    (lived-more (λ (xs : List Did). greatest (map (λ (y : Did). y.done) xs)) ds d _ (greatest-more (λ (y : Did). y.done) ls d))

-- ---- a row

abbrev pub row_with : Owner → List Entry → Row
row_with o own = record {
  thread = o.id;
  period = o.period;
  since = o.since;
  did = once (is_gone (map (did_in o.id) (ended_windows o.period own))) (did_in o.id (present_window o.period own));
  counts = counts_of (stopped_once (map (did_in o.id) (ended_windows o.period own)));
  gone = is_gone (map (did_in o.id) (ended_windows o.period own));
}

pub row-equal : (a b : Row) → a.thread ≡ b.thread → a.period ≡ b.period → a.since ≡ b.since → a.did ≡ b.did → a.counts ≡ b.counts → a.gone ≡ b.gone → a ≡ b
row-equal a b e0 e1 e2 e3 e4 e5 =
    ap (λ x. record { thread = x; period = a.period; since = a.since; did = a.did; counts = a.counts; gone = a.gone }) e0
    ∙ ap (λ x. record { thread = b.thread; period = x; since = a.since; did = a.did; counts = a.counts; gone = a.gone }) e1
    ∙ ap (λ x. record { thread = b.thread; period = b.period; since = x; did = a.did; counts = a.counts; gone = a.gone }) e2
    ∙ ap (λ x. record { thread = b.thread; period = b.period; since = b.since; did = x; counts = a.counts; gone = a.gone }) e3
    ∙ ap (λ x. record { thread = b.thread; period = b.period; since = b.since; did = b.did; counts = x; gone = a.gone }) e4
    ∙ ap (λ x. record { thread = b.thread; period = b.period; since = b.since; did = b.did; counts = b.counts; gone = x }) e5

length-ended : (p : ℕ) (own : List Entry) → length (ended_windows p own) ≡ length own / p
length-ended p own = length-map-numbers (window_at p own) 0 (length own / p)

few-dids : (o : Owner) (own : List Entry) → length own < 4294967295 → length (map (did_in o.id) (ended_windows o.period own)) < 4294967295
few-dids o own few =
    let same = length-map (ended_windows o.period own) (did_in o.id) in
    let ended = length-ended o.period own in
    let most = div-le_self (length own) o.period in
    omega (arith, same, ended, most, few)

length-present : (p : ℕ) (own : List Entry) → length (present_window p own) ≡ length own % p
length-present p own = length-take-le (length own % p) own (mod-le (length own) p)

module _ (o : Owner) (e : Entry) (own : List Entry) (few : length own < 4294967295) where
  -- with the entry, what the thread did in its present window
  did-next : did_in o.id (e ∷ present_window o.period own) ≡ did_with false o.id e (length own % o.period) (did_in o.id (present_window o.period own))
  did-next =
      let len = length-present o.period own in
      let most = mod-le (length own) o.period in
      did-more o.id e (present_window o.period own) (omega (arith, len, most, few))
      ∙ ap (λ n. did_with false o.id e n (did_in o.id (present_window o.period own))) len

  goes-on : suc (length own) % o.period ≡ suc (length own % o.period) → (length own % o.period + 1 == o.period) ≡ false
      → row_with o (e ∷ own) ≡ stepped_at (length own % o.period) e (row_with o own)
  goes-on within test =
      let r = row_with o own in
      let g = is_gone (map (did_in o.id) (ended_windows o.period own)) in
      let present = did_in o.id (present_window o.period own) in
      let d = did_with g o.id e (length own % o.period) (once g present) in
      row-equal (row_with o (e ∷ own)) (record r { did = d }) refl refl refl
      (ap (λ ws. once (is_gone (map (did_in o.id) ws)) (did_in o.id (present_window o.period (e ∷ own)))) (goes-on-ended o.period e own within)
      ∙ ap (λ w. once g (did_in o.id w)) (goes-on-present o.period e own within) ∙ ap (once g) did-next ∙ once-with g o.id e (length own % o.period) present)
      (ap (λ ws. counts_of (stopped_once (map (did_in o.id) ws))) (goes-on-ended o.period e own within))
      (ap (λ ws. is_gone (map (did_in o.id) ws)) (goes-on-ended o.period e own within))
      ∙ sym (ap (λ b. if b then ended r d else record r { did = d }) test)

  ends : suc (length own) % o.period ≡ 0 → suc (length own % o.period) ≡ o.period → (length own % o.period + 1 == o.period) ≡ true
      → row_with o (e ∷ own) ≡ stepped_at (length own % o.period) e (row_with o own)
  ends over full test =
      let r = row_with o own in
      let present = did_in o.id (present_window o.period own) in
      let raw = did_with false o.id e (length own % o.period) present in
      let ds = map (did_in o.id) (ended_windows o.period own) in
      let g = is_gone ds in
      let d = did_with g o.id e (length own % o.period) (once g present) in
      let told : once g raw ≡ d = once-with g o.id e (length own % o.period) present in
      let more : map (did_in o.id) (ended_windows o.period (e ∷ own)) ≡ ds ++ raw ∷ [] =
      ap (map (did_in o.id)) (ends-ended o.period e own full) ∙ map-append (did_in o.id) (ended_windows o.period own) ((e ∷ present_window o.period own) ∷ [])
      ∙ ap (λ x. ds ++ x ∷ []) did-next in
      row-equal (row_with o (e ∷ own)) (ended r d) refl refl refl
      (ap (λ k. once (is_gone (map (did_in o.id) (ended_windows o.period (e ∷ own)))) (did_in o.id (take k (e ∷ own)))) over
      ∙ once-none (is_gone (map (did_in o.id) (ended_windows o.period (e ∷ own)))))
      (ap (λ xs. counts_of (stopped_once xs)) more ∙ ap counts_of (once-more ds raw)
      ∙ counts-with-one (stopped_once ds) (once g raw) (subst (λ n. n < 4294967295) (sym (length-once ds)) (few-dids o own few))
      ∙ ap (λ b. counts_with b (counts_of (stopped_once ds)) (once g raw)) (gone-once ds) ∙ ap (counts_with g (counts_of (stopped_once ds))) told)
      (ap is_gone more ∙ list_any-append (λ (x : Did). x.stopped) ds (raw ∷ []) ∙ ap (λ b. g || b) (or-false raw.stopped)
      ∙ once-gone g raw ∙ ap (λ (x : Did). g || x.stopped) told)
      ∙ sym (ap (λ b. if b then ended r d else record r { did = d }) test)

  below-period : (q : ℕ) → q ≡ o.period → suc (length own) % q ≡ suc (length own % q) → length own % q + 1 ≢ q
  below-period zero same within is = omega (arith, is)
  below-period (suc q) same within is =
      let low = mod-lt (suc (length own)) {m = suc q} (omega arith) in
      omega (arith, is, within, low)

  at-window : (q : ℕ) → q ≡ o.period → row_with o (e ∷ own) ≡ stepped_at (length own % o.period) e (row_with o own)
  at-window zero same =
      let within : suc (length own) % o.period ≡ suc (length own % o.period) =
      subst (λ q. suc (length own) % q ≡ suc (length own % q)) same (mod-zero (suc (length own)) ∙ ap suc (sym (mod-zero (length own)))) in
      goes-on within (ne_eqb (length own % o.period + 1) o.period (below-period o.period refl within))
  at-window (suc q) same =
      elim (mod-next (length own) o.period (omega (arith, same))) [
        | inl parts ↦
            let full = parts.1 in
            ends parts.0 full (eq-eqb (length own % o.period + 1) o.period (omega (arith, full)))
        | inr within ↦ goes-on within (ne_eqb (length own % o.period + 1) o.period (below-period o.period refl within))
      ]

  in-window : row_with o (e ∷ own) ≡ stepped_at (length own % o.period) e (row_with o own)
  in-window = at-window o.period refl

-- One more entry makes of what is kept of a thread what is kept after it.
pub row-next : (o : Owner) (e : Entry) (past : List Entry) → length past < 4294967295 → row_of (e ∷ past) o ≡ stepped (length past) e (row_of past o)
row-next o e past few =
    let n = length past in
    let r = row_of past o in
    let later = stepped_at ((n - o.since) % o.period) e r in
    elim (cases_lt n o.since) [
      | inl before ↦
          let new : own_entries o.since (e ∷ past) ≡ [] = (let none : suc n - o.since ≡ 0 = omega (arith, before) in ap (λ k. take k (e ∷ past)) none) in
          let old : own_entries o.since past ≡ [] = (let none : n - o.since ≡ 0 = omega (arith, before) in ap (λ k. take k past) none) in
          ap (row_with o) (new ∙ sym old)
          ∙ sym (ap (λ b. if b then r else later) (lt-ltb n o.since before))
      | inr since ↦
          let own = own_entries o.since past in
          let new : own_entries o.since (e ∷ past) ≡ e ∷ own = take-newest n o.since e past since in
          let size : length own ≡ n - o.since = length-take-le (n - o.since) past (omega arith) in
          ap (row_with o) new
          ∙ in-window o e own (omega (arith, size, few))
          ∙ ap (λ k. stepped_at (k % o.period) e r) size
          ∙ sym (ap (λ b. if b then r else later) (le-ltb n o.since since))
    ]
