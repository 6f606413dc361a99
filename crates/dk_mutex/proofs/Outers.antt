-- Who ran first before each lock, once a mutex changes hands and after a tick.
use Rattle.dk_mutex.proofs.Names.{arith, inl, inr, ◌≡◌, ◌<◌, ◌-◌, ◌∙◌, ◌++◌, true, false, ℕ, zero, suc, List, [], ◌∷◌, length, slice_get, map, Option, Some, None, refl, ap, sym, subst, option_map, list_any, cases_Bool, or_parts, ThreadId, is_same, same-id, same-self, Front, Outer, Holder, Lockable, freed, holder_left, is_by, spent, given_to, hold_left, is_free, left_at, AreOuter, IsFirst, IsFrontOf, IsInnermost, IsLockable, unlocked, nat_tests}
use Rattle.dk_mutex.proofs.Fronts.{hold-other, hold-own, same-first}
use Rattle.dk_mutex.proofs.Lefts.{given-further}
use Rattle.dk_mutex.proofs.Locking.{free-row, own-left}
use Rattle.dk_mutex.proofs.Recounts.{left-spent-other, left-spent-own}
use Rattle.dk_mutex.proofs.Unheld.{held-spent}

pub first-of : (front : Front) (rows : List Lockable) → IsFrontOf front rows → IsFirst front.level front.holder rows
first-of front rows is = record { held = is.held; before = is.before; holder = is.holder }

pub no-outer : (outers : List Outer) → outers ≡ [] → (rows : List Lockable) → AreOuter outers rows
no-outer outers none rows = subst (λ os. AreOuter os rows) (sym none) tt

unlocked-last : (outers : List Outer) (o : Outer) (rows : List Lockable) → unlocked (outers ++ o ∷ []) rows ≡ unlocked outers (given_to None o.mutex rows)
unlocked-last [] o rows = refl
unlocked-last (p ∷ outers) o rows = ap (given_to None p.mutex) (unlocked-last outers o rows)

-- one lock more
pub outer-last : (outers : List Outer) (o : Outer) (rows : List Lockable) → AreOuter outers (given_to None o.mutex rows)
    → IsFirst o.level o.holder (given_to None o.mutex rows) → IsInnermost o.mutex rows → AreOuter (outers ++ o ∷ []) rows
outer-last [] o rows were first inner = (first, inner, tt)
outer-last (p ∷ outers) o rows were first inner = grind (arith, nat_tests, unlocked-last, outer-last outers)

-- and one less
pub outer-parts : (outers : List Outer) (o : Outer) (rows : List Lockable) → AreOuter (outers ++ o ∷ []) rows
    → AreOuter outers (given_to None o.mutex rows) × IsFirst o.level o.holder (given_to None o.mutex rows)
outer-parts [] o rows are = (tt, are.0)
outer-parts (p ∷ outers) o rows are = grind (arith, nat_tests, unlocked-last, outer-parts outers)

-- the newest of these locks
pub outer-newest : (outers : List Outer) (rows : List Lockable) → AreOuter outers rows → (n : ℕ) (o : Outer) → n ≡ length outers - 1 → slice_get outers n ≡ Some o
    → IsInnermost o.mutex rows
outer-newest [] rows are n o long is = absurd (cc)
outer-newest (p ∷ []) rows are zero o long is = subst (λ (q : Outer). IsInnermost q.mutex rows) (some-same p o is) are.1
  where
    some-same : (p o : Outer) → Some p ≡ Some o → p ≡ o
    some-same p o is = cc
outer-newest (p ∷ []) rows are (suc n) o long is = absurd (omega arith)
outer-newest (p ∷ q ∷ outers) rows are zero o long is = absurd (omega arith)
outer-newest (p ∷ q ∷ outers) rows are (suc n) o long is = outer-newest (q ∷ outers) rows are.2 n o (omega arith) is

-- what a thread locks is its innermost mutex
pub innermost-given : (h : Holder) (m : ℕ) (rows : List Lockable) → IsLockable h m rows → IsInnermost m (given_to (Some h) m rows)
innermost-given h m rows can = λ x n is.
    let at : holder_left x (Some h) ≡ Some n = sym (read m rows can.known x) ∙ is in
    elim (cases_Bool (is_same x h.thread)) [
      | inl same ↦
          let left : Some h.left ≡ Some n = rw same at at in
          let number : h.left ≡ n = cc in
          subst (λ y. hold_left y (given_to (Some h) m rows) ≡ n) (sym (same-id x h.thread same)) (own-left h m rows can ∙ number)
      | inr other ↦ let none : None ≡ Some n = rw other at at in absurd (cc)
    ]
  where
    read : (m : ℕ) (rows : List Lockable) → m < length rows → (x : ThreadId) → left_at x (given_to (Some h) m rows) m ≡ holder_left x (Some h)
    read m [] below x = absurd (omega arith)
    read zero (row ∷ rows) below x = refl
    read (suc m) (row ∷ rows) below x = rw (given-further (Some h) m row rows) (read m rows (omega arith) x)

-- a mutex that was free is so again once it is unlocked
pub back-given : (h : Holder) (m : ℕ) (rows : List Lockable) → is_free m rows ≡ true → given_to None m (given_to (Some h) m rows) ≡ rows
back-given h m [] free = refl
back-given h zero (row ∷ rows) free = grind (arith, nat_tests, free-row, given-further)
back-given h (suc m) (row ∷ rows) free = grind (arith, nat_tests, free-row, given-further, back-given h m rows)

given-spent : (x : ThreadId) (m : ℕ) (rows : List Lockable) → given_to None m (map (spent x) rows) ≡ map (spent x) (given_to None m rows)
given-spent x m [] = refl
given-spent x zero (row ∷ rows) = refl
given-spent x (suc m) (row ∷ rows) = grind (arith, nat_tests, given-further, given-spent x m rows)

unlocked-spent : (x : ThreadId) (outers : List Outer) (rows : List Lockable) → unlocked outers (map (spent x) rows) ≡ map (spent x) (unlocked outers rows)
unlocked-spent x [] rows = refl
unlocked-spent x (o ∷ outers) rows = ap (given_to None o.mutex) (unlocked-spent x outers rows) ∙ given-spent x o.mutex (unlocked outers rows)

first-spent : (x : ThreadId) (level : ℕ) (first : Option ThreadId) (rows : List Lockable) → IsFirst level first rows → IsFirst level first (map (spent x) rows)
first-spent x level first rows was = grind (arith, nat_tests, held-spent, same-first)

-- nor does it change which mutex is innermost
innermost-spent : (x : ThreadId) (m : ℕ) (rows : List Lockable) → IsInnermost m rows → IsInnermost m (map (spent x) rows)
innermost-spent x m rows was = λ y n is. elim (cases_Bool (is_same x y)) [
  | inr other ↦ hold-other y x other rows ∙ was y n (sym (left-spent-other y x (apart y other) rows m) ∙ is)
  | inl same ↦
      let one : x ≡ y = same-id x y same in
      let own = less (left_at x rows m) n (sym (left-spent-own x rows m) ∙ subst (λ z. left_at z (map (spent x) rows) m ≡ Some n) (sym one) is) in
      subst (λ z. hold_left z (map (spent x) rows) ≡ n) one (hold-own x rows ∙ ap (λ l. l - 1) (was x own.0 own.1.0) ∙ own.1.1)
]
  where
    less : (o : Option ℕ) (n : ℕ) → option_map (λ l. l - 1) o ≡ Some n → (l : ℕ) × ((o ≡ Some l) × (l - 1 ≡ n))
    less None n is = absurd (cc)
    less (Some l) n is = (l, (refl, cc))

    apart : (y : ThreadId) → is_same x y ≡ false → is_same y x ≡ false
    apart y other = elim (cases_Bool (is_same y x)) [
      | inr off ↦ off
      | inl on ↦ grind (arith, nat_tests, same-id, same-self)
    ]

-- a tick moves no holder
pub outer-spent : (x : ThreadId) (outers : List Outer) (rows : List Lockable) → AreOuter outers rows → AreOuter outers (map (spent x) rows)
outer-spent x [] rows were = tt
outer-spent x (o ∷ outers) rows were = (
  subst (IsFirst o.level o.holder) (sym (unlocked-spent x (o ∷ outers) rows)) (first-spent x o.level o.holder (unlocked (o ∷ outers) rows) were.0),
  subst (λ rs. IsInnermost o.mutex rs) (sym (unlocked-spent x outers rows)) (innermost-spent x o.mutex (unlocked outers rows) were.1),
  outer-spent x outers rows were.2,
)

-- who holds nothing has nothing to give up
pub freed-none : (x : ThreadId) (rows : List Lockable) → list_any (is_by x) rows ≡ false → map (freed x) rows ≡ rows
freed-none x [] none = refl
freed-none x (row ∷ rows) none = grind (arith, nat_tests, or_parts, freed-none x rows)
