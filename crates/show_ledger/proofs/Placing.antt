-- The mains with the entries of a line.
use Rattle.std.proofs.Common.{ℕ, zero, suc, ◌≡◌, ◌≢◌, ◌+◌, ◌-◌, ◌<◌, ◌≤◌, ◌∙◌, refl, sym, ap, subst, arith, Bool, true, false, List, [], ◌∷◌, ◌++◌, length, get_or, set, reverse, Option, Some, None}
use Rattle.std.specs.Prelude.{◌==◌, ◌&&◌, if◌then◌else◌, replicate}
use Rattle.std.specs.Option.{option_map_or}
use Rattle.std.proofs.Math.Bool.{and-false}
use Rattle.std.proofs.lemmas.Bool.{eq-eqb, ne_eqb}
use Rattle.std.proofs.lemmas.List.{length-replicate, length_push, reverse-append}
use Rattle.dk_trace.specs.declared.ThreadId.{ThreadId}
use Rattle.dk_trace.specs.declared.Label.{Label}
use Rattle.dk_trace.specs.declared.Entry.{Entry}
use Rattle.dk_trace.specs.Entries.{is_of, is_same, quiet, thread_of}
use Rattle.dk_ledger.specs.declared.line.LedgerLine.{LedgerLine}
use Rattle.dk_ledger.specs.Cuts.{entries_of}
use Rattle.dk_ledger.specs.Heading.{Heading}
use Rattle.show_ledger.specs.declared.told.Told.{Told}
use Rattle.show_ledger.specs.Told.{AreTold, AreToldFrom, AreUpTo, IsTold, changed, mains_with, told_line}
use Rattle.show_ledger.proofs.Telling.{line-left, line-told}

-- ---- one of them

pub up-to-at : (now : ℕ) (ts : List Told) (i : ℕ) (d : Told) → AreUpTo now ts → i < length ts → (get_or ts i d).tick ≤ now
up-to-at now [] i d all there = absurd (omega (arith, there))
up-to-at now (t ∷ ts) zero d all there = all.0
up-to-at now (t ∷ ts) (suc i) d all there = up-to-at now ts i d all.1 (omega (arith, there))

pub changed-is : (f : Told → Told) (ts : List Told) (i : ℕ) (d : Told) → i < length ts → set ts i (f (get_or ts i d)) ≡ changed f i ts
changed-is f [] i d there = absurd (omega (arith, there))
changed-is f (t ∷ ts) zero d there = refl
changed-is f (t ∷ ts) (suc i) d there = ap (λ rest. t ∷ rest) (changed-is f ts i d (omega (arith, there)))

pub changed-past : (f : Told → Told) (ts : List Told) (i : ℕ) → length ts ≤ i → ts ≡ changed f i ts
changed-past f [] i past = refl
changed-past f (t ∷ ts) zero past = absurd (omega (arith, past))
changed-past f (t ∷ ts) (suc i) past = ap (λ rest. t ∷ rest) (changed-past f ts i (omega (arith, past)))

length-changed : (f : Told → Told) (ts : List Told) (i : ℕ) → length (changed f i ts) ≡ length ts
length-changed f [] i = refl
length-changed f (t ∷ ts) zero = refl
length-changed f (t ∷ ts) (suc i) = ap suc (length-changed f ts i)

module _ (h : Heading) (past : List Entry) where
  pub told-push : (k : ℕ) (ts : List Told) (t : Told) → AreToldFrom h past k ts → IsTold h past (k + length ts) t → AreToldFrom h past k (ts ++ t ∷ [])
  told-push k [] t are is = let same : k + 0 ≡ k = omega arith in (subst (λ p. IsTold h past p t) same is, tt)
  told-push k (s ∷ ts) t are is =
      let same : k + suc (length ts) ≡ suc k + length ts = omega arith in
      (are.0, told-push (suc k) ts t are.1 (subst (λ p. IsTold h past p t) same is))

  pub told-up-to : (k : ℕ) (ts : List Told) → AreToldFrom h past k ts → AreUpTo (length past) ts
  told-up-to k [] are = tt
  told-up-to k (t ∷ ts) are = (are.0.tick, told-up-to (suc k) ts are.1)

  told-from : (k i : ℕ) (ts : List Told) (d : Told) → AreToldFrom h past k ts → i < length ts → IsTold h past (k + i) (get_or ts i d)
  told-from k i [] d are there = absurd (omega (arith, there))
  told-from k zero (t ∷ ts) d are there = let same : k ≡ k + 0 = omega arith in subst (λ p. IsTold h past p t) same are.0
  told-from k (suc i) (t ∷ ts) d are there =
      let same : suc k + i ≡ k + suc i = omega arith in
      subst (λ p. IsTold h past p (get_or ts i d)) same (told-from (suc k) i ts d are.1 (omega (arith, there)))

  pub told-there : (i : ℕ) (ts : List Told) (d : Told) → AreToldFrom h past 0 ts → i < length ts → IsTold h past i (get_or ts i d)
  told-there i ts d are there =
      let same : 0 + i ≡ i = omega arith in
      subst (λ p. IsTold h past p (get_or ts i d)) same (told-from 0 i ts d are there)

-- ---- the entries of a line

pub past-of-line : (es : List Entry) (line : LedgerLine)
    → reverse (es ++ entries_of line) ≡ record { label = line.label; event = line.event } ∷ (replicate (line.count - 1) (quiet line.label) ++ reverse es)
past-of-line es line =
    let e = quiet line.label in
    let last : Entry = record { label = line.label; event = line.event } in
    let n = line.count - 1 in
    reverse-append es (entries_of line)
    ∙ ap (λ xs. xs ++ reverse es) (reverse-append (replicate n e) (last ∷ []) ∙ ap (λ xs. last ∷ xs) (same-way e n))
  where
    push-same : (x : Entry) (m : ℕ) → replicate m x ++ x ∷ [] ≡ x ∷ replicate m x
    push-same x zero = refl
    push-same x (suc m) = ap (λ xs. x ∷ xs) (push-same x m)

    same-way : (x : Entry) (m : ℕ) → reverse (replicate m x) ≡ replicate m x
    same-way x zero = refl
    same-way x (suc m) = reverse-append (x ∷ []) (replicate m x) ∙ ap (λ xs. xs ++ x ∷ []) (same-way x m) ∙ push-same x m

-- whose it isn't
none-of : (x : ThreadId) (label : Label) → thread_of label ≡ None → is_of x (quiet label) ≡ false
none-of x label none = ap (λ o. option_map_or (is_same x) o false) none

other-of : (p : ℕ) (label : Label) (y : ThreadId) → thread_of label ≡ Some y → p ≢ y.process → is_of (record { process = p; serial = 0 }) (quiet label) ≡ false
other-of p label y is apart =
    ap (λ o. option_map_or (is_same (record { process = p; serial = 0 })) o false) is ∙ ap (λ b. b && (0 == y.serial)) (ne_eqb p y.process apart)

child-of : (p : ℕ) (label : Label) (y : ThreadId) → thread_of label ≡ Some y → (y.serial == 0) ≡ false → is_of (record { process = p; serial = 0 }) (quiet label) ≡ false
child-of p label y is child =
    let apart : 0 ≢ y.serial = λ same. let both : true ≡ false = sym (eq-eqb y.serial 0 (sym same)) ∙ child in absurd (cc) in
    ap (λ o. option_map_or (is_same (record { process = p; serial = 0 })) o false) is
    ∙ ap (λ b. (p == y.process) && b) (ne_eqb 0 y.serial apart) ∙ and-false (p == y.process)

module _ (h : Heading) (past : List Entry) (line : LedgerLine) (start : line.start ≡ length past) (some : 0 < line.count) (few : length past + line.count < 4294967295) where
  abbrev later : List Entry
  later = record { label = line.label; event = line.event } ∷ (replicate (line.count - 1) (quiet line.label) ++ past)

  rest-told : (k : ℕ) (ts : List Told) → ((p : ℕ) → k ≤ p → is_of (record { process = p; serial = 0 }) (quiet line.label) ≡ false) → AreToldFrom h past k ts → AreToldFrom h later k ts
  rest-told k [] other are = tt
  rest-told k (t ∷ ts) other are = (
    line-left h k past t line are.0 (other k (omega arith)) some few,
    rest-told (suc k) ts (λ p after. other p (omega (arith, after))) are.1,
  )

  one-told : (k i : ℕ) (ts : List Told) (y : ThreadId) → thread_of line.label ≡ Some y → y.process ≡ k + i → AreToldFrom h past k ts → AreToldFrom h later k (changed (told_line line) i ts)
  one-told k i [] y is place are = tt
  one-told k zero (t ∷ ts) y is place are = (
    line-told h k past t line are.0 start some few,
    rest-told (suc k) ts (λ p after. other-of p line.label y is (λ same. omega (arith, same, after, place))) are.1,
  )
  one-told k (suc i) (t ∷ ts) y is place are = (
    line-left h k past t line are.0 (other-of k line.label y is (λ same. omega (arith, same, place))) some few,
    one-told (suc k) i ts y is (omega (arith, place)) are.1,
  )

  by-serial : (b : Bool) (ts : List Told) (y : ThreadId) → thread_of line.label ≡ Some y → (y.serial == 0) ≡ b → AreToldFrom h past 0 ts
      → AreToldFrom h later 0 (if b then changed (told_line line) y.process ts else ts)
  by-serial true ts y is main are = one-told 0 y.process ts y is (omega arith) are
  by-serial false ts y is child are = rest-told 0 ts (λ p after. child-of p line.label y is child) are

  by-thread : (o : Option ThreadId) (ts : List Told) → thread_of line.label ≡ o → AreToldFrom h past 0 ts
      → AreToldFrom h later 0 (option_map_or (λ x. if x.serial == 0 then changed (told_line line) x.process ts else ts) o ts)
  by-thread None ts is are = rest-told 0 ts (λ p after. none-of (record { process = p; serial = 0 }) line.label is) are
  by-thread (Some y) ts is are = by-serial (y.serial == 0) ts y is refl are

  number-serial : (b : Bool) (ts : List Told) (i : ℕ) → length (if b then changed (told_line line) i ts else ts) ≡ length ts
  number-serial true ts i = length-changed (told_line line) ts i
  number-serial false ts i = refl

  number-thread : (o : Option ThreadId) (ts : List Told) → length (option_map_or (λ x. if x.serial == 0 then changed (told_line line) x.process ts else ts) o ts) ≡ length ts
  number-thread None ts = refl
  number-thread (Some y) ts = number-serial (y.serial == 0) ts y.process

  pub mains-told : (ts : List Told) → AreTold h past ts → AreTold h later (mains_with line ts)
  mains-told ts are = record {
    each = by-thread (thread_of line.label) ts refl are.each;
    number = number-thread (thread_of line.label) ts ∙ are.number;
  }

-- behind the entries of the line, in the order of a ledger
pub told-behind : (h : Heading) (es : List Entry) (line : LedgerLine) (ts : List Told) → line.start ≡ length (reverse es) → 0 < line.count → length (reverse es) + line.count < 4294967295
    → AreTold h (reverse es) ts → AreTold h (reverse (es ++ entries_of line)) (mains_with line ts)
told-behind h es line ts start some few are =
    subst (λ past. AreTold h past (mains_with line ts)) (sym (past-of-line es line)) (mains-told h (reverse es) line start some few ts are)

pub length-line : (line : LedgerLine) → 0 < line.count → length (entries_of line) ≡ line.count
length-line line some =
    let e = quiet line.label in
    let last : Entry = record { label = line.label; event = line.event } in
    let both = length_push (replicate (line.count - 1) e) last in
    let many = length-replicate (line.count - 1) e in
    omega (arith, both, many, some)
