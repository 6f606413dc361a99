-- The tick at which the first group too many begins is the greatest end that fits.
use Rattle.dk_picture.proofs.Names.{ℕ, zero, suc, ◌≡◌, ◌∙◌, ◌+◌, ◌-◌, ◌<◌, ◌≤◌, ◌++◌, [], ◌∷◌, List, length, sym, ap, refl, arith, Bool, true, false, Some, None, if◌then◌else◌, max, min, nat_lt, option_to_list, slice_get, ◌==◌, le-ltb, lt-ltb, ltb-false, ltb-true, Entry, LedgerLine, AreFilled, AreInTurn, lines_of, is_cut, groups, part_of_line, IsGreatestEnd, IsTooMany}
use Rattle.std.specs.Prelude.{flat_map}

some_same : {A : Type 0} {x y : A} → Some x ≡ Some y → x ≡ y
some_same e = cc

module _ (from : ℕ) where
  abbrev first_in : LedgerLine → ℕ
  first_in l = max l.start from

  abbrev end_in : ℕ → LedgerLine → ℕ
  end_in to l = min (l.start + l.count) to

  abbrev part : ℕ → LedgerLine → LedgerLine
  part to l = record {
    start = first_in l;
    count = end_in to l - first_in l;
    label = l.label;
    event = if end_in to l == l.start + l.count then l.event else None;
  }

  abbrev cut : ℕ → List LedgerLine → List LedgerLine
  cut to ls = flat_map (λ l. option_to_list (part_of_line from to l)) ls

  -- a line with ticks in the range, and one without
  with_part : (to : ℕ) (l : LedgerLine) (ls : List LedgerLine) → first_in l < end_in to l → cut to (l ∷ ls) ≡ part to l ∷ cut to ls
  with_part to l ls some = ap (λ b. option_to_list (if b then Some (part to l) else None) ++ cut to ls) (lt-ltb (first_in l) (end_in to l) some)

  without : (to : ℕ) (l : LedgerLine) (ls : List LedgerLine) → end_in to l ≤ first_in l → cut to (l ∷ ls) ≡ cut to ls
  without to l ls none = ap (λ b. option_to_list (if b then Some (part to l) else None) ++ cut to ls) (le-ltb (first_in l) (end_in to l) none)

  none_behind : (to s : ℕ) (ls : List LedgerLine) → AreInTurn s ls → to ≤ max s from → cut to ls ≡ []
  none_behind to s [] turn past = refl
  none_behind to s (l ∷ ls) turn past =
      let at = turn.0 in
      without to l ls (omega (arith, at, past)) ∙ none_behind to (s + l.count) ls turn.1 (omega (arith, past))

  -- ---- where a group begins

  abbrev Inside : ℕ → ℕ → LedgerLine → Type 0
  Inside to s g = (max s from ≤ g.start) × (g.start < to)

  inside_one : (to s : ℕ) (l : LedgerLine) (ls : List LedgerLine) (g : LedgerLine) (b : Bool) → nat_lt (first_in l) (end_in to l) ≡ b → l.start ≡ s
      → ((k : ℕ) → slice_get (cut to ls) k ≡ Some g → Inside to (s + l.count) g) → (k : ℕ) → slice_get (cut to (l ∷ ls)) k ≡ Some g → Inside to s g
  inside_one to s l ls g true less at rest zero is =
      let some = ltb-true _ _ less in
      let own : Some (part to l) ≡ Some g = sym (ap (λ gs. slice_get gs 0) (with_part to l ls some)) ∙ is in
      let start : first_in l ≡ g.start = ap (λ (k : LedgerLine). k.start) (some_same own) in
      (omega (arith, start, at), omega (arith, start, some))
  inside_one to s l ls g true less at rest (suc k) is =
      let some = ltb-true _ _ less in
      let later = rest k (sym (ap (λ gs. slice_get gs (suc k)) (with_part to l ls some)) ∙ is) in
      let low = later.0 in
      (omega (arith, low), later.1)
  inside_one to s l ls g false none at rest k is =
      let later = rest k (sym (ap (λ gs. slice_get gs k) (without to l ls (ltb-false _ _ none))) ∙ is) in
      let low = later.0 in
      (omega (arith, low), later.1)

  inside : (to s : ℕ) (ls : List LedgerLine) (g : LedgerLine) → AreInTurn s ls → (k : ℕ) → slice_get (cut to ls) k ≡ Some g → Inside to s g
  inside to s [] g turn k is = absurd (cc)
  inside to s (l ∷ ls) g turn k is = inside_one to s l ls g (nat_lt (first_in l) (end_in to l)) refl turn.0 (inside to (s + l.count) ls g turn.1) k is

  -- ---- how many end before it

  abbrev Counted : ℕ → ℕ → List LedgerLine → Type 0
  Counted t k ls = (length (cut t ls) ≡ k) × ((u : ℕ) → t < u → k < length (cut u ls))

  counted_one : (to s : ℕ) (l : LedgerLine) (ls : List LedgerLine) (g : LedgerLine) (t : ℕ) (b : Bool) → nat_lt (first_in l) (end_in to l) ≡ b → 0 < l.count → l.start ≡ s → AreInTurn (s + l.count) ls
      → g.start ≡ t → ((k : ℕ) → slice_get (cut to ls) k ≡ Some g → Counted t k ls) → (k : ℕ) → slice_get (cut to (l ∷ ls)) k ≡ Some g → Counted t k (l ∷ ls)
  counted_one to s l ls g t true less filled at turn start rest zero is =
      let some = ltb-true _ _ less in
      let own : Some (part to l) ≡ Some g = sym (ap (λ gs. slice_get gs 0) (with_part to l ls some)) ∙ is in
      let same : first_in l ≡ g.start = ap (λ (k : LedgerLine). k.start) (some_same own) in
      let there : first_in l ≡ t = same ∙ start in (
        ap length (without t l ls (omega (arith, there)) ∙ none_behind t (s + l.count) ls turn (omega (arith, there, some, at))),
        λ u more. let all = ap length (with_part u l ls (omega (arith, there, some, more))) in omega (arith, all),
      )
  counted_one to s l ls g t true less filled at turn start rest (suc k) is =
      let some = ltb-true _ _ less in
      let later : slice_get (cut to ls) k ≡ Some g = sym (ap (λ gs. slice_get gs (suc k)) (with_part to l ls some)) ∙ is in
      let low = (inside to (s + l.count) ls g turn k later).0 in
      let found = rest k later in
      let own : first_in l < end_in t l = omega (arith, low, some, at, start) in (
        ap length (with_part t l ls own) ∙ ap suc found.0,
        λ u more. let all = ap length (with_part u l ls (omega (arith, own, more))) in let count = found.1 u more in omega (arith, all, count),
      )
  counted_one to s l ls g t false none filled at turn start rest k is =
      let over = ltb-false _ _ none in
      let later : slice_get (cut to ls) k ≡ Some g = sym (ap (λ gs. slice_get gs k) (without to l ls over)) ∙ is in
      let bounds = inside to (s + l.count) ls g turn k later in
      let low = bounds.0 in
      let high = bounds.1 in
      let past : l.start + l.count ≤ first_in l = omega (arith, over, low, high, at) in
      let found = rest k later in (
        ap length (without t l ls (omega (arith, past))) ∙ found.0,
        λ u more. let all = ap length (without u l ls (omega (arith, past))) in let count = found.1 u more in omega (arith, all, count),
      )

  counted : (to s : ℕ) (ls : List LedgerLine) (g : LedgerLine) (t : ℕ) → AreFilled ls → AreInTurn s ls → g.start ≡ t → (k : ℕ) → slice_get (cut to ls) k ≡ Some g → Counted t k ls
  counted to s [] g t filled turn start k is = absurd (cc)
  counted to s (l ∷ ls) g t filled turn start k is =
      counted_one to s l ls g t (nat_lt (first_in l) (end_in to l)) refl filled.0 turn.0 turn.1 start (counted to (s + l.count) ls g t filled.1 turn.1 start) k is

pub greatest_end : (from to t : ℕ) (es : List Entry) → IsTooMany (groups from to es) t → IsGreatestEnd from to t es
greatest_end from to t es many =
    let cuts = is_cut es in
    let bounds = inside from to 0 (lines_of es) many.group cuts.in_turn 4000 many.first in
    let all = counted from to 0 (lines_of es) many.group t cuts.filled cuts.in_turn (sym many.tick) 4000 many.first in
    let low = bounds.0 in
    let high = bounds.1 in
    let at = many.tick in
    record { begins = omega (arith, low, at); ends = omega (arith, high, at); fits = all.0; greater = all.1 }
