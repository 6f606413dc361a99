-- The cause that is told from the places of the labels is the line's.
use Rattle.dk_asm.proofs.Imports.{◌≡◌, ◌∙◌, sym, ap, refl, ◌<◌, ◌≤◌, ◌+◌, ℕ, zero, suc, Bool, true, false, cond, List, [], ◌∷◌, ◌++◌, length, take, drop, map, get_or, arith, Option, Some, None, BTreeMap, ◌&&◌, ◌||◌, ◌==◌, nat_lt, slice_get, is_some, is_none, Bor, list_any, option_map, option_map_or, option_and_then, nat_tests, MAX_INSTRUCTIONS, Place, LineFault, Operand, Statement, Line, label_on, statement_on, has_label, has_instruction, instructions, label_value, operands_on, is_unknown, is_form, is_range, is_twice, has_unknown, is_part, has_part, is_short, cause_of, cause_at, place, place_of, place_in, ArePlaces, is_unplaced, stands_before, cause_by}
use Rattle.dk_asm.proofs.Places.{moved}

-- a list round one of its places
pub whole_at : {A : Type 0} (xs : List A) (i : ℕ) (x : A) → slice_get xs i ≡ Some x → take i xs ++ x ∷ drop (suc i) xs ≡ xs
whole_at [] i x at = absurd (cc)
whole_at (y ∷ ys) zero x at = let same : y ≡ x = cc in ap (λ z. z ∷ ys) (sym same)
whole_at (y ∷ ys) (suc i) x at = ap (λ zs. y ∷ zs) (whole_at ys i x at)

pub get_seen : {A B : Type 0} (f : A → B) (xs : List A) (i : ℕ) (x : A) → i < length xs → x ≡ get_or xs i x → slice_get (map f xs) i ≡ Some (f x)
get_seen f [] i x l is = absurd (omega arith)
get_seen f (y ∷ ys) zero x l is = ap (λ z. Some (f z)) (sym is)
get_seen f (y ∷ ys) (suc i) x l is = get_seen f ys i x (omega arith) is

pub get_past : {A : Type 0} (xs : List A) (i : ℕ) → length xs ≤ i → slice_get xs i ≡ None
get_past [] i l = refl
get_past (x ∷ xs) zero l = absurd (omega arith)
get_past (x ∷ xs) (suc i) l = get_past xs i (omega arith)

instructions_both : (xs ys : List Line) → instructions (xs ++ ys) ≡ instructions xs + instructions ys
instructions_both [] ys = omega arith
instructions_both (x ∷ xs) ys = let rest = instructions_both xs ys in omega (arith, rest)

total_at : (source : List Line) (i : ℕ) (line : Line) → slice_get source i ≡ Some line → instructions source ≡ instructions (take i source) + (cond (has_instruction line) 1 0 + instructions (drop (suc i) source))
total_at source i line at = ap instructions (sym (whole_at source i line at)) ∙ instructions_both (take i source) (line ∷ drop (suc i) source)

pub value_is : (source : List Line) (name : List ℕ) → label_value source name ≡ option_map (λ p. p.value) (place_of source name)
value_is [] name = refl
value_is (l ∷ ls) name = go (has_label name l) (value_is ls name)
  where
    n : ℕ
    n = cond (has_instruction l) 1 0

    further : (o : Option Place) → option_map (λ v. n + v) (option_map (λ p. p.value) o) ≡ option_map (λ p. p.value) (option_map (moved n) o)
    further None = refl
    further (Some p) = refl

    go : (t : Bool) → label_value ls name ≡ option_map (λ p. p.value) (place_of ls name)
        → cond t (Some 0) (option_map (λ v. n + v) (label_value ls name)) ≡ option_map (λ p. p.value) (cond t (Some (place 0 0)) (option_map (moved n) (place_of ls name)))
    go true rest = refl
    go false rest = ap (option_map (λ v. n + v)) rest ∙ further (place_of ls name)

not_below_zero : (n : ℕ) → nat_lt n 0 ≡ false
not_below_zero n = grind (arith, nat_tests)

zero_below : (n : ℕ) → nat_lt 0 (suc n) ≡ true
zero_below n = grind (arith, nat_tests)

both_up : (m n : ℕ) → nat_lt m n ≡ nat_lt (suc m) (suc n)
both_up m n = grind (arith, nat_tests)

before_is : (source : List Line) (i : ℕ) (name : List ℕ) → list_any (has_label name) (take i source) ≡ option_map_or (λ p. nat_lt p.line i) (place_of source name) false
before_is source zero name = go (place_of source name)
  where
    go : (o : Option Place) → false ≡ option_map_or (λ p. nat_lt p.line 0) o false
    go None = refl
    go (Some p) = sym (not_below_zero p.line)
before_is [] (suc i) name = refl
before_is (l ∷ ls) (suc i) name = go (has_label name l) (before_is ls i name)
  where
    n : ℕ
    n = cond (has_instruction l) 1 0

    further : (o : Option Place) → option_map_or (λ p. nat_lt p.line i) o false ≡ option_map_or (λ p. nat_lt p.line (suc i)) (option_map (moved n) o) false
    further None = refl
    further (Some p) = both_up p.line i

    go : (t : Bool) → list_any (has_label name) (take i ls) ≡ option_map_or (λ p. nat_lt p.line i) (place_of ls name) false
        → (t || list_any (has_label name) (take i ls)) ≡ option_map_or (λ p. nat_lt p.line (suc i)) (cond t (Some (place 0 0)) (option_map (moved n) (place_of ls name))) false
    go true rest = sym (zero_below i)
    go false rest = rest ∙ further (place_of ls name)

none_mapped : (o : Option Place) → is_none o ≡ is_none (option_map (λ p. p.value) o)
none_mapped o = grind (arith, nat_tests)

module _ (places : BTreeMap (Bor (List ℕ)) Place) (source : List Line) (are : ArePlaces places source) where
  unplaced_is : (o : Operand) → is_unplaced places o ≡ is_unknown source o
  unplaced_is o = grind (arith, nat_tests, none_mapped, value_is)

  any_unplaced : (os : List Operand) → list_any (is_unplaced places) os ≡ list_any (is_unknown source) os
  any_unplaced [] = refl
  any_unplaced (o ∷ os) = ap (λ t. t || list_any (is_unplaced places) os) (unplaced_is o) ∙ ap (λ t. is_unknown source o || t) (any_unplaced os)

  twice_is : (i : ℕ) (line : Line) → stands_before places i line ≡ is_twice (take i source) line
  twice_is i line = go (label_on line)
    where
      go : (name : Option (List ℕ)) → option_map_or (λ n. option_map_or (λ p. nat_lt p.line i) (place_in places n) false) name false ≡ option_map_or (λ n. list_any (has_label n) (take i source)) name false
      go None = refl
      go (Some name) = ap (λ o. option_map_or (λ p. nat_lt p.line i) o false) (are name) ∙ sym (before_is source i name)

part_is_instruction : (s : Option Statement) → option_map_or is_part s false ≡ true → is_some s ≡ true
part_is_instruction s h = grind (arith, nat_tests)

one_above : (a r : ℕ) → nat_lt (a + 1) (a + (1 + r)) ≡ nat_lt 0 r
one_above a r = grind (arith, nat_tests)

short_is : (source : List Line) (i : ℕ) (line : Line) (total before : ℕ) → slice_get source i ≡ Some line → total ≡ instructions source → before ≡ instructions (take i source)
    → (has_part line && nat_lt (before + 1) total) ≡ is_short line (drop (suc i) source)
short_is source i line total before at count front = go (has_part line) refl
  where
    go : (t : Bool) → has_part line ≡ t → (t && nat_lt (before + 1) total) ≡ (t && nat_lt 0 (instructions (drop (suc i) source)))
    go false is = refl
    go true is =
        let some : has_instruction line ≡ true = part_is_instruction (statement_on line) is in
        let all : total ≡ before + (1 + instructions (drop (suc i) source)) = grind (arith, nat_tests, total_at) in
        ap (nat_lt (before + 1)) all ∙ one_above before (instructions (drop (suc i) source))

abbrev pub first_of : Bool → Bool → Bool → Bool → Bool → Bool → Option LineFault
first_of form range twice unknown short many =
    cond form (Some LineFault.Form)
    (cond range (Some LineFault.Range) (cond twice (Some LineFault.Twice) (cond unknown (Some LineFault.Unknown) (cond short (Some LineFault.Short) (cond many (Some LineFault.Many) None)))))

pub cause_is : (places : BTreeMap (Bor (List ℕ)) Place) (source : List Line) (i : ℕ) (line : Line) (total before : ℕ) → ArePlaces places source → slice_get source i ≡ Some line
    → total ≡ instructions source → before ≡ instructions (take i source) → cause_by places total line i before ≡ cause_at source i
cause_is places source i line total before are at count front =
    let form = is_form line in
    let range = is_range line in
    let twice = twice_is places source are i line in
    let unknown = any_unplaced places source are (operands_on line) ∙ ap (λ s. has_unknown s line) (sym (whole_at source i line at)) in
    let short = short_is source i line total before at count front in
    ap (λ t. first_of (is_form line) (is_range line) t (list_any (is_unplaced places) (operands_on line)) (has_part line && nat_lt (before + 1) total) (has_instruction line && (before == MAX_INSTRUCTIONS))) twice
    ∙ ap (λ t. first_of (is_form line) (is_range line) (is_twice (take i source) line) t (has_part line && nat_lt (before + 1) total) (has_instruction line && (before == MAX_INSTRUCTIONS))) unknown
    ∙ ap (λ t. first_of (is_form line) (is_range line) (is_twice (take i source) line) (has_unknown (take i source ++ line ∷ drop (suc i) source) line) t (has_instruction line && (before == MAX_INSTRUCTIONS))) short
    ∙ ap
    (λ n. first_of (is_form line) (is_range line) (is_twice (take i source) line) (has_unknown (take i source ++ line ∷ drop (suc i) source) line) (is_short line (drop (suc i) source)) (has_instruction line && (n == MAX_INSTRUCTIONS)))
    front
    ∙ ap (option_and_then (λ l. cause_of (take i source) l (drop (suc i) source))) (sym at)

-- no line is past the last
pub none_past : (source : List Line) (i : ℕ) → length source ≤ i → cause_at source i ≡ None
none_past source i l = ap (option_and_then (λ line. cause_of (take i source) line (drop (suc i) source))) (get_past source i l)
