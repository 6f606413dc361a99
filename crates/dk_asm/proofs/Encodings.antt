-- The code of lines, line by line.
use Rattle.dk_asm.proofs.Imports.{◌≡◌, ◌∙◌, sym, ap, refl, subst, ◌<◌, ◌≤◌, ℕ, zero, suc, true, List, [], ◌∷◌, ◌++◌, length, take, map, get_or, arith, append_assoc, append-nil, nat_le, AllByRecursion, leb-true, Mnemonic, Instr, HasRegisters, row_of, written, Kind, Operand, Line, statement_on, IsLineCode, IsCode, FitsPlace, FitPlaces, nat_tests}

-- what fits a place is below 65,536
pub fits_word : (kind : Kind) (n : ℕ) → FitsPlace kind n → n < 65536
fits_word kind n fits = grind (arith, nat_tests)

pub fit_words : (value : Operand → ℕ) (kinds : List Kind) (os : List Operand) → FitPlaces kinds (map value os) → AllByRecursion (λ o. value o < 65536) os
fit_words value kinds [] fit = tt
fit_words value [] (o ∷ os) fit = absurd fit
fit_words value (kind ∷ kinds) (o ∷ os) fit = (fits_word kind (value o) fit.0, fit_words value kinds os fit.1)

same_length : (kinds : List Kind) (ns : List ℕ) → FitPlaces kinds ns → length kinds ≡ length ns
same_length [] [] fit = refl
same_length [] (n ∷ ns) fit = absurd fit
same_length (kind ∷ kinds) [] fit = absurd fit
same_length (kind ∷ kinds) (n ∷ ns) fit = ap suc (same_length kinds ns fit.1)

-- no instruction has more than three operands
pub three_kinds : (m : Mnemonic) → nat_le (length (row_of m).kinds) 3 ≡ true
three_kinds m = grind (arith, nat_tests)

three_values : (vs : List ℕ) → length vs ≤ 3 → take (length vs) (get_or vs 0 0 ∷ get_or vs 1 0 ∷ get_or vs 2 0 ∷ []) ≡ vs
three_values [] l = refl
three_values (x ∷ []) l = refl
three_values (x ∷ y ∷ []) l = refl
three_values (x ∷ y ∷ z ∷ []) l = refl
three_values (x ∷ y ∷ z ∷ w ∷ vs) l = absurd (omega arith)

-- the values of an instruction's operands, of the three that are asked for
pub values_are : (m : Mnemonic) (vs : List ℕ) (x y z : ℕ) → FitPlaces (row_of m).kinds vs → x ≡ get_or vs 0 0 → y ≡ get_or vs 1 0 → z ≡ get_or vs 2 0 → take (length (row_of m).kinds) (x ∷ y ∷ z ∷ []) ≡ vs
values_are m vs x y z fit ex ey ez = grind (arith, nat_tests, same_length, leb-true, three_kinds, three_values)

module _ (value : Operand → ℕ) where
  pub code_push : (lines : List Line) (line : Line) (code more : List ℕ) → IsCode value lines code → IsLineCode value (statement_on line) more → IsCode value (lines ++ line ∷ []) (code ++ more)
  code_push [] line code more is has = (more, [], ap (λ c. c ++ more) is ∙ sym (append-nil more), has, refl)
  code_push (l ∷ lines) line code more is has =
      (is.0, is.1 ++ more, ap (λ c. c ++ more) is.2 ∙ append_assoc is.0 is.1 more, is.3, code_push lines line is.1 more is.4 has)

pub each_seen : {A B : Type 0} (P : B → Type 0) (f : A → B) (xs : List A) (i : ℕ) (x : A) → AllByRecursion P (map f xs) → i < length xs → x ≡ get_or xs i x → P (f x)
each_seen P f [] i x all l is = absurd (omega arith)
each_seen P f (y ∷ ys) zero x all l is = subst (λ z. P (f z)) (sym is) all.0
each_seen P f (y ∷ ys) (suc i) x all l is = each_seen P f ys i x all.1 (omega arith) is

-- the value at a place
pub value_seen : {A B : Type 0} (value : B → ℕ) (f : A → B) (xs : List A) (i : ℕ) (d : A) → i < length xs → value (f (get_or xs i d)) ≡ get_or (map value (map f xs)) i 0
value_seen value f [] i d l = absurd (omega arith)
value_seen value f (y ∷ ys) zero d l = refl
value_seen value f (y ∷ ys) (suc i) d l = value_seen value f ys i d (omega arith)

pub each_at : {A B : Type 0} (P : B → Type 0) (f : A → B) (xs : List A) (i : ℕ) (d : A) → AllByRecursion P (map f xs) → i < length xs → P (f (get_or xs i d))
each_at P f [] i d all l = absurd (omega arith)
each_at P f (y ∷ ys) zero d all l = all.0
each_at P f (y ∷ ys) (suc i) d all l = each_at P f ys i d all.1 (omega arith)

-- values that fit their places name registers
pub registers_fit : (i : Instr) → FitPlaces (row_of (written i).mnemonic).kinds (written i).values → HasRegisters i
registers_fit i fit = grind (arith, nat_tests)
