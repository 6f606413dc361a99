-- In a source without a fault every value fits its place.
use Rattle.dk_asm.proofs.Imports.{◌≡◌, ◌∙◌, sym, ap, refl, subst, ◌<◌, ◌≤◌, ◌+◌, ◌-◌, ℕ, zero, suc, Bool, true, false, cond, List, [], ◌∷◌, ◌++◌, length, take, drop, map, arith, Option, Some, None, ⊎_elim, BTreeMap, ◌&&◌, ◌||◌, ◌==◌, nat_le, slice_get, unwrap_or, Bor, list_any, AllByRecursion, option_map, option_map_or, option_and_then, leb-true, cases_lt, length-map, length-slice_split, MAX_INSTRUCTIONS, MAX_SOURCE_BYTES, Kind, Place, LineFault, Operand, up_to, negative, IsOperand, IsLabel, Statement, AreOperands, IsNamed, IsStatement, IsStatementPart, read_line, Line, lines_of, without_empty_end, AreRead, label_value, has_label, has_instruction, instructions, is_outside, is_form, is_range, is_twice, has_unknown, is_short, is_one_too_many, statement_on, operands_of, cause_of, value_of, IsStatementCode, IsLineCode, IsCode, Outcome, Assembled, ArePlaces, IsFirstFault, HasNoFault, FitsPlace, FitPlaces, FitsStatement, FitsPart, FitsLine, value_by, nat_tests}
use Rattle.std.proofs.lemmas.List.Sums.{count_by-le-length}
use Rattle.dk_asm.proofs.Booleans.{both_left}
use Rattle.dk_asm.proofs.LineReading.{line_was}
use Rattle.dk_asm.proofs.Causes.{value_is, first_of}
use Rattle.dk_asm.proofs.Outcomes.{are_read}

-- the line of an instruction's number
number_at : (source : List Line) (n : ℕ) → n < instructions source → (i : ℕ) × (line : Line) × (slice_get source i ≡ Some line) × (has_instruction line ≡ true) × (instructions (take i source) ≡ n)
number_at [] n l = absurd (omega arith)
number_at (line ∷ lines) n l = go (has_instruction line) refl n l (number_at lines)
  where
    At : ℕ → Type 0
    At n = (i : ℕ) × (found : Line) × (slice_get (line ∷ lines) i ≡ Some found) × (has_instruction found ≡ true) × (instructions (take i (line ∷ lines)) ≡ n)

    go : (t : Bool) → has_instruction line ≡ t → (n : ℕ) → n < cond t 1 0 + instructions lines
        → ((m : ℕ) → m < instructions lines → (i : ℕ) × (found : Line) × (slice_get lines i ≡ Some found) × (has_instruction found ≡ true) × (instructions (take i lines) ≡ m)) → At n
    go true is zero l further = (0, line, refl, is, refl)
    go true is (suc m) l further =
        let rest = further m (omega arith) in
        (suc rest.0, rest.1, rest.2, rest.3, ap (λ t. cond t 1 0 + instructions (take rest.0 lines)) is ∙ omega (arith, rest.4))
    go false is n l further =
        let rest = further n (omega arith) in
        (suc rest.0, rest.1, rest.2, rest.3, ap (λ t. cond t 1 0 + instructions (take rest.0 lines)) is ∙ omega (arith, rest.4))

first_some : (form range twice unknown short : Bool) → first_of form range twice unknown short true ≡ None → ⊥
first_some form range twice unknown short h = grind (arith, nat_tests)

no_form : (form range twice unknown short many : Bool) → first_of form range twice unknown short many ≡ None → (form ≡ false) × (range ≡ false)
no_form form range twice unknown short many h = grind (arith, nat_tests)

cause_here : (source : List Line) (i : ℕ) (line : Line) → slice_get source i ≡ Some line → HasNoFault source → cause_of (take i source) line (drop (suc i) source) ≡ None
cause_here source i line at none = ap (option_and_then (λ l. cause_of (take i source) l (drop (suc i) source))) (sym at) ∙ none i

-- a source without a fault has at most 16,384 instructions
pub few : (source : List Line) → HasNoFault source → instructions source ≤ MAX_INSTRUCTIONS
few source none = ⊎_elim (λ below. absurd (many (number_at source MAX_INSTRUCTIONS below))) (λ past. past) (cases_lt MAX_INSTRUCTIONS (instructions source))
  where
    many : (i : ℕ) × (line : Line) × (slice_get source i ≡ Some line) × (has_instruction line ≡ true) × (instructions (take i source) ≡ MAX_INSTRUCTIONS) → ⊥
    many at =
        let i = at.0 in
        let line = at.1 in
        let is_many : (has_instruction at.1 && (instructions (take at.0 source) == MAX_INSTRUCTIONS)) ≡ true = ap (λ t. t && (instructions (take at.0 source) == MAX_INSTRUCTIONS)) at.3 ∙ ap (λ n. n == MAX_INSTRUCTIONS) at.4 in
        let cause = cause_here source at.0 at.1 at.2 none in
        first_some (is_form at.1) (is_range at.1) (is_twice (take at.0 source) at.1) (has_unknown (take at.0 source ++ at.1 ∷ drop (suc at.0) source) at.1) (is_short at.1 (drop (suc at.0) source))
        (ap
        (λ t. first_of (is_form at.1) (is_range at.1) (is_twice (take at.0 source) at.1) (has_unknown (take at.0 source ++ at.1 ∷ drop (suc at.0) source) at.1) (is_short at.1 (drop (suc at.0) source)) t) (sym is_many)
        ∙ cause)

value_within : (source : List Line) (name : List ℕ) → unwrap_or (label_value source name) 0 ≤ instructions source
value_within [] name = omega arith
value_within (line ∷ lines) name = go (has_label name line) (label_value lines name) (value_within lines name)
  where
    n : ℕ
    n = cond (has_instruction line) 1 0

    go : (t : Bool) (o : Option ℕ) → unwrap_or o 0 ≤ instructions lines → unwrap_or (cond t (Some 0) (option_map (λ v. n + v) o)) 0 ≤ n + instructions lines
    go true o rest = omega arith
    go false None rest = omega arith
    go false (Some v) rest = omega (arith, rest)

-- the values of operands that aren't out of their ranges
module _ (source : List Line) (within : instructions source ≤ MAX_INSTRUCTIONS) where
  up_to_fits : (limit n : ℕ) (o : Operand) → o ≡ up_to limit n → is_outside o ≡ false → value_of source o ≤ limit
  up_to_fits limit n o is inside = go (nat_le n limit) refl is
    where
      go : (t : Bool) → nat_le n limit ≡ t → o ≡ cond t (Operand.value n) Operand.outside → value_of source o ≤ limit
      go true le is = subst (λ p. value_of source p ≤ limit) (sym is) (leb-true n limit le)
      go false le is = let outside : true ≡ false = ap is_outside (sym is) ∙ inside in absurd (cc)

  label_fits : (word : List ℕ) (o : Operand) → IsLabel word o → value_of source o < 65536
  label_fits word o is = let value = value_within source word in subst (λ p. value_of source p < 65536) (sym is.1) (omega (arith, value))

  negative_fits : (n : ℕ) (o : Operand) → o ≡ negative n → is_outside o ≡ false → value_of source o < 65536
  negative_fits n o is inside = go (nat_le 1 n && nat_le n 32768) refl is
    where
      some : (nat_le 1 n && nat_le n 32768) ≡ true → 65536 - n < 65536
      some le = let first : 1 ≤ n = leb-true 1 n (both_left (nat_le 1 n) (nat_le n 32768) le) in omega arith

      go : (t : Bool) → (nat_le 1 n && nat_le n 32768) ≡ t → o ≡ cond t (Operand.value (65536 - n)) Operand.outside → value_of source o < 65536
      go true le is = subst (λ p. value_of source p < 65536) (sym is) (some le)
      go false le is = let outside : true ≡ false = ap is_outside (sym is) ∙ inside in absurd (cc)

  operand_fits : (kind : Kind) (word : List ℕ) (o : Operand) → IsOperand kind word o → is_outside o ≡ false → FitsPlace kind (value_of source o)
  operand_fits kind word o is inside = grind (arith, nat_tests, up_to_fits, label_fits, negative_fits)

  neither : (a b : Bool) → (a || b) ≡ false → (a ≡ false) × (b ≡ false)
  neither a b h = grind (arith, nat_tests)

  operands_fit : (text : List ℕ) (kind : Kind) (kinds : List Kind) (os : List Operand) → AreOperands text (kind ∷ kinds) os → list_any is_outside os ≡ false → FitPlaces (kind ∷ kinds) (map (value_of source) os)
  operands_fit text kind [] [] are inside = absurd are
  operands_fit text kind [] (o ∷ []) are inside = grind (arith, nat_tests, operand_fits, neither)
  operands_fit text kind [] (o ∷ p ∷ os) are inside = absurd are
  operands_fit text kind (next ∷ kinds) [] are inside = absurd are
  operands_fit text kind (next ∷ kinds) (o ∷ os) are inside = grind (arith, nat_tests, operand_fits, neither, operands_fit are.1 next kinds os)

  named_fits : (text name : List ℕ) (kinds : List Kind) (os : List Operand) → IsNamed text name kinds os → list_any is_outside os ≡ false → FitPlaces kinds (map (value_of source) os)
  named_fits text name kinds os is inside = grind (arith, nat_tests, operands_fit)

  statement_fits : (text : List ℕ) (s : Statement) → IsStatement text s → list_any is_outside (operands_of s) ≡ false → FitsStatement (value_of source) s
  statement_fits text s is inside = grind (arith, nat_tests, named_fits)

  part_fits : (text : List ℕ) (s : Option Statement) → IsStatementPart text s → list_any is_outside (option_map_or operands_of s []) ≡ false → FitsPart (value_of source) s
  part_fits text s is inside = grind (arith, nat_tests, statement_fits)

  line_fits : (bytes : List ℕ) (line : Line) → read_line bytes ≡ line → is_range line ≡ false → FitsLine (value_of source) line
  line_fits bytes None read inside = tt
  line_fits bytes (Some p) read inside = let is = line_was bytes p read in part_fits is.statement p.statement is.statement_part inside

read_at : (lines : List (List ℕ)) (i : ℕ) (line : Line) → slice_get (map read_line lines) i ≡ Some line → (bytes : List ℕ) × (read_line bytes ≡ line)
read_at [] i line at = absurd (cc)
read_at (bytes ∷ lines) zero line at = (bytes, cc)
read_at (bytes ∷ lines) (suc i) line at = read_at lines i line at

all_from : {A : Type 0} (P : A → Type 0) (xs : List A) → ((i : ℕ) (x : A) → slice_get xs i ≡ Some x → P x) → AllByRecursion P xs
all_from P [] each = tt
all_from P (x ∷ xs) each = (each 0 x refl, all_from P xs (λ i y at. each (suc i) y at))

lines_fit : (lines : List (List ℕ)) → HasNoFault (map read_line lines) → AllByRecursion (FitsLine (value_of (map read_line lines))) (map read_line lines)
lines_fit lines none = all_from (FitsLine (value_of (map read_line lines))) (map read_line lines) each
  where
    source : List Line
    source = map read_line lines

    each : (i : ℕ) (line : Line) → slice_get source i ≡ Some line → FitsLine (value_of source) line
    each i line at =
        let bytes = read_at lines i line at in
        let inside =
        no_form (is_form line) (is_range line) (is_twice (take i source) line) (has_unknown (take i source ++ line ∷ drop (suc i) source) line) (is_short line (drop (suc i) source)) (is_one_too_many (take i source) line)
        (cause_here source i line at none) in
        line_fits source (few source none) bytes.0 line bytes.1 inside.1

-- the values that are told from the places
module _ (places : BTreeMap (Bor (List ℕ)) Place) (source : List Line) (are : ArePlaces places source) where
  mapped : (o : Option Place) → option_map_or (λ p. p.value) o 0 ≡ unwrap_or (option_map (λ p. p.value) o) 0
  mapped o = grind (arith, nat_tests)

  same_value : (o : Operand) → value_by places o ≡ value_of source o
  same_value o = grind (arith, nat_tests, mapped, value_is)

  same_values : (os : List Operand) → map (value_by places) os ≡ map (value_of source) os
  same_values [] = refl
  same_values (o ∷ os) = ap (λ n. n ∷ map (value_by places) os) (same_value o) ∙ ap (λ ns. value_of source o ∷ ns) (same_values os)

  same_statement : (s : Statement) (code : List ℕ) → IsStatementCode (value_by places) s code → IsStatementCode (value_of source) s code
  same_statement s code is = grind (arith, nat_tests, same_values)

  same_line : (s : Option Statement) (code : List ℕ) → IsLineCode (value_by places) s code → IsLineCode (value_of source) s code
  same_line s code is = grind (arith, nat_tests, same_statement)

  pub same_code : (lines : List Line) (code : List ℕ) → IsCode (value_by places) lines code → IsCode (value_of source) lines code
  same_code [] code is = is
  same_code (line ∷ lines) code is = (is.0, is.1, is.2, same_line (statement_on line) is.0 is.3, same_code lines is.1 is.4)

  same_fit : (s : Statement) → FitsStatement (value_of source) s → FitsStatement (value_by places) s
  same_fit s fits = grind (arith, nat_tests, same_values)

  same_part : (s : Option Statement) → FitsPart (value_of source) s → FitsPart (value_by places) s
  same_part s fits = grind (arith, nat_tests, same_fit)

  same_fits : (lines : List Line) → AllByRecursion (FitsLine (value_of source)) lines → AllByRecursion (FitsLine (value_by places)) lines
  same_fits [] fits = tt
  same_fits (line ∷ lines) fits = (same_part (statement_on line) fits.0, same_fits lines fits.1)

pub all_fit : (places : BTreeMap (Bor (List ℕ)) Place) (source : List Line) (lines : List (List ℕ)) → ArePlaces places source → source ≡ map read_line lines → HasNoFault source
    → AllByRecursion (FitsLine (value_by places)) source
all_fit places source lines are is none =
    same_fits places source are source (subst (λ s. AllByRecursion (FitsLine (value_of s)) s) (sym is) (lines_fit lines (subst HasNoFault is none)))

-- how many lines a text has
shorter : (parts : List (List ℕ)) → length (without_empty_end parts) ≤ length parts
shorter [] = omega arith
shorter (line ∷ []) = go (length line == 0)
  where
    go : (t : Bool) → length (cond t [] (line ∷ [])) ≤ 1
    go true = omega arith
    go false = omega arith
shorter (line ∷ next ∷ lines) = let rest = shorter (next ∷ lines) in omega (arith, rest)

pub count_lines : (text : List ℕ) → length (lines_of text) ≤ length text + 1
count_lines text = grind (arith, nat_tests, shorter, length-slice_split, count_by-le-length)

-- a source that was read gives its code, or its first fault
pub gives_program : (text : List ℕ) (places : BTreeMap (Bor (List ℕ)) Place) (source : List Line) (code : List ℕ) → source ≡ map read_line (lines_of text) → ArePlaces places source → HasNoFault source
    → IsCode (value_by places) source code → Assembled text (Outcome.program code)
gives_program text places source code is are none has = record {
  source = source;
  read = subst (AreRead (lines_of text)) (sym is) (are_read (lines_of text));
  gives = (none, same_code places source are source code has);
}

pub gives_fault : (text : List ℕ) (source : List Line) (i : ℕ) (cause : LineFault) → source ≡ map read_line (lines_of text) → IsFirstFault source i cause → Assembled text (Outcome.fault (i + 1) cause)
gives_fault text source i cause is first = grind (arith, nat_tests, are_read)

pub count_read : {A : Type 0} (seen : A → Line) (text : List ℕ) (items : List A) → map seen items ≡ map read_line (lines_of text) → length text ≤ MAX_SOURCE_BYTES → length items ≤ MAX_SOURCE_BYTES + 1
count_read seen text items is short = grind (arith, nat_tests, count_lines, length-map)
