-- A listing is assembled to the code that it lists.
use Rattle.dk_asm.proofs.Imports.{◌≡◌, ◌∙◌, sym, ap, refl, subst, ◌<◌, ◌≤◌, ◌+◌, ◌*◌, ℕ, zero, suc, Bool, true, false, List, [], ◌∷◌, ◌++◌, length, get_or, map, take, drop, arith, inl, inr, Option, Some, None, ◌&&◌, ◌==◌, ◌⊎◌, nat_lt, slice_get, flat_map, list_all, list_any, AllByRecursion, option_map, option_and_then, nat_tests, length-map, MAX_PROGRAM_BYTES, MAX_INSTRUCTIONS, Instr, instruction_of, written, Operand, Line, AreRead, instructions, is_unknown, is_outside, is_part, cause_of, cause_at, value_of, IsStatementCode, IsCode, Outcome, Assembled, operands_of, groups, group_text, listing}
use Rattle.dk_asm.proofs.TextLines.{is_no_feed, joined_lines}
use Rattle.dk_asm.proofs.ListedLines.{AreBytes, IsSome4, said, parts_of, is_group, says, group_no_feed}

-- a group as it follows from the code: one to four bytes, and four where another follows
abbrev pub AreGroups : List (List ℕ) → Type 0
AreGroups [] = Unit {0}
AreGroups (g ∷ []) = IsSome4 g
AreGroups (g ∷ h ∷ gs) = IsSome4 g × (length g ≡ 4) × AreGroups (h ∷ gs)

before_groups : (g : List ℕ) (gs : List (List ℕ)) → IsSome4 g → length g ≡ 4 → AreGroups gs → AreGroups (g ∷ gs)
before_groups g gs is four rest = grind (arith, nat_tests)

pub are_groups : (code : List ℕ) → AreBytes code → AreGroups (groups code)
are_groups [] bytes = tt
are_groups (x ∷ []) bytes = grind (arith, nat_tests, before_groups)
are_groups (x ∷ y ∷ []) bytes = grind (arith, nat_tests, before_groups)
are_groups (x ∷ y ∷ z ∷ []) bytes = grind (arith, nat_tests, before_groups)
are_groups (x ∷ y ∷ z ∷ w ∷ code) bytes = grind (arith, nat_tests, before_groups, are_groups code)

pub each_group : (gs : List (List ℕ)) → AreGroups gs → AllByRecursion IsSome4 gs
each_group [] are = tt
each_group (g ∷ []) are = (are, tt)
each_group (g ∷ h ∷ gs) are = (are.0, each_group (h ∷ gs) are.2)

pub count_groups : (code : List ℕ) → 4 * length (groups code) ≤ length code + 3
count_groups [] = omega arith
count_groups (x ∷ []) = omega arith
count_groups (x ∷ y ∷ []) = omega arith
count_groups (x ∷ y ∷ z ∷ []) = omega arith
count_groups (x ∷ y ∷ z ∷ w ∷ code) = let rest = count_groups code in omega (arith, rest)

-- the groups are the code
joined_groups : (code : List ℕ) → flat_map (λ g. g) (groups code) ≡ code
joined_groups [] = refl
joined_groups (x ∷ []) = refl
joined_groups (x ∷ y ∷ []) = refl
joined_groups (x ∷ y ∷ z ∷ []) = refl
joined_groups (x ∷ y ∷ z ∷ w ∷ code) = ap (λ rest. x ∷ y ∷ z ∷ w ∷ rest) (joined_groups code)

abbrev line_of : List ℕ → Line
line_of group = Some (parts_of group)

are_read : (gs : List (List ℕ)) → AllByRecursion IsSome4 gs → AreRead (map group_text gs) (map line_of gs)
are_read [] each = tt
are_read (g ∷ gs) each = (says g each.0, are_read gs each.1)

no_feeds_in : (gs : List (List ℕ)) → AllByRecursion IsSome4 gs → AllByRecursion (λ g. list_all is_no_feed (group_text g) ≡ true) gs
no_feeds_in [] each = tt
no_feeds_in (g ∷ gs) each = (group_no_feed g each.0, no_feeds_in gs each.1)

-- no line is at fault
none_outside : (ns : List ℕ) → list_any is_outside (map Operand.value ns) ≡ false
none_outside [] = refl
none_outside (n ∷ ns) = none_outside ns

none_unknown : (source : List Line) (ns : List ℕ) → list_any (is_unknown source) (map Operand.value ns) ≡ false
none_unknown source [] = refl
none_unknown source (n ∷ ns) = none_unknown source ns

within_ranges : (o : Option Instr) (g : List ℕ) → list_any is_outside (operands_of (said o g)) ≡ false
within_ranges o g = grind (arith, nat_tests, none_outside)

all_known : (source : List Line) (o : Option Instr) (g : List ℕ) → list_any (is_unknown source) (operands_of (said o g)) ≡ false
all_known source None g = none_unknown source g
all_known source (Some i) g = none_unknown source (written i).values

no_part : (o : Option Instr) (g : List ℕ) → length g ≡ 4 → is_part (said o g) ≡ false
no_part o g four = grind (arith, nat_tests, length-map)

few_instructions : (gs : List (List ℕ)) → instructions (map line_of gs) ≡ length gs
few_instructions [] = refl
few_instructions (g ∷ gs) = let rest = few_instructions gs in omega (arith, rest)

-- a group is whole, or the last
whole_or_last : (gs : List (List ℕ)) (i : ℕ) (g : List ℕ) → AreGroups gs → slice_get gs i ≡ Some g → (length g ≡ 4) ⊎ (drop (suc i) gs ≡ [])
whole_or_last [] i g are at = absurd (cc)
whole_or_last (h ∷ []) zero g are at = inr refl
whole_or_last (h ∷ []) (suc i) g are at = absurd (cc)
whole_or_last (h ∷ k ∷ gs) zero g are at = let same : h ≡ g = cc in inl (ap length (sym same) ∙ are.1)
whole_or_last (h ∷ k ∷ gs) (suc i) g are at = whole_or_last (k ∷ gs) i g are.2 at

short_part : (o : Option Instr) (g : List ℕ) (rest : List Line) → (length g ≡ 4) ⊎ (rest ≡ []) → (is_part (said o g) && nat_lt 0 (instructions rest)) ≡ false
short_part o g rest (inl four) = ap (λ b. b && nat_lt 0 (instructions rest)) (no_part o g four)
short_part o g rest (inr none) = ap (λ ls. is_part (said o g) && nat_lt 0 (instructions ls)) none ∙ and_false (is_part (said o g))
  where
    and_false : (b : Bool) → (b && false) ≡ false
    and_false true = refl
    and_false false = refl

drop_lines : (gs : List (List ℕ)) (i : ℕ) → drop i (map line_of gs) ≡ map line_of (drop i gs)
drop_lines gs zero = refl
drop_lines [] (suc i) = refl
drop_lines (g ∷ gs) (suc i) = drop_lines gs i

take_lines : (gs : List (List ℕ)) (i : ℕ) → take i (map line_of gs) ≡ map line_of (take i gs)
take_lines gs zero = refl
take_lines [] (suc i) = refl
take_lines (g ∷ gs) (suc i) = ap (λ ls. line_of g ∷ ls) (take_lines gs i)

line_at : (gs : List (List ℕ)) (i : ℕ) → slice_get (map line_of gs) i ≡ option_map line_of (slice_get gs i)
line_at [] i = refl
line_at (g ∷ gs) zero = refl
line_at (g ∷ gs) (suc i) = line_at gs i

place_below : (gs : List (List ℕ)) (i : ℕ) (g : List ℕ) → slice_get gs i ≡ Some g → i < length gs
place_below [] i g at = absurd (cc)
place_below (h ∷ gs) zero g at = omega arith
place_below (h ∷ gs) (suc i) g at = let rest = place_below gs i g at in omega (arith, rest)

few_before : (gs : List (List ℕ)) (i : ℕ) → length (take i gs) ≤ i
few_before gs zero = omega arith
few_before [] (suc i) = omega arith
few_before (g ∷ gs) (suc i) = let rest = few_before gs i in omega (arith, rest)

not_many : (n : ℕ) → n < MAX_INSTRUCTIONS → (n == MAX_INSTRUCTIONS) ≡ false
not_many n low = grind (arith, nat_tests)

module _ (gs : List (List ℕ)) (are : AreGroups gs) (few : length gs ≤ MAX_INSTRUCTIONS) where
  no_cause : (i : ℕ) (g : List ℕ) → slice_get gs i ≡ Some g → cause_of (take i (map line_of gs)) (line_of g) (drop (suc i) (map line_of gs)) ≡ None
  no_cause i g at =
      let rest : (length g ≡ 4) ⊎ (drop (suc i) (map line_of gs) ≡ []) = later (whole_or_last gs i g are at) in
      let known = all_known (take i (map line_of gs) ++ line_of g ∷ drop (suc i) (map line_of gs)) (instruction_of g) g in
      let short = short_part (instruction_of g) g (drop (suc i) (map line_of gs)) rest in
      let many : (instructions (take i (map line_of gs)) == MAX_INSTRUCTIONS) ≡ false = not_many (instructions (take i (map line_of gs))) below in
      rw (within_ranges (instruction_of g) g, known, short, many) refl
    where
      later : (length g ≡ 4) ⊎ (drop (suc i) gs ≡ []) → (length g ≡ 4) ⊎ (drop (suc i) (map line_of gs) ≡ [])
      later (inl four) = inl four
      later (inr none) = inr (drop_lines gs (suc i) ∙ ap (map line_of) none)

      below : instructions (take i (map line_of gs)) < MAX_INSTRUCTIONS
      below =
          let count = ap instructions (take_lines gs i) ∙ few_instructions (take i gs) in
          let place = place_below gs i g at in
          let front = few_before gs i in
          omega (arith, count, place, front)

  no_fault : (i : ℕ) → cause_at (map line_of gs) i ≡ None
  no_fault i = ap (λ l. option_and_then (λ line. cause_of (take i (map line_of gs)) line (drop (suc i) (map line_of gs))) l) (line_at gs i) ∙ go (slice_get gs i) refl
    where
      go : (o : Option (List ℕ)) → slice_get gs i ≡ o → option_and_then (λ line. cause_of (take i (map line_of gs)) line (drop (suc i) (map line_of gs))) (option_map line_of o) ≡ None
      go None at = refl
      go (Some g) at = no_cause i g at

values_back : (source : List Line) (ns : List ℕ) → map (value_of source) (map Operand.value ns) ≡ ns
values_back source [] = refl
values_back source (n ∷ ns) = ap (λ ms. n ∷ ms) (values_back source ns)

is_code_of : (source : List Line) (o : Option Instr) (g : List ℕ) → IsSome4 g → instruction_of g ≡ o → IsStatementCode (value_of source) (said o g) g
is_code_of source o g is at = grind (arith, nat_tests, values_back, is_group)

is_code : (source : List Line) (gs : List (List ℕ)) → AllByRecursion IsSome4 gs → IsCode (value_of source) (map line_of gs) (flat_map (λ g. g) gs)
is_code source [] each = refl
is_code source (g ∷ gs) each = (g, flat_map (λ h. h) gs, refl, is_code_of source (instruction_of g) g each.0 refl, is_code source gs each.1)

pub listed_back : (code : List ℕ) → length code ≤ MAX_PROGRAM_BYTES → AreBytes code → Assembled (listing code) (Outcome.program code)
listed_back code short bytes =
    let gs = groups code in
    let are = are_groups code bytes in
    let each = each_group gs are in
    let count = count_groups code in
    let few : length (groups code) ≤ MAX_INSTRUCTIONS = omega (arith, count) in
    record {
      source = map line_of gs;
      read = subst (λ ls. AreRead ls (map line_of gs)) (sym (joined_lines group_text gs (no_feeds_in gs each))) (are_read gs each);
      gives = (no_fault gs are few, subst (λ bytes. IsCode (value_of (map line_of gs)) (map line_of gs) bytes) (joined_groups code) (is_code (map line_of gs) gs each));
    }

pub are_bytes : (bs : List ℕ) → ((i : ℕ) → get_or bs i 0 < 256) → AreBytes bs
are_bytes [] fit = tt
are_bytes (b ∷ bs) fit = (fit 0, are_bytes bs (λ i. fit (suc i)))
