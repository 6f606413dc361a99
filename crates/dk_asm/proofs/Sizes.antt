-- How long a program and a listing can be.
use Rattle.dk_asm.proofs.Imports.{◌≡◌, ◌∙◌, ap, refl, ◌<◌, ◌≤◌, ◌+◌, ◌*◌, ℕ, cond, List, [], ◌∷◌, ◌++◌, length, map, arith, Option, Some, None, length-append, decimal, flat_map, is_some, join_with_byte, AllByRecursion, length-decimal-le, length-map, MAX_PROGRAM_BYTES, MAX_SOURCE_BYTES, Instr, instruction_of, bytes_of, Kind, Mnemonic, row_of, written, Operand, Statement, IsStatement, IsStatementPart, read_line, FitsPlace, FitPlaces, Line, statement_on, has_instruction, instructions, IsStatementCode, IsLineCode, IsCode, Outcome, Assembled, operand_text, operand_texts, named, text_of, group_text, listing, nat_tests}
use Rattle.dk_asm.proofs.LineReading.{line_was}
use Rattle.dk_asm.proofs.Outcomes.{were_read}
use Rattle.dk_asm.proofs.Programs.{few}
use Rattle.dk_asm.proofs.ListedLines.{AreBytes, IsSome4, is_group}
use Rattle.dk_asm.proofs.Law.{are_groups, each_group, count_groups}

four_bytes : (i : Instr) → length (bytes_of i) ≡ 4
four_bytes i = grind (arith, nat_tests)

-- a program has at most four bytes for each instruction
module _ (value : Operand → ℕ) where
  statement_size : (text : List ℕ) (s : Statement) (code : List ℕ) → IsStatement text s → IsStatementCode value s code → length code ≤ 4
  statement_size text s code is has = grind (arith, nat_tests, four_bytes, length-map)

  part_size : (text : List ℕ) (s : Option Statement) (code : List ℕ) → IsStatementPart text s → IsLineCode value s code → length code ≤ 4 * cond (is_some s) 1 0
  part_size text s code is has = grind (arith, nat_tests, statement_size)

  line_size : (bytes : List ℕ) (line : Line) (code : List ℕ) → read_line bytes ≡ line → IsLineCode value (statement_on line) code → length code ≤ 4 * cond (has_instruction line) 1 0
  line_size bytes None code read has = let none = ap length has in omega (arith, none)
  line_size bytes (Some p) code read has = let is = line_was bytes p read in part_size is.statement p.statement code is.statement_part has

  code_size : (lines : List (List ℕ)) (code : List ℕ) → IsCode value (map read_line lines) code → length code ≤ 4 * instructions (map read_line lines)
  code_size [] code is = let none = ap length is in omega (arith, none)
  code_size (bytes ∷ lines) code is =
      let first = line_size bytes (read_line bytes) is.0 refl is.3 in
      let rest = code_size lines is.1 is.4 in
      let both = ap length is.2 ∙ length-append is.0 is.1 in
      omega (arith, first, rest, both)

pub program_size : (text code : List ℕ) → Assembled text (Outcome.program code) → length code ≤ MAX_PROGRAM_BYTES
program_size text code is = grind (arith, nat_tests, were_read, code_size, few)

-- a listing has at most 64 bytes for each line
abbrev Short : ℕ → List (List ℕ) → Type 0
Short most ts = AllByRecursion (λ t. length t ≤ most) ts

joined_size : (most : ℕ) (ts : List (List ℕ)) → Short most ts → length (join_with_byte 44 ts) ≤ length ts * (most + 1)
joined_size most [] short = omega arith
joined_size most (t ∷ []) short = let first = short.0 in omega (arith, first)
joined_size most (t ∷ u ∷ ts) short =
    let first = short.0 in
    let rest = joined_size most (u ∷ ts) short.1 in
    let both = length-append t (44 ∷ join_with_byte 44 (u ∷ ts)) in
    grind arith

named_size : (name : List ℕ) (ts : List (List ℕ)) → length name ≤ 5 → Short 6 ts → length (named name ts) ≤ 6 + length ts * 7
named_size name [] few short = omega arith
named_size name (t ∷ ts) few short =
    let rest = joined_size 6 (t ∷ ts) short in
    let both = length-append name (32 ∷ join_with_byte 44 (t ∷ ts)) in
    omega (arith, rest, both)

decimal_size : (n : ℕ) → n < 65536 → length (decimal n) ≤ 5
decimal_size n small = length-decimal-le 5 n (omega arith) (omega arith) (omega arith)

operand_size : (kind : Kind) (n : ℕ) → FitsPlace kind n → length (operand_text kind n) ≤ 6
operand_size kind n fits = grind (arith, nat_tests, decimal_size)

operands_size : (kinds : List Kind) (ns : List ℕ) → FitPlaces kinds ns → Short 6 (operand_texts kinds ns)
operands_size [] ns fit = tt
operands_size (kind ∷ kinds) [] fit = tt
operands_size (kind ∷ kinds) (n ∷ ns) fit = (operand_size kind n fit.0, operands_size kinds ns fit.1)

numbers_size : (bs : List ℕ) → AreBytes bs → Short 6 (map decimal bs)
numbers_size [] bytes = tt
numbers_size (b ∷ bs) bytes = (let low = bytes.0 in let size = decimal_size b (omega (arith, low)) in omega (arith, size), numbers_size bs bytes.1)

count_texts : (kinds : List Kind) (ns : List ℕ) → length (operand_texts kinds ns) ≤ length kinds
count_texts [] ns = omega arith
count_texts (kind ∷ kinds) [] = omega arith
count_texts (kind ∷ kinds) (n ∷ ns) = let rest = count_texts kinds ns in omega (arith, rest)

row_size : (m : Mnemonic) → (length (row_of m).name ≤ 5) × (length (row_of m).kinds ≤ 3)
row_size m = grind (arith, nat_tests)

text_size : (o : Option Instr) (group : List ℕ) → IsSome4 group → instruction_of group ≡ o → length (text_of o group) ≤ 34
text_size None group g is = grind (arith, nat_tests, named_size, numbers_size, length-map, few)
text_size (Some i) group g is =
    let row = row_size (written i).mnemonic in
    let size =
    named_size (row_of (written i).mnemonic).name (operand_texts (row_of (written i).mnemonic).kinds (written i).values) row.0
    (operands_size (row_of (written i).mnemonic).kinds (written i).values (is_group group i g.bytes is).fits) in
    let count = count_texts (row_of (written i).mnemonic).kinds (written i).values in
    let most = row.1 in
    omega (arith, size, count, most)

lines_size : (gs : List (List ℕ)) → AllByRecursion IsSome4 gs → length (flat_map (λ g. group_text g ++ 10 ∷ []) gs) ≤ 35 * length gs
lines_size [] each = omega arith
lines_size (g ∷ gs) each =
    let first = text_size (instruction_of g) g each.0 refl in
    let rest = lines_size gs each.1 in
    let both = length-append (group_text g ++ 10 ∷ []) (flat_map (λ h. group_text h ++ 10 ∷ []) gs) in
    let line = length-append (group_text g) (10 ∷ []) in
    omega (arith, first, rest, both, line)

pub listing_size : (code : List ℕ) → length code ≤ MAX_PROGRAM_BYTES → AreBytes code → length (listing code) ≤ MAX_SOURCE_BYTES
listing_size code short bytes = grind (arith, nat_tests, lines_size, each_group, are_groups, count_groups)
