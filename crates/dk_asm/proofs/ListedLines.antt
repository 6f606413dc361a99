-- The line that is listed for a group says that group.
use Rattle.dk_asm.proofs.Imports.{◌≡◌, sym, ap, refl, ◌<◌, ◌≤◌, ℕ, true, cond, List, [], ◌∷◌, length, map, arith, append-nil, inl, Option, Some, None, decimal, codes, join_with_byte, list_all, AllByRecursion, is_ascii_digit, le-leb, nat_tests, Instr, instruction_of, Kind, Mnemonic, row_of, written, FitsPlace, FitPlaces, Operand, up_to, IsOperand, IsNumberUpTo, Statement, Parts, IsPiece, AreOperands, IsNamed, IsStatement, IsLine, operand_text, operand_texts, named, bytes_text, text_of, group_text}
use Rattle.std.proofs.Common.{replicate}
use Rattle.dk_asm.proofs.Booleans.{both, both_left, both_right}
use Rattle.dk_asm.proofs.Numbers.{decimal_digits, decimal_is_number}
use Rattle.dk_asm.proofs.Cuts.{all_both}
use Rattle.dk_asm.proofs.Rows.{IsGroup, group_of}
use Rattle.dk_asm.proofs.TextLines.{is_no_feed}

within : (limit n : ℕ) → n ≤ limit → Operand.value n ≡ up_to limit n
within limit n l = sym (ap (λ b. cond b (Operand.value n) Operand.outside) (le-leb n limit l))

is_number : (limit n : ℕ) → limit < 65536 → n ≤ limit → IsNumberUpTo limit (decimal n) (Operand.value n)
is_number limit n small l = (n, decimal_is_number n (omega arith), within limit n l)

is_operand : (kind : Kind) (n : ℕ) → FitsPlace kind n → IsOperand kind (operand_text kind n) (Operand.value n)
is_operand Kind.Register n fits = (n, fits, refl, refl)
is_operand Kind.Byte n fits = is_number 255 n (omega arith) (omega arith)
is_operand Kind.Word n fits = is_number 65535 n (omega arith) (omega arith)
is_operand Kind.Value n fits = inl (is_number 65535 n (omega arith) (omega arith))
is_operand Kind.Signed n fits = inl (is_number 65535 n (omega arith) (omega arith))

is_piece : (kind : Kind) (n : ℕ) → FitsPlace kind n → IsPiece (operand_text kind n) kind (Operand.value n)
is_piece kind n fits = record {
  before = [];
  word = operand_text kind n;
  after = [];
  whole = sym (append-nil (operand_text kind n));
  blank_before = refl;
  operand = is_operand kind n fits;
  blank_after = refl;
}

are_operands : (kind : Kind) (n : ℕ) (kinds : List Kind) (ns : List ℕ) → FitPlaces (kind ∷ kinds) (n ∷ ns)
    → AreOperands (join_with_byte 44 (operand_texts (kind ∷ kinds) (n ∷ ns))) (kind ∷ kinds) (map Operand.value (n ∷ ns))
are_operands kind n [] [] fit = is_piece kind n fit.0
are_operands kind n [] (m ∷ ns) fit = absurd fit.1
are_operands kind n (next ∷ kinds) [] fit = absurd fit.1
are_operands kind n (next ∷ kinds) (m ∷ ns) fit = grind (arith, nat_tests, is_piece, are_operands next m kinds ns)

is_named : (name : List ℕ) (kinds : List Kind) (ns : List ℕ) → FitPlaces kinds ns → IsNamed (named name (operand_texts kinds ns)) name kinds (map Operand.value ns)
is_named name kinds ns fit = grind (arith, nat_tests, are_operands)

abbrev pub AreBytes : List ℕ → Type 0
AreBytes bs = AllByRecursion (λ b. b < 256) bs

are_numbers : (b : ℕ) (bs : List ℕ) → AreBytes (b ∷ bs)
    → AreOperands (join_with_byte 44 (map decimal (b ∷ bs))) (replicate (length (map Operand.value (b ∷ bs))) Kind.Byte) (map Operand.value (b ∷ bs))
are_numbers b [] bytes = is_piece Kind.Byte b bytes.0
are_numbers b (c ∷ bs) bytes = (decimal b, join_with_byte 44 (map decimal (c ∷ bs)), refl, is_piece Kind.Byte b bytes.0, are_numbers c bs bytes.1)

-- what the line of a group says
abbrev pub said : Option Instr → List ℕ → Statement
said (Some i) group = Statement.instruction (written i).mnemonic (map Operand.value (written i).values)
said None group = Statement.bytes (map Operand.value group)

abbrev pub parts_of : List ℕ → Parts
parts_of group = record { label = None; statement = Some (said (instruction_of group) group) }

-- one to four bytes
pub record IsSome4 (group : List ℕ) : Type 0 where
  pub some : 1 ≤ length group
  pub few : length group ≤ 4
  pub bytes : AreBytes group

says_bytes : (group : List ℕ) → IsSome4 group → IsStatement (bytes_text group) (Statement.bytes (map Operand.value group))
says_bytes [] g = absurd (omega (arith, g.some))
says_bytes (b ∷ []) g = (omega arith, omega arith, (32, decimal b, refl, refl, are_numbers b [] g.bytes))
says_bytes (b ∷ c ∷ []) g = (omega arith, omega arith, (32, join_with_byte 44 (map decimal (b ∷ c ∷ [])), refl, refl, are_numbers b (c ∷ []) g.bytes))
says_bytes (b ∷ c ∷ d ∷ []) g = (omega arith, omega arith, (32, join_with_byte 44 (map decimal (b ∷ c ∷ d ∷ [])), refl, refl, are_numbers b (c ∷ d ∷ []) g.bytes))
says_bytes (b ∷ c ∷ d ∷ e ∷ []) g = (omega arith, omega arith, (32, join_with_byte 44 (map decimal (b ∷ c ∷ d ∷ e ∷ [])), refl, refl, are_numbers b (c ∷ d ∷ e ∷ []) g.bytes))
says_bytes (b ∷ c ∷ d ∷ e ∷ f ∷ bs) g = absurd (omega (arith, g.few))

-- a group that is an instruction is that instruction's bytes
pub is_group : (group : List ℕ) (i : Instr) → AreBytes group → instruction_of group ≡ Some i → IsGroup group i
is_group [] i bytes is = absurd (cc)
is_group (b ∷ []) i bytes is = absurd (cc)
is_group (b ∷ c ∷ []) i bytes is = absurd (cc)
is_group (b ∷ c ∷ d ∷ []) i bytes is = absurd (cc)
is_group (b ∷ c ∷ d ∷ e ∷ []) i bytes is = group_of b c d e i bytes.1.0 bytes.1.1.0 bytes.1.1.1.0 is
is_group (b ∷ c ∷ d ∷ e ∷ f ∷ bs) i bytes is = absurd (cc)

says_either : (o : Option Instr) (group : List ℕ) → IsSome4 group → instruction_of group ≡ o → IsStatement (text_of o group) (said o group)
says_either None group g is = says_bytes group g
says_either (Some i) group g is = is_named (row_of (written i).mnemonic).name (row_of (written i).mnemonic).kinds (written i).values (is_group group i g.bytes is).fits

pub says : (group : List ℕ) → IsSome4 group → IsLine (group_text group) (parts_of group)
says group g = record {
  before = [];
  label = [];
  between = [];
  statement = group_text group;
  behind = [];
  comment = [];
  whole = sym (append-nil (group_text group));
  blank_before = refl;
  label_part = refl;
  blank_between = refl;
  statement_part = says_either (instruction_of group) group g refl;
  blank_behind = refl;
  comment_part = tt;
}

-- no line feed stands in the text of a group
digit_no_feed : (b : ℕ) → is_ascii_digit b ≡ true → is_no_feed b ≡ true
digit_no_feed b h = grind (arith, nat_tests)

digits_no_feed : (ds : List ℕ) → list_all is_ascii_digit ds ≡ true → list_all is_no_feed ds ≡ true
digits_no_feed [] h = refl
digits_no_feed (d ∷ ds) h = grind (arith, nat_tests, both, is_no_feed, digit_no_feed, both_left, both_right, digits_no_feed ds)

abbrev NoFeeds : List (List ℕ) → Type 0
NoFeeds ts = AllByRecursion (λ t. list_all is_no_feed t ≡ true) ts

decimal_no_feed : (n : ℕ) → n < 65536 → list_all is_no_feed (decimal n) ≡ true
decimal_no_feed n small = digits_no_feed (decimal n) (decimal_digits n (omega arith))

operand_no_feed : (kind : Kind) (n : ℕ) → FitsPlace kind n → list_all is_no_feed (operand_text kind n) ≡ true
operand_no_feed kind n fits = grind (arith, nat_tests, decimal_no_feed)

operands_no_feed : (kinds : List Kind) (ns : List ℕ) → FitPlaces kinds ns → NoFeeds (operand_texts kinds ns)
operands_no_feed [] ns fit = tt
operands_no_feed (kind ∷ kinds) [] fit = tt
operands_no_feed (kind ∷ kinds) (n ∷ ns) fit = (operand_no_feed kind n fit.0, operands_no_feed kinds ns fit.1)

numbers_no_feed : (bs : List ℕ) → AreBytes bs → NoFeeds (map decimal bs)
numbers_no_feed [] bytes = tt
numbers_no_feed (b ∷ bs) bytes = (decimal_no_feed b (let low = bytes.0 in omega (arith, low)), numbers_no_feed bs bytes.1)

joined_no_feed : (ts : List (List ℕ)) → NoFeeds ts → list_all is_no_feed (join_with_byte 44 ts) ≡ true
joined_no_feed [] clean = refl
joined_no_feed (t ∷ []) clean = clean.0
joined_no_feed (t ∷ u ∷ ts) clean = all_both is_no_feed t (44 ∷ join_with_byte 44 (u ∷ ts)) clean.0 (joined_no_feed (u ∷ ts) clean.1)

named_no_feed : (name : List ℕ) (ts : List (List ℕ)) → list_all is_no_feed name ≡ true → NoFeeds ts → list_all is_no_feed (named name ts) ≡ true
named_no_feed name ts h clean = grind (arith, nat_tests, all_both, is_no_feed, joined_no_feed)

name_no_feed : (m : Mnemonic) → list_all is_no_feed (row_of m).name ≡ true
name_no_feed m = grind (arith, nat_tests)

text_no_feed : (o : Option Instr) (group : List ℕ) → IsSome4 group → instruction_of group ≡ o → list_all is_no_feed (text_of o group) ≡ true
text_no_feed None group g is = named_no_feed (codes "BYTES") (map decimal group) refl (numbers_no_feed group g.bytes)
text_no_feed (Some i) group g is =
    named_no_feed (row_of (written i).mnemonic).name (operand_texts (row_of (written i).mnemonic).kinds (written i).values) (name_no_feed (written i).mnemonic)
    (operands_no_feed (row_of (written i).mnemonic).kinds (written i).values (is_group group i g.bytes is).fits)

pub group_no_feed : (group : List ℕ) → IsSome4 group → list_all is_no_feed (group_text group) ≡ true
group_no_feed group g = text_no_feed (instruction_of group) group g refl
