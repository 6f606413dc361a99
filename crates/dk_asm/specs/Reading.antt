-- What the readers of a line answer, piece by piece.
use Rattle.std.specs.Prelude.{ℕ, ◌-◌, ◌+◌, Bool, false, not, ◌==◌, ◌&&◌, nat_le, min, if◌then◌else◌, List, [], ◌∷◌, length, take, drop, replicate, find, position, codes, Option, Some, None}
use Rattle.std.specs.List.{list_all, position_or_len, before_first, slice_split}
use Rattle.std.specs.Option.{option_map, option_and_then}
use Rattle.std.specs.Str.{bytes_eq}
use Rattle.std.specs.Str.Parse.{digits_value}
use Rattle.dk_config.specs.Rules.{is_name, is_lower}
use Rattle.dk_asm.specs.declared.kind.Kind.{Kind}
use Rattle.dk_asm.specs.declared.table.Mnemonic.{Mnemonic}
use Rattle.dk_asm.specs.declared.words.Sought.{Sought}
use Rattle.dk_asm.specs.Table.{row_of}
use Rattle.dk_asm.specs.Words.{is_blank, is_numeral}
use Rattle.dk_asm.specs.Operands.{Operand, up_to, negative}
use Rattle.dk_asm.specs.Grammar.{Statement, Parts}

abbrev pub is_solid : ℕ → Bool
is_solid b = not (is_blank b)

-- the byte is what is looked for
abbrev pub is_sought : Sought → ℕ → Bool
is_sought Sought.Blank b = is_blank b
is_sought Sought.Solid b = is_solid b
is_sought (Sought.Byte byte) b = b == byte

-- before the first such byte, and behind it
abbrev pub cut_at : ℕ → List ℕ → Option (List ℕ × List ℕ)
cut_at byte bytes = option_map (λ end. (take end bytes, drop (end + 1) bytes)) (position (λ b. b == byte) bytes)

-- without the blanks in front
abbrev pub skipped : List ℕ → List ℕ
skipped bytes = drop (position_or_len is_solid bytes) bytes

-- from the first blank on
abbrev pub behind_word : List ℕ → List ℕ
behind_word bytes = drop (position_or_len is_blank bytes) bytes

-- the one word between blanks
unfoldable pub only_word : List ℕ → Option (List ℕ)
only_word bytes =
    if list_all is_blank (behind_word (skipped bytes)) then Some (before_first is_blank (skipped bytes)) else None

unfoldable pub number_of : List ℕ → Option ℕ
number_of word = if is_numeral word then Some (digits_value 10 word) else None

-- the same, with 65,536 for all numbers from there on
abbrev pub capped_number_of : List ℕ → Option ℕ
capped_number_of word = option_map (λ n. min n 65536) (number_of word)

abbrev pub read_number : ℕ → List ℕ → Option Operand
read_number limit word = option_map (up_to limit) (number_of word)

abbrev pub read_value : List ℕ → Option Operand
read_value word = if is_name word then Some (Operand.label word) else read_number 65535 word

abbrev pub read_register : List ℕ → Option Operand
read_register (r ∷ d ∷ []) = if (r == 114) && (nat_le 48 d && nat_le d 55) then Some (Operand.value (d - 48)) else None
read_register _ = None

abbrev pub read_signed : List ℕ → Option Operand
read_signed [] = None
read_signed (b ∷ bytes) = if b == 45 then option_map negative (number_of bytes) else read_value (b ∷ bytes)

unfoldable pub read_operand : Kind → List ℕ → Option Operand
read_operand Kind.Register word = read_register word
read_operand Kind.Byte word = read_number 255 word
read_operand Kind.Word word = read_number 65535 word
read_operand Kind.Value word = read_value word
read_operand Kind.Signed word = read_signed word

abbrev pub read_piece : Kind → List ℕ → Option Operand
read_piece kind piece = option_and_then (read_operand kind) (only_word piece)

-- an operand in front of others
abbrev pub in_front : Option Operand → Option (List Operand) → Option (List Operand)
in_front None os = None
in_front (Some o) os = option_map (λ rest. o ∷ rest) os

abbrev pub read_pieces : List Kind → List (List ℕ) → Option (List Operand)
read_pieces [] [] = Some []
read_pieces (kind ∷ kinds) (piece ∷ pieces) = in_front (read_piece kind piece) (read_pieces kinds pieces)
read_pieces _ _ = None

-- the same where the last few kinds are optional
abbrev pub read_some : ℕ → List Kind → List (List ℕ) → Option (List Operand)
read_some optional kinds [] = if nat_le (length kinds) optional then Some [] else None
read_some optional [] (piece ∷ pieces) = None
read_some optional (kind ∷ kinds) (piece ∷ pieces) = in_front (read_piece kind piece) (read_some optional kinds pieces)

-- the pieces behind a comma, if there is one
abbrev pub pieces_behind : Option (List ℕ) → List (List ℕ)
pieces_behind None = []
pieces_behind (Some rest) = slice_split (λ b. b == 44) rest

-- what commas part, or nothing
unfoldable pub pieces_of : List ℕ → List (List ℕ)
pieces_of text = if list_all is_blank text then [] else slice_split (λ b. b == 44) text

abbrev pub mnemonics : List Mnemonic
mnemonics =
    Mnemonic.Nop
    ∷ Mnemonic.Li
    ∷ Mnemonic.Lih
    ∷ Mnemonic.Mov
    ∷ Mnemonic.Add
    ∷ Mnemonic.Sub
    ∷ Mnemonic.Mul
    ∷ Mnemonic.Div
    ∷ Mnemonic.Rem
    ∷ Mnemonic.And
    ∷ Mnemonic.Or
    ∷ Mnemonic.Xor
    ∷ Mnemonic.Shl
    ∷ Mnemonic.Shr
    ∷ Mnemonic.Addi
    ∷ Mnemonic.Ld
    ∷ Mnemonic.St
    ∷ Mnemonic.Jmp
    ∷ Mnemonic.Jz
    ∷ Mnemonic.Jnz
    ∷ Mnemonic.Slt
    ∷ Mnemonic.Jr
    ∷ Mnemonic.Trap
    ∷ []

unfoldable pub mnemonic_named : List ℕ → Option Mnemonic
mnemonic_named name = find (λ m. bytes_eq (row_of m).name name) mnemonics

abbrev pub read_bytes : List (List ℕ) → Option Statement
read_bytes pieces =
    if nat_le 1 (length pieces) && nat_le (length pieces) 4
    then option_map Statement.bytes (read_pieces (replicate (length pieces) Kind.Byte) pieces) else None

abbrev pub read_instruction : List (List ℕ) → Mnemonic → Option Statement
read_instruction pieces m = option_map (Statement.instruction m) (read_pieces (row_of m).kinds pieces)

unfoldable pub read_statement : List ℕ → Option Statement
read_statement text =
    if bytes_eq (before_first is_blank text) (codes "BYTES") then read_bytes (pieces_of (behind_word text)) else (
    option_and_then (read_instruction (pieces_of (behind_word text))) (mnemonic_named (before_first is_blank text)))

abbrev pub parts : Option (List ℕ) → Option Statement → Parts
parts label statement = record { label = label; statement = statement }

-- what stands behind a label, or in a line without one
abbrev pub read_rest : Option (List ℕ) → List ℕ → Option Parts
read_rest label [] = Some (parts label None)
read_rest label (b ∷ bytes) = option_map (λ s. parts label (Some s)) (read_statement (b ∷ bytes))

abbrev pub begins_lower : List ℕ → Bool
begins_lower [] = false
begins_lower (b ∷ bytes) = is_lower b

-- a name, and what stands behind the colon behind it
abbrev pub split_label : List ℕ → Option (List ℕ × List ℕ)
split_label text =
    option_and_then (λ end. if is_name (take end text) then Some (take end text, drop (end + 1) text) else None)
    (position (λ b. b == 58) text)

abbrev pub read_parts : Option (List ℕ × List ℕ) → Option Parts
read_parts None = None
read_parts (Some cut) = read_rest (Some cut.0) (skipped cut.1)

unfoldable pub read_label : List ℕ → Option Parts
read_label text = if begins_lower text then read_parts (split_label text) else read_rest None text

unfoldable pub read_line : List ℕ → Option Parts
read_line bytes = read_label (skipped (before_first (λ b. b == 35) bytes))
