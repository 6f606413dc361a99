-- The listing of a program: one line for each group of four bytes, and one for what is left.
use Rattle.std.specs.Prelude.{ℕ, List, [], ◌∷◌, ◌++◌, map, flat_map, codes, decimal, Option, Some, None}
use Rattle.std.specs.List.{join_with_byte}
use Rattle.dk_isa.specs.declared.Instr.{Instr}
use Rattle.dk_isa.specs.Table.{instruction_of}
use Rattle.dk_asm.specs.declared.kind.Kind.{Kind}
use Rattle.dk_asm.specs.Table.{row_of, written}
use Rattle.dk_asm.specs.Operands.{register}

-- the groups of four bytes, and behind them one to three bytes that are left
abbrev pub groups : List ℕ → List (List ℕ)
groups [] = []
groups (x ∷ y ∷ z ∷ w ∷ code) = (x ∷ y ∷ z ∷ w ∷ []) ∷ groups code
groups left = left ∷ []

abbrev pub operand_text : Kind → ℕ → List ℕ
operand_text Kind.Register r = register r
operand_text _ n = decimal n

abbrev pub operand_texts : List Kind → List ℕ → List (List ℕ)
operand_texts (kind ∷ kinds) (n ∷ ns) = operand_text kind n ∷ operand_texts kinds ns
operand_texts _ _ = []

-- a name, and where it has operands a space and they, joined by commas
abbrev pub named : List ℕ → List (List ℕ) → List ℕ
named name [] = name
named name (o ∷ os) = name ++ 32 ∷ join_with_byte 44 (o ∷ os)

abbrev pub instruction_text : Instr → List ℕ
instruction_text i =
    named (row_of (written i).mnemonic).name (operand_texts (row_of (written i).mnemonic).kinds (written i).values)

abbrev pub bytes_text : List ℕ → List ℕ
bytes_text ns = named (codes "BYTES") (map decimal ns)

abbrev pub text_of : Option Instr → List ℕ → List ℕ
text_of (Some i) group = instruction_text i
text_of None group = bytes_text group

-- the line of a group, without its line feed: the instruction where it is one, and else its bytes
abbrev pub group_text : List ℕ → List ℕ
group_text group = text_of (instruction_of group) group

-- each line ends with a line feed
abbrev pub listing : List ℕ → List ℕ
listing code = flat_map (λ group. group_text group ++ 10 ∷ []) (groups code)
