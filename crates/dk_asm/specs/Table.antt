-- The names and operands of the instructions, beside the table of their bytes. Both directions read this table.
use Rattle.std.specs.Prelude.{ℕ, List, [], ◌∷◌, codes}
use Rattle.dk_isa.specs.declared.Instr.{Instr}
use Rattle.dk_asm.specs.declared.kind.Kind.{Kind}
use Rattle.dk_asm.specs.declared.table.Mnemonic.{Mnemonic}

-- a name, and what stands at the places of its operands
pub record Row : Type 0 where
  pub name : List ℕ
  pub kinds : List Kind

abbrev pub row : List ℕ → List Kind → Row
row name kinds = record { name = name; kinds = kinds }

abbrev pub three : List Kind
three = Kind.Register ∷ Kind.Register ∷ Kind.Register ∷ []

abbrev pub row_of : Mnemonic → Row
row_of Mnemonic.Nop = row (codes "NOP") []
row_of Mnemonic.Li = row (codes "LI") (Kind.Register ∷ Kind.Value ∷ [])
row_of Mnemonic.Lih = row (codes "LIH") (Kind.Register ∷ Kind.Word ∷ [])
row_of Mnemonic.Mov = row (codes "MOV") (Kind.Register ∷ Kind.Register ∷ [])
row_of Mnemonic.Add = row (codes "ADD") three
row_of Mnemonic.Sub = row (codes "SUB") three
row_of Mnemonic.Mul = row (codes "MUL") three
row_of Mnemonic.Div = row (codes "DIV") three
row_of Mnemonic.Rem = row (codes "REM") three
row_of Mnemonic.And = row (codes "AND") three
row_of Mnemonic.Or = row (codes "OR") three
row_of Mnemonic.Xor = row (codes "XOR") three
row_of Mnemonic.Shl = row (codes "SHL") three
row_of Mnemonic.Shr = row (codes "SHR") three
row_of Mnemonic.Addi = row (codes "ADDI") (Kind.Register ∷ Kind.Signed ∷ [])
row_of Mnemonic.Ld = row (codes "LD") (Kind.Register ∷ Kind.Register ∷ Kind.Byte ∷ [])
row_of Mnemonic.St = row (codes "ST") (Kind.Register ∷ Kind.Register ∷ Kind.Byte ∷ [])
row_of Mnemonic.Jmp = row (codes "JMP") (Kind.Value ∷ [])
row_of Mnemonic.Jz = row (codes "JZ") (Kind.Register ∷ Kind.Value ∷ [])
row_of Mnemonic.Jnz = row (codes "JNZ") (Kind.Register ∷ Kind.Value ∷ [])
row_of Mnemonic.Slt = row (codes "SLT") three
row_of Mnemonic.Jr = row (codes "JR") (Kind.Register ∷ [])
row_of Mnemonic.Trap = row (codes "TRAP") (Kind.Byte ∷ [])

-- an instruction as it is written: its row, and the numbers at the places of its operands
pub record Written : Type 0 where
  pub mnemonic : Mnemonic
  pub values : List ℕ

abbrev pub with_values : Mnemonic → List ℕ → Written
with_values mnemonic values = record { mnemonic = mnemonic; values = values }

abbrev pub written : Instr → Written
written Instr.Nop = with_values Mnemonic.Nop []
written (Instr.Li a v) = with_values Mnemonic.Li (a ∷ v ∷ [])
written (Instr.Lih a v) = with_values Mnemonic.Lih (a ∷ v ∷ [])
written (Instr.Mov a b) = with_values Mnemonic.Mov (a ∷ b ∷ [])
written (Instr.Add a b c) = with_values Mnemonic.Add (a ∷ b ∷ c ∷ [])
written (Instr.Sub a b c) = with_values Mnemonic.Sub (a ∷ b ∷ c ∷ [])
written (Instr.Mul a b c) = with_values Mnemonic.Mul (a ∷ b ∷ c ∷ [])
written (Instr.Div a b c) = with_values Mnemonic.Div (a ∷ b ∷ c ∷ [])
written (Instr.Rem a b c) = with_values Mnemonic.Rem (a ∷ b ∷ c ∷ [])
written (Instr.And a b c) = with_values Mnemonic.And (a ∷ b ∷ c ∷ [])
written (Instr.Or a b c) = with_values Mnemonic.Or (a ∷ b ∷ c ∷ [])
written (Instr.Xor a b c) = with_values Mnemonic.Xor (a ∷ b ∷ c ∷ [])
written (Instr.Shl a b c) = with_values Mnemonic.Shl (a ∷ b ∷ c ∷ [])
written (Instr.Shr a b c) = with_values Mnemonic.Shr (a ∷ b ∷ c ∷ [])
written (Instr.Addi a v) = with_values Mnemonic.Addi (a ∷ v ∷ [])
written (Instr.Ld a b n) = with_values Mnemonic.Ld (a ∷ b ∷ n ∷ [])
written (Instr.St a b n) = with_values Mnemonic.St (a ∷ b ∷ n ∷ [])
written (Instr.Jmp v) = with_values Mnemonic.Jmp (v ∷ [])
written (Instr.Jz a v) = with_values Mnemonic.Jz (a ∷ v ∷ [])
written (Instr.Jnz a v) = with_values Mnemonic.Jnz (a ∷ v ∷ [])
written (Instr.Slt a b c) = with_values Mnemonic.Slt (a ∷ b ∷ c ∷ [])
written (Instr.Jr a) = with_values Mnemonic.Jr (a ∷ [])
written (Instr.Trap n) = with_values Mnemonic.Trap (n ∷ [])
