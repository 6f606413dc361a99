-- Bytes that were written out by hand, and their instructions.
use Rattle.std.proofs.Common.{◌≡◌, [], ◌∷◌, Some, None, refl}
use Rattle.dk_isa.specs.declared.Instr.{Instr}
use Rattle.dk_isa.specs.Table.{instruction_of}

-- a program that asks for slack once and then spins
asker : instruction_of (0x01 ∷ 0x01 ∷ 0xff ∷ 0xff ∷ []) ≡ Some (Instr.Li 1 65535)
asker = refl

asker-trap : instruction_of (0x16 ∷ 0x07 ∷ 0x00 ∷ 0x00 ∷ []) ≡ Some (Instr.Trap 7)
asker-trap = refl

asker-spins : instruction_of (0x11 ∷ 0x00 ∷ 0x02 ∷ 0x00 ∷ []) ≡ Some (Instr.Jmp 2)
asker-spins = refl

division : instruction_of (0x07 ∷ 0x01 ∷ 0x01 ∷ 0x02 ∷ []) ≡ Some (Instr.Div 1 1 2)
division = refl

-- a code past the last, and a byte that must be 0
no-code : instruction_of (0x17 ∷ 0x00 ∷ 0x00 ∷ 0x00 ∷ []) ≡ None
no-code = refl

no-dash : instruction_of (0x00 ∷ 0x01 ∷ 0x00 ∷ 0x00 ∷ []) ≡ None
no-dash = refl
