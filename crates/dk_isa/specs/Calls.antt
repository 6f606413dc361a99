-- The kernel calls that a program holds.
use Rattle.std.specs.Prelude.{ℕ, ◌≡◌, ◌+◌, ◌*◌, ◌≤◌, List, length, slice_range, Some}
use Rattle.dk_isa.specs.declared.Instr.{Instr}
use Rattle.dk_isa.specs.Table.{instruction_of}

-- no instruction of the program is kernel call n
abbrev pub HoldsNoCall : ℕ → List ℕ → Type 0
HoldsNoCall n program =
    (k : ℕ) → 4 * k + 4 ≤ length program
    → instruction_of (slice_range program (4 * k) (4 * k + 4)) ≡ Some (Instr.Trap n) → ⊥
