-- The numbers in an instruction that is read from bytes have at most two bytes.
use Rattle.dk_world.proofs.Names.{ℕ, ◌<◌, List, ◌∷◌, arith, IfSome, slice_get, AllByRecursion, Instr, Row, fixed, reg_imm, reg_reg, reg_reg_reg, reg_reg_byte, jump, byte, table, read_code, instruction_of, nat_tests}
use Rattle.std.proofs.Common.{[]}
use Rattle.std.specs.Prelude.{Option}
use Rattle.dk_isa.specs.Table.{reg}
use Rattle.dk_world.proofs.Each.{each_get}

abbrev pub IsSmall : Instr → Type 0
IsSmall (Instr.Li a imm) = imm < 65536
IsSmall (Instr.Lih a imm) = imm < 65536
IsSmall _ = Unit {0}

abbrev IsSmallRow : Row → Type 0
IsSmallRow (fixed i) = IsSmall i
IsSmallRow (reg_imm f) = (a v : ℕ) → v < 65536 → IsSmall (f a v)
IsSmallRow (reg_reg f) = (a b : ℕ) → IsSmall (f a b)
IsSmallRow (reg_reg_reg f) = (a b c : ℕ) → IsSmall (f a b c)
IsSmallRow (reg_reg_byte f) = (a b c : ℕ) → IsSmall (f a b c)
IsSmallRow (jump f) = (v : ℕ) → IsSmall (f v)
IsSmallRow (reg f) = (a : ℕ) → IsSmall (f a)
IsSmallRow (byte f) = (k : ℕ) → IsSmall (f k)

small_table : AllByRecursion IsSmallRow table
small_table = (tt, (λ a v h. h, (λ a v h. h, (λ a b. tt, (λ a b c. tt, (λ a b c. tt, (λ a b c. tt, (λ a b c. tt, (λ a b c. tt, (λ a b c. tt, (λ a b c. tt, (λ a b c. tt, (λ a b c. tt, (λ a b c. tt, (λ a v h. tt, (λ a b c. tt, (λ a b c. tt, (λ v. tt, (λ a v h. tt, (λ a v h. tt, (λ a b c. tt, (λ a. tt, (λ k. tt, tt)))))))))))))))))))))))

small_code : (o : Option Row) (x y z : ℕ) → y < 256 → z < 256 → IfSome o IsSmallRow → IfSome (read_code o x y z) IsSmall
small_code o x y z a b h = grind (arith, nat_tests)

pub small_instruction : (bytes : List ℕ) → AllByRecursion (λ b. b < 256) bytes → IfSome (instruction_of bytes) IsSmall
small_instruction [] h = tt
small_instruction (code ∷ []) h = tt
small_instruction (code ∷ x ∷ []) h = tt
small_instruction (code ∷ x ∷ y ∷ []) h = tt
small_instruction (code ∷ x ∷ y ∷ z ∷ []) h = small_code (slice_get table code) x y z h.1.1.0 h.1.1.1.0 (each_get IsSmallRow table code small_table)
small_instruction (code ∷ x ∷ y ∷ z ∷ w ∷ more) h = tt
