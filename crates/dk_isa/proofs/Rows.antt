-- What a row reads from bytes has registers below 8, and is written as these bytes again.
use Rattle.std.proofs.Common.{ℕ, zero, suc, ◌≡◌, ◌+◌, ◌*◌, ◌/◌, ◌%◌, ◌<◌, Bool, true, false, ◌&&◌, ◌==◌, List, [], ◌∷◌, Option, Some, None, IfSome, refl, subst, arith}
use Rattle.std.specs.Prelude.{slice_get, ⊤}
use Rattle.std.specs.Bool.{Decides}
use Rattle.std.proofs.lemmas.Bool.Decides.{Decides-and, Decides-ltb, Decides-eqb}
use Rattle.dk_isa.specs.declared.Instr.{Instr}
use Rattle.dk_isa.specs.Table.{Row, table, given, read_row, read_code, instruction_of, bytes_of, is_register, HasRegisters}

-- the instruction's registers are below 8, and it is written as these bytes
abbrev pub IsOf : List ℕ → Instr → Type 0
IsOf bytes i = HasRegisters i × (bytes_of i ≡ bytes)

-- a row of this code reads no other instruction
abbrev IsRight : ℕ → Row → Type 0
IsRight code row = (x y z : ℕ) → y < 256 → IfSome (read_row row x y z) (IsOf (code ∷ x ∷ y ∷ z ∷ []))

given-holds : (P : Instr → Type 0) {Q : Type 0} (fits : Bool) (i : Instr) → Decides fits Q → (Q → P i) → IfSome (given fits i) P
given-holds P true i decides holds = holds (decides.0 refl)
given-holds P false i decides holds = tt

one : (x : ℕ) → Decides (is_register x) (x < 8)
one x = Decides-ltb x 8

two : (x y : ℕ) → Decides (is_register x && is_register y) ((x < 8) × (y < 8))
two x y = Decides-and (is_register x) (is_register y) (one x) (one y)

module _ (code : ℕ) where
  imm-right : (f : ℕ → ℕ → Instr) → ((a v : ℕ) → a < 8 → IsOf (code ∷ a ∷ (v % 256) ∷ (v / 256) ∷ []) (f a v)) → IsRight code (Row.reg_imm f)
  imm-right f is x y z byte =
      let v : ℕ = y + 256 * z in
      let low : v % 256 ≡ y = omega arith in
      let high : v / 256 ≡ z = omega arith in
      given-holds (IsOf (code ∷ x ∷ y ∷ z ∷ [])) (is_register x) (f x v) (one x)
      (λ fits. subst (λ h. IsOf (code ∷ x ∷ y ∷ h ∷ []) (f x v)) high (subst (λ l. IsOf (code ∷ x ∷ l ∷ (v / 256) ∷ []) (f x v)) low (is x v fits)))

  three-right : (f : ℕ → ℕ → ℕ → Instr) → ((a b c : ℕ) → (a < 8) × (b < 8) × (c < 8) → IsOf (code ∷ a ∷ b ∷ c ∷ []) (f a b c)) → IsRight code (Row.reg_reg_reg f)
  three-right f is x y z byte =
      given-holds (IsOf (code ∷ x ∷ y ∷ z ∷ [])) (is_register x && is_register y && is_register z) (f x y z)
      (Decides-and (is_register x && is_register y) (is_register z) (two x y) (one z)) (λ fits. is x y z (fits.0.0, fits.0.1, fits.1))

  two-right : (f : ℕ → ℕ → ℕ → Instr) → ((a b k : ℕ) → (a < 8) × (b < 8) → IsOf (code ∷ a ∷ b ∷ k ∷ []) (f a b k)) → IsRight code (Row.reg_reg_byte f)
  two-right f is x y z byte = given-holds (IsOf (code ∷ x ∷ y ∷ z ∷ [])) (is_register x && is_register y) (f x y z) (two x y) (is x y z)

nop-right : IsRight 0 (Row.fixed Instr.Nop)
nop-right x y z byte = given-holds (IsOf (0 ∷ x ∷ y ∷ z ∷ [])) ((x == 0) && (y == 0) && (z == 0)) Instr.Nop
    (Decides-and ((x == 0) && (y == 0)) (z == 0) (Decides-and (x == 0) (y == 0) (Decides-eqb x 0) (Decides-eqb y 0)) (Decides-eqb z 0))
    (λ is. (tt, rw (is.0.0, is.0.1, is.1) refl))

mov-right : IsRight 3 (Row.reg_reg Instr.Mov)
mov-right x y z byte = given-holds (IsOf (3 ∷ x ∷ y ∷ z ∷ [])) (is_register x && is_register y && (z == 0)) (Instr.Mov x y)
    (Decides-and (is_register x && is_register y) (z == 0) (two x y) (Decides-eqb z 0)) (λ is. (is.0, rw is.1 refl))

jmp-right : IsRight 17 (Row.jump Instr.Jmp)
jmp-right x y z byte =
    let v : ℕ = y + 256 * z in
    let low : v % 256 ≡ y = omega arith in
    let high : v / 256 ≡ z = omega arith in
    given-holds (IsOf (17 ∷ x ∷ y ∷ z ∷ [])) (x == 0) (Instr.Jmp v) (Decides-eqb x 0) (λ is. (tt, rw (is, low, high) refl))

jr-right : IsRight 21 (Row.reg Instr.Jr)
jr-right x y z byte = given-holds (IsOf (21 ∷ x ∷ y ∷ z ∷ [])) (is_register x && (y == 0) && (z == 0)) (Instr.Jr x)
    (Decides-and (is_register x && (y == 0)) (z == 0) (Decides-and (is_register x) (y == 0) (one x) (Decides-eqb y 0)) (Decides-eqb z 0))
    (λ is. (is.0.0, rw (is.0.1, is.1) refl))

trap-right : IsRight 22 (Row.byte Instr.Trap)
trap-right x y z byte = given-holds (IsOf (22 ∷ x ∷ y ∷ z ∷ [])) ((y == 0) && (z == 0)) (Instr.Trap x)
    (Decides-and (y == 0) (z == 0) (Decides-eqb y 0) (Decides-eqb z 0)) (λ is. (tt, rw (is.0, is.1) refl))

-- these rows, from the code on
abbrev AreRight : ℕ → List Row → Type 0
AreRight code [] = ⊤
AreRight code (row ∷ rows) = IsRight code row × AreRight (suc code) rows

infixr 10 ◌&◌
◌&◌ : {A B : Type 0} → A → B → A × B
◌&◌ right rest = (right, rest)

row-at : (code : ℕ) (rows : List Row) → AreRight code rows → (k : ℕ) → IfSome (slice_get rows k) (IsRight (code + k))
row-at code [] right k = tt
row-at code (row ∷ rows) right zero = subst (λ n. IsRight n row) (omega arith) right.0
row-at code (row ∷ rows) right (suc k) = subst (λ n. IfSome (slice_get rows k) (IsRight n)) (omega arith) (row-at (suc code) rows right.1 k)

all-right : AreRight 0 table
all-right =
    nop-right
    & imm-right 1 Instr.Li (λ a v low. (low, refl))
    & imm-right 2 Instr.Lih (λ a v low. (low, refl))
    & mov-right
    & three-right 4 Instr.Add (λ a b c low. (low, refl))
    & three-right 5 Instr.Sub (λ a b c low. (low, refl))
    & three-right 6 Instr.Mul (λ a b c low. (low, refl))
    & three-right 7 Instr.Div (λ a b c low. (low, refl))
    & three-right 8 Instr.Rem (λ a b c low. (low, refl))
    & three-right 9 Instr.And (λ a b c low. (low, refl))
    & three-right 10 Instr.Or (λ a b c low. (low, refl))
    & three-right 11 Instr.Xor (λ a b c low. (low, refl))
    & three-right 12 Instr.Shl (λ a b c low. (low, refl))
    & three-right 13 Instr.Shr (λ a b c low. (low, refl))
    & imm-right 14 Instr.Addi (λ a v low. (low, refl))
    & two-right 15 Instr.Ld (λ a b k low. (low, refl))
    & two-right 16 Instr.St (λ a b k low. (low, refl))
    & jmp-right
    & imm-right 18 Instr.Jz (λ a v low. (low, refl))
    & imm-right 19 Instr.Jnz (λ a v low. (low, refl))
    & three-right 20 Instr.Slt (λ a b c low. (low, refl))
    & jr-right
    & trap-right
    & tt

-- what is read from four bytes has registers below 8, and is written as these bytes
pub read-right : (code x y z : ℕ) → y < 256 → IfSome (instruction_of (code ∷ x ∷ y ∷ z ∷ [])) (IsOf (code ∷ x ∷ y ∷ z ∷ []))
read-right code x y z byte = by (slice_get table code) (row-at 0 table all-right code)
  where
    by : (row : Option Row) → IfSome row (IsRight (0 + code)) → IfSome (read_code row x y z) (IsOf (code ∷ x ∷ y ∷ z ∷ []))
    by None right = tt
    by (Some row) right = subst (λ n. IfSome (read_row row x y z) (IsOf (n ∷ x ∷ y ∷ z ∷ []))) (omega arith) (right x y z byte)

-- what is read is such, where every instruction of these bytes is
pub read-such : (P : Instr → Type 0) (code x y z : ℕ) → y < 256 → ((i : Instr) → IsOf (code ∷ x ∷ y ∷ z ∷ []) i → P i)
    → (o : Option Instr) → o ≡ instruction_of (code ∷ x ∷ y ∷ z ∷ []) → IfSome o P
read-such P code x y z byte such o is = rw is (by (instruction_of (code ∷ x ∷ y ∷ z ∷ [])) (read-right code x y z byte))
  where
    by : (o : Option Instr) → IfSome o (IsOf (code ∷ x ∷ y ∷ z ∷ [])) → IfSome o P
    by None right = tt
    by (Some i) right = such i right
