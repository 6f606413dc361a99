-- The table of instructions, row by row: bytes that are an instruction are that instruction's bytes, and its operands are in their ranges.
use Rattle.dk_asm.proofs.Imports.{◌≡◌, refl, subst, ◌<◌, ◌+◌, ◌*◌, ◌/◌, ◌%◌, ℕ, zero, suc, Bool, true, List, [], ◌∷◌, arith, Some, ◌==◌, slice_get, nat_tests, Instr, Row, table, read_row, read_code, instruction_of, bytes_of, given, is_register, row_of, written, FitPlaces}
use Rattle.dk_asm.proofs.Booleans.{both_left, both_right}

-- the bytes are the instruction's, and its operands are in their ranges
pub record IsGroup (group : List ℕ) (i : Instr) : Type 0 where
  pub back : bytes_of i ≡ group
  pub fits : FitPlaces (row_of (written i).mnemonic).kinds (written i).values

is_given : (b : Bool) (i j : Instr) → given b i ≡ Some j → (b ≡ true) × (i ≡ j)
is_given b i j h = grind (arith, nat_tests)

below : (a : ℕ) → is_register a ≡ true → a < 8
below a h = grind (arith, nat_tests)

is_zero : (a : ℕ) → (a == 0) ≡ true → a ≡ 0
is_zero a h = grind (arith, nat_tests)

low : (y z : ℕ) → y < 256 → z < 256 → (y + 256 * z) % 256 ≡ y
low y z h k = omega arith

high : (y z : ℕ) → y < 256 → z < 256 → (y + 256 * z) / 256 ≡ z
high y z h k = omega arith

-- each instruction of the row, whose code this is, has its bytes
abbrev IsGood : ℕ → Row → Type 0
IsGood code row = (x y z : ℕ) (i : Instr) → x < 256 → y < 256 → z < 256 → read_row row x y z ≡ Some i → IsGroup (code ∷ x ∷ y ∷ z ∷ []) i

abbrev Writes : Instr → List ℕ → Type 0
Writes i group = (bytes_of i ≡ group) × FitPlaces (row_of (written i).mnemonic).kinds (written i).values

group_is : (i j : Instr) (group : List ℕ) → i ≡ j → Writes i group → IsGroup group j
group_is i j group same w = subst (λ k. IsGroup group k) same (record { back = w.0; fits = w.1 })

good-fixed : (code : ℕ) (i : Instr) → Writes i (code ∷ 0 ∷ 0 ∷ 0 ∷ []) → IsGood code (Row.fixed i)
good-fixed code i w x y z j hx hy hz read = grind (arith, nat_tests, is_given, both_left, is_zero, both_right, group_is)

good-reg_imm : (code : ℕ) (f : ℕ → ℕ → Instr) → ((a v : ℕ) → bytes_of (f a v) ≡ code ∷ a ∷ (v % 256) ∷ (v / 256) ∷ [])
    → ((a v : ℕ) → a < 8 → v < 65536 → FitPlaces (row_of (written (f a v)).mnemonic).kinds (written (f a v)).values) → IsGood code (Row.reg_imm f)
good-reg_imm code f back fit x y z j hx hy hz read = grind (arith, nat_tests, is_given, low, high, group_is, below)

good-reg_reg : (code : ℕ) (f : ℕ → ℕ → Instr) → ((a b : ℕ) → bytes_of (f a b) ≡ code ∷ a ∷ b ∷ 0 ∷ [])
    → ((a b : ℕ) → a < 8 → b < 8 → FitPlaces (row_of (written (f a b)).mnemonic).kinds (written (f a b)).values) → IsGood code (Row.reg_reg f)
good-reg_reg code f back fit x y z j hx hy hz read = grind (arith, nat_tests, is_given, both_left, is_zero, both_right, group_is, below)

good-three : (code : ℕ) (f : ℕ → ℕ → ℕ → Instr) → ((a b c : ℕ) → bytes_of (f a b c) ≡ code ∷ a ∷ b ∷ c ∷ [])
    → ((a b c : ℕ) → a < 8 → b < 8 → c < 8 → FitPlaces (row_of (written (f a b c)).mnemonic).kinds (written (f a b c)).values) → IsGood code (Row.reg_reg_reg f)
good-three code f back fit x y z j hx hy hz read = grind (arith, nat_tests, is_given, both_left, group_is, below, both_right)

good-reg_reg_byte : (code : ℕ) (f : ℕ → ℕ → ℕ → Instr) → ((a b n : ℕ) → bytes_of (f a b n) ≡ code ∷ a ∷ b ∷ n ∷ [])
    → ((a b n : ℕ) → a < 8 → b < 8 → n < 256 → FitPlaces (row_of (written (f a b n)).mnemonic).kinds (written (f a b n)).values) → IsGood code (Row.reg_reg_byte f)
good-reg_reg_byte code f back fit x y z j hx hy hz read = grind (arith, nat_tests, is_given, group_is, below, both_left, both_right)

good-jump : (code : ℕ) (f : ℕ → Instr) → ((v : ℕ) → bytes_of (f v) ≡ code ∷ 0 ∷ (v % 256) ∷ (v / 256) ∷ [])
    → ((v : ℕ) → v < 65536 → FitPlaces (row_of (written (f v)).mnemonic).kinds (written (f v)).values) → IsGood code (Row.jump f)
good-jump code f back fit x y z j hx hy hz read = grind (arith, nat_tests, is_given, is_zero, low, high, group_is)

good-reg : (code : ℕ) (f : ℕ → Instr) → ((a : ℕ) → bytes_of (f a) ≡ code ∷ a ∷ 0 ∷ 0 ∷ [])
    → ((a : ℕ) → a < 8 → FitPlaces (row_of (written (f a)).mnemonic).kinds (written (f a)).values) → IsGood code (Row.reg f)
good-reg code f back fit x y z j hx hy hz read = grind (arith, nat_tests, is_given, both_left, is_zero, both_right, group_is, below)

good-byte : (code : ℕ) (f : ℕ → Instr) → ((n : ℕ) → bytes_of (f n) ≡ code ∷ n ∷ 0 ∷ 0 ∷ [])
    → ((n : ℕ) → n < 256 → FitPlaces (row_of (written (f n)).mnemonic).kinds (written (f n)).values) → IsGood code (Row.byte f)
good-byte code f back fit x y z j hx hy hz read = grind (arith, nat_tests, is_given, is_zero, both_left, both_right, group_is)

abbrev AllGood : ℕ → List Row → Type 0
AllGood code [] = Unit {0}
AllGood code (row ∷ rows) = IsGood code row × AllGood (code + 1) rows

all_good : AllGood 0 table
all_good = (
  good-fixed 0 Instr.Nop (refl, tt),
  (
    good-reg_imm 1 Instr.Li (λ a v. refl) (λ a v h k. (h, (k, tt))),
    (
      good-reg_imm 2 Instr.Lih (λ a v. refl) (λ a v h k. (h, (k, tt))),
      (
        good-reg_reg 3 Instr.Mov (λ a b. refl) (λ a b h k. (h, (k, tt))),
        (
          good-three 4 Instr.Add (λ a b c. refl) (λ a b c h k l. (h, (k, (l, tt)))),
          (
            good-three 5 Instr.Sub (λ a b c. refl) (λ a b c h k l. (h, (k, (l, tt)))),
            (
              good-three 6 Instr.Mul (λ a b c. refl) (λ a b c h k l. (h, (k, (l, tt)))),
              (
                good-three 7 Instr.Div (λ a b c. refl) (λ a b c h k l. (h, (k, (l, tt)))),
                (
                  good-three 8 Instr.Rem (λ a b c. refl) (λ a b c h k l. (h, (k, (l, tt)))),
                  (
                    good-three 9 Instr.And (λ a b c. refl) (λ a b c h k l. (h, (k, (l, tt)))),
                    (
                      good-three 10 Instr.Or (λ a b c. refl) (λ a b c h k l. (h, (k, (l, tt)))),
                      (
                        good-three 11 Instr.Xor (λ a b c. refl) (λ a b c h k l. (h, (k, (l, tt)))),
                        (
                          good-three 12 Instr.Shl (λ a b c. refl) (λ a b c h k l. (h, (k, (l, tt)))),
                          (
                            good-three 13 Instr.Shr (λ a b c. refl) (λ a b c h k l. (h, (k, (l, tt)))),
                            (
                              good-reg_imm 14 Instr.Addi (λ a v. refl) (λ a v h k. (h, (k, tt))),
                              (
                                good-reg_reg_byte 15 Instr.Ld (λ a b n. refl) (λ a b n h k l. (h, (k, (l, tt)))),
                                (
                                  good-reg_reg_byte 16 Instr.St (λ a b n. refl) (λ a b n h k l. (h, (k, (l, tt)))),
                                  (
                                    good-jump 17 Instr.Jmp (λ v. refl) (λ v h. (h, tt)),
                                    (
                                      good-reg_imm 18 Instr.Jz (λ a v. refl) (λ a v h k. (h, (k, tt))),
                                      (
                                        good-reg_imm 19 Instr.Jnz (λ a v. refl) (λ a v h k. (h, (k, tt))),
                                        (
                                          good-three 20 Instr.Slt (λ a b c. refl) (λ a b c h k l. (h, (k, (l, tt)))),
                                          (
                                            good-reg 21 Instr.Jr (λ a. refl) (λ a h. (h, tt)),
                                            (
                                              good-byte 22 Instr.Trap (λ n. refl) (λ n h. (h, tt)),
                                              tt,
                                            ),
                                          ),
                                        ),
                                      ),
                                    ),
                                  ),
                                ),
                              ),
                            ),
                          ),
                        ),
                      ),
                    ),
                  ),
                ),
              ),
            ),
          ),
        ),
      ),
    ),
  ),
)

read_at : (first : ℕ) (rows : List Row) → AllGood first rows → (k code x y z : ℕ) (i : Instr) → code ≡ first + k → x < 256 → y < 256 → z < 256
    → read_code (slice_get rows k) x y z ≡ Some i → IsGroup (code ∷ x ∷ y ∷ z ∷ []) i
read_at first [] good k code x y z i at hx hy hz read = absurd (cc)
read_at first (row ∷ rows) good zero code x y z i at hx hy hz read =
    let same : first ≡ code = omega arith in
    subst (λ c. IsGroup (c ∷ x ∷ y ∷ z ∷ []) i) same (good.0 x y z i hx hy hz read)
read_at first (row ∷ rows) good (suc k) code x y z i at hx hy hz read = read_at (first + 1) rows good.1 k code x y z i (omega arith) hx hy hz read

-- bytes that are an instruction are its bytes
pub group_of : (code x y z : ℕ) (i : Instr) → x < 256 → y < 256 → z < 256 → instruction_of (code ∷ x ∷ y ∷ z ∷ []) ≡ Some i → IsGroup (code ∷ x ∷ y ∷ z ∷ []) i
group_of code x y z i hx hy hz read = read_at 0 table all_good code code x y z i (omega arith) hx hy hz read
