-- What is read, found and encoded is what the definition gives.
use Rattle.dk_asm.proofs.Imports.{◌≡◌, ◌∙◌, sym, ap, refl, ◌+◌, ℕ, List, [], ◌∷◌, map, arith, Option, Some, None, ⊎_elim, cases_lt, Instr, Mnemonic, written, Operand, Statement, Parts, read_line, Line, IsRead, AreRead, cause_at, value_of, IsStatementCode, IsLineCode, IsCode, Outcome, IsOutcome, Assembled, nat_tests}
use Rattle.dk_asm.proofs.LineReading.{line_is, line_was}

-- the lines are read as the grammar says, and in no other way
pub are_read : (lines : List (List ℕ)) → AreRead lines (map read_line lines)
are_read [] = tt
are_read (bytes ∷ lines) = (go (read_line bytes) refl, are_read lines)
  where
    go : (r : Option Parts) → read_line bytes ≡ r → IsRead bytes r
    go (Some p) is = line_was bytes p is
    go None is = λ p line. let found = line_is bytes p line in absurd (cc)

is_read : (bytes : List ℕ) (line : Line) → IsRead bytes line → line ≡ read_line bytes
is_read bytes (Some p) is = sym (line_is bytes p is)
is_read bytes None is = go (read_line bytes) refl
  where
    go : (r : Option Parts) → read_line bytes ≡ r → None ≡ r
    go (Some p) found = absurd (is p (line_was bytes p found))
    go None found = refl

pub were_read : (lines : List (List ℕ)) (source : List Line) → AreRead lines source → source ≡ map read_line lines
were_read [] [] are = refl
were_read [] (line ∷ source) are = absurd are
were_read (bytes ∷ lines) [] are = absurd are
were_read (bytes ∷ lines) (line ∷ source) are = ap (λ l. l ∷ source) (is_read bytes line are.0) ∙ ap (λ ls. read_line bytes ∷ ls) (were_read lines source are.1)

-- an instruction is written in one way
abbrev built : Mnemonic → List ℕ → Option Instr
built Mnemonic.Nop [] = Some Instr.Nop
built Mnemonic.Li (a ∷ v ∷ []) = Some (Instr.Li a v)
built Mnemonic.Lih (a ∷ v ∷ []) = Some (Instr.Lih a v)
built Mnemonic.Mov (a ∷ b ∷ []) = Some (Instr.Mov a b)
built Mnemonic.Add (a ∷ b ∷ c ∷ []) = Some (Instr.Add a b c)
built Mnemonic.Sub (a ∷ b ∷ c ∷ []) = Some (Instr.Sub a b c)
built Mnemonic.Mul (a ∷ b ∷ c ∷ []) = Some (Instr.Mul a b c)
built Mnemonic.Div (a ∷ b ∷ c ∷ []) = Some (Instr.Div a b c)
built Mnemonic.Rem (a ∷ b ∷ c ∷ []) = Some (Instr.Rem a b c)
built Mnemonic.And (a ∷ b ∷ c ∷ []) = Some (Instr.And a b c)
built Mnemonic.Or (a ∷ b ∷ c ∷ []) = Some (Instr.Or a b c)
built Mnemonic.Xor (a ∷ b ∷ c ∷ []) = Some (Instr.Xor a b c)
built Mnemonic.Shl (a ∷ b ∷ c ∷ []) = Some (Instr.Shl a b c)
built Mnemonic.Shr (a ∷ b ∷ c ∷ []) = Some (Instr.Shr a b c)
built Mnemonic.Addi (a ∷ v ∷ []) = Some (Instr.Addi a v)
built Mnemonic.Ld (a ∷ b ∷ n ∷ []) = Some (Instr.Ld a b n)
built Mnemonic.St (a ∷ b ∷ n ∷ []) = Some (Instr.St a b n)
built Mnemonic.Jmp (v ∷ []) = Some (Instr.Jmp v)
built Mnemonic.Jz (a ∷ v ∷ []) = Some (Instr.Jz a v)
built Mnemonic.Jnz (a ∷ v ∷ []) = Some (Instr.Jnz a v)
built Mnemonic.Slt (a ∷ b ∷ c ∷ []) = Some (Instr.Slt a b c)
built Mnemonic.Jr (a ∷ []) = Some (Instr.Jr a)
built Mnemonic.Trap (n ∷ []) = Some (Instr.Trap n)
built m ns = None

built_back : (i : Instr) → built (written i).mnemonic (written i).values ≡ Some i
built_back i = grind (arith, nat_tests)

one_instruction : (i j : Instr) → written i ≡ written j → i ≡ j
one_instruction i j same = grind (arith, nat_tests, built_back)

-- lines have one code
module _ (value : Operand → ℕ) where
  one_statement : (s : Statement) (a b : List ℕ) → IsStatementCode value s a → IsStatementCode value s b → a ≡ b
  one_statement s a b is has = grind (arith, nat_tests, one_instruction)

  one_line : (s : Option Statement) (a b : List ℕ) → IsLineCode value s a → IsLineCode value s b → a ≡ b
  one_line s a b is has = grind (arith, nat_tests, one_statement)

  one_code : (lines : List Line) (a b : List ℕ) → IsCode value lines a → IsCode value lines b → a ≡ b
  one_code [] a b is has = is ∙ sym has
  one_code (line ∷ lines) a b is has = grind (arith, nat_tests, one_line, one_code lines)

none_and_some : {A : Type 0} (o : Option A) (x : A) → o ≡ None → o ≡ Some x → ⊥
none_and_some o x none some = let both : None ≡ Some x = sym none ∙ some in cc

-- a source has one outcome
one_of_source : (source : List Line) (a b : Outcome) → IsOutcome source a → IsOutcome source b → a ≡ b
one_of_source source (Outcome.program x) (Outcome.program y) is has = ap Outcome.program (one_code (value_of source) source x y is.1 has.1)
one_of_source source (Outcome.program x) (Outcome.fault n cause) is has = absurd (none_and_some (cause_at source has.0) cause (is.0 has.0) has.2)
one_of_source source (Outcome.fault n cause) (Outcome.program y) is has = absurd (none_and_some (cause_at source is.0) cause (has.0 is.0) is.2)
one_of_source source (Outcome.fault m cause) (Outcome.fault n other) is has =
    ⊎_elim (λ below. absurd (none_and_some (cause_at source is.0) cause (has.3 is.0 below) is.2))
    (λ past. ⊎_elim (λ below. absurd (none_and_some (cause_at source has.0) other (is.3 has.0 below) has.2)) (λ other_past. equal (omega arith)) (cases_lt has.0 is.0))
    (cases_lt is.0 has.0)
  where
    equal : is.0 ≡ has.0 → Outcome.fault m cause ≡ Outcome.fault n other
    equal same =
        let found : Some cause ≡ Some other = sym is.2 ∙ ap (cause_at source) same ∙ has.2 in
        let causes : cause ≡ other = cc in
        let numbers : m ≡ n = is.1 ∙ ap (λ i. i + 1) same ∙ sym has.1 in
        ap (λ k. Outcome.fault k cause) numbers ∙ ap (Outcome.fault n) causes

pub one_outcome : (text : List ℕ) (a b : Outcome) → Assembled text a → Assembled text b → a ≡ b
one_outcome text a b is has = grind (arith, nat_tests, were_read, one_of_source)
