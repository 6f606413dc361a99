-- The names of the instructions, one by one.
use Rattle.dk_asm.proofs.Imports.{◌≡◌, ◌≢◌, refl, sym, subst, ℕ, Bool, true, false, cond, List, [], ◌∷◌, ◌++◌, Some, find, codes, ◌==◌, bytes_eq, bytes_eq-Decides, Mnemonic, row_of, is_blank, mnemonics, begins_lower, nat_tests, arith}
use Rattle.dk_asm.specs.Reading.{mnemonic_named}
use Rattle.dk_asm.proofs.Cuts.{Clean, IsWord}

name_solid : (m : Mnemonic) → Clean is_blank (row_of m).name
name_solid m = grind (arith, nat_tests)

name_some : (m : Mnemonic) → (row_of m).name ≢ []
name_some Mnemonic.Nop e = absurd (cc)
name_some Mnemonic.Li e = absurd (cc)
name_some Mnemonic.Lih e = absurd (cc)
name_some Mnemonic.Mov e = absurd (cc)
name_some Mnemonic.Add e = absurd (cc)
name_some Mnemonic.Sub e = absurd (cc)
name_some Mnemonic.Mul e = absurd (cc)
name_some Mnemonic.Div e = absurd (cc)
name_some Mnemonic.Rem e = absurd (cc)
name_some Mnemonic.And e = absurd (cc)
name_some Mnemonic.Or e = absurd (cc)
name_some Mnemonic.Xor e = absurd (cc)
name_some Mnemonic.Shl e = absurd (cc)
name_some Mnemonic.Shr e = absurd (cc)
name_some Mnemonic.Addi e = absurd (cc)
name_some Mnemonic.Ld e = absurd (cc)
name_some Mnemonic.St e = absurd (cc)
name_some Mnemonic.Jmp e = absurd (cc)
name_some Mnemonic.Jz e = absurd (cc)
name_some Mnemonic.Jnz e = absurd (cc)
name_some Mnemonic.Slt e = absurd (cc)
name_some Mnemonic.Jr e = absurd (cc)
name_some Mnemonic.Trap e = absurd (cc)

pub name_word : (m : Mnemonic) → IsWord (row_of m).name
name_word m = record { solid = name_solid m; some = name_some m }

-- no name has a `#`
pub name_no_hash : (m : Mnemonic) → Clean (λ b. b == 35) (row_of m).name
name_no_hash m = grind (arith, nat_tests)

-- no name begins as a label does
pub name_not_lower : (m : Mnemonic) (rest : List ℕ) → begins_lower ((row_of m).name ++ rest) ≡ false
name_not_lower m rest = grind (arith, nat_tests)

-- no name is `BYTES`
pub name_not_bytes : (m : Mnemonic) → bytes_eq (row_of m).name (codes "BYTES") ≡ false
name_not_bytes m = grind (arith, nat_tests)

-- each name is found
pub name_is : (m : Mnemonic) → mnemonic_named (row_of m).name ≡ Some m
unfolding mnemonic_named
name_is m = grind (arith, nat_tests)

found : (test : Mnemonic → Bool) (ms : List Mnemonic) (m : Mnemonic) → find test ms ≡ Some m → test m ≡ true
found test [] m h = absurd (cc)
found test (n ∷ ms) m h = go (test n) refl (found test ms m) h
  where
    go : (t : Bool) → test n ≡ t → (find test ms ≡ Some m → test m ≡ true) → cond t (Some n) (find test ms) ≡ Some m → test m ≡ true
    go true is rest h = let same : n ≡ m = cc in subst (λ k. test k ≡ true) same is
    go false is rest h = rest h

-- what is found has the name
pub name_was : (name : List ℕ) (m : Mnemonic) → mnemonic_named name ≡ Some m → name ≡ (row_of m).name
unfolding mnemonic_named
name_was name m h = sym ((bytes_eq-Decides (row_of m).name name).0 (found (λ k. bytes_eq (row_of k).name name) mnemonics m h))
