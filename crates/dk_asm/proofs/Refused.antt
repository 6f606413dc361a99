-- Something is told exactly of a line that is refused.
use Rattle.dk_asm.proofs.Imports.{◌≡◌, ◌∙◌, sym, ap, refl, ℕ, suc, Bool, true, false, cond, List, [], ◌∷◌, length, arith, Option, Some, None, ◌&&◌, ◌||◌, ◌==◌, nat_le, replicate, codes, is_some, list_any, before_first, option_map, option_and_then, bytes_eq, nat_tests, Kind, Mnemonic, Operand, Statement, read_piece, in_front, read_some, pieces_of, behind_word, read_bytes, read_instruction, mnemonic_named, parts, read_rest, begins_lower, split_label, read_parts, skipped, Reason, reason, trimmed, is_wrong, wrong_end, wrong_operand, wrong_instruction, wrong_rest, wrong_behind, Line, is_outside, is_form, is_range, operands_of, is_blank}
use Rattle.dk_asm.specs.declared.reasons.Wanted.TheVariants as wanted
use Rattle.dk_asm.specs.Reading.{read_statement, read_label, read_line}
use Rattle.dk_asm.specs.Reasons.{wrong_statement, wrong_label, wrong_in}
use Rattle.dk_asm.proofs.SomeReading.{all_pieces, one_to_four}

and_false : (b : Bool) → (b && false) ≡ false
and_false b = grind (arith, nat_tests)

-- nothing was read, or a number out of its range where such are looked for
abbrev refuses : Bool → Option (List Operand) → Bool
refuses ranges None = true
refuses ranges (Some os) = ranges && list_any is_outside os

in_front_of : (ranges : Bool) (o : Operand) (rest : Option (List Operand)) → refuses ranges (in_front (Some o) rest) ≡ ((ranges && is_outside o) || refuses ranges rest)
in_front_of ranges o None = or_true (ranges && is_outside o)
  where
    or_true : (b : Bool) → true ≡ (b || true)
    or_true true = refl
    or_true false = refl
in_front_of true o (Some os) = refl
in_front_of false o (Some os) = refl

none_left : (optional : ℕ) → nat_le 0 optional ≡ true
none_left optional = grind (arith, nat_tests)

module _ (ranges : Bool) (optional : ℕ) where
  at_end : (k : ℕ) (kinds : List Kind) → is_some (wrong_end optional k kinds) ≡ refuses ranges (read_some optional kinds [])
  at_end k [] = sym (ap (λ t. refuses ranges (cond t (Some []) None)) (none_left optional) ∙ and_false ranges)
  at_end k (kind ∷ kinds) = go (nat_le (length (kind ∷ kinds)) optional)
    where
      go : (t : Bool) → is_some (cond t None (Some (reason [] k (wanted.Operand kind)))) ≡ refuses ranges (cond t (Some []) None)
      go true = sym (and_false ranges)
      go false = refl

  each : (k : ℕ) (kinds : List Kind) (pieces : List (List ℕ)) → is_some (wrong_operand ranges optional k kinds pieces) ≡ refuses ranges (read_some optional kinds pieces)
  each k kinds [] = at_end k kinds
  each k [] (piece ∷ pieces) = refl
  each k (kind ∷ kinds) (piece ∷ pieces) = go (read_piece kind piece) (each (suc k) kinds pieces)
    where
      here : Reason
      here = reason (trimmed piece) k (wanted.Operand kind)

      behind : Option Reason
      behind = wrong_operand ranges optional (suc k) kinds pieces

      rest : Option (List Operand)
      rest = read_some optional kinds pieces

      found : (t : Bool) → is_some behind ≡ refuses ranges rest → is_some (cond t (Some here) behind) ≡ (t || refuses ranges rest)
      found true same = refl
      found false same = same

      go : (o : Option Operand) → is_some behind ≡ refuses ranges rest → is_some (cond (is_wrong ranges o) (Some here) behind) ≡ refuses ranges (in_front o rest)
      go None same = refl
      go (Some o) same = found (ranges && is_outside o) same ∙ sym (in_front_of ranges o rest)

-- the same of a statement and of a line
abbrev refuses_statement : Bool → Option Statement → Bool
refuses_statement ranges None = true
refuses_statement ranges (Some s) = ranges && list_any is_outside (operands_of s)

abbrev refuses_line : Bool → Line → Bool
refuses_line ranges line = is_form line || (ranges && is_range line)

module _ (ranges : Bool) where
  of_bytes : (o : Option (List Operand)) → refuses ranges o ≡ refuses_statement ranges (option_map Statement.bytes o)
  of_bytes o = grind (arith, nat_tests)

  of_instruction : (m : Mnemonic) (o : Option (List Operand)) → refuses ranges o ≡ refuses_statement ranges (option_map (Statement.instruction m) o)
  of_instruction m o = grind (arith, nat_tests)

  of_line : (label : Option (List ℕ)) (o : Option Statement) → refuses_statement ranges o ≡ refuses_line ranges (option_map (λ s. parts label (Some s)) o)
  of_line label o = grind (arith, nat_tests)

  in_bytes : (pieces : List (List ℕ)) → is_some (wrong_operand ranges 3 1 (replicate 4 Kind.Byte) pieces) ≡ refuses_statement ranges (read_bytes pieces)
  in_bytes pieces = grind (arith, nat_tests, each, of_bytes, one_to_four)

  in_instruction : (name : List ℕ) (pieces : List (List ℕ)) (m : Option Mnemonic) → is_some (wrong_instruction ranges name pieces m) ≡ refuses_statement ranges (option_and_then (read_instruction pieces) m)
  in_instruction name pieces m = grind (arith, nat_tests, each, all_pieces, of_instruction)

  in_statement : (text : List ℕ) → is_some (wrong_statement ranges text) ≡ refuses_statement ranges (read_statement text)
  unfolding wrong_statement read_statement
  in_statement text = go (bytes_eq (before_first is_blank text) (codes "BYTES"))
    where
      name : List ℕ
      name = before_first is_blank text

      pieces : List (List ℕ)
      pieces = pieces_of (behind_word text)

      go : (t : Bool) → is_some (cond t (wrong_operand ranges 3 1 (replicate 4 Kind.Byte) pieces) (wrong_instruction ranges name pieces (mnemonic_named name)))
          ≡ refuses_statement ranges (cond t (read_bytes pieces) (option_and_then (read_instruction pieces) (mnemonic_named name)))
      go true = in_bytes pieces
      go false = in_instruction name pieces (mnemonic_named name)

  in_rest : (label : Option (List ℕ)) (text : List ℕ) → is_some (wrong_rest ranges text) ≡ refuses_line ranges (read_rest label text)
  in_rest label text = grind (arith, nat_tests, and_false, in_statement, of_line)

  behind_label : (text : List ℕ) (cut : Option (List ℕ × List ℕ)) → is_some (wrong_behind ranges text cut) ≡ refuses_line ranges (read_parts cut)
  behind_label text cut = grind (arith, nat_tests, in_rest)

  in_label : (text : List ℕ) → is_some (wrong_label ranges text) ≡ refuses_line ranges (read_label text)
  unfolding wrong_label read_label
  in_label text = go (begins_lower text)
    where
      go : (t : Bool) → is_some (cond t (wrong_behind ranges text (split_label text)) (wrong_rest ranges text)) ≡ refuses_line ranges (cond t (read_parts (split_label text)) (read_rest None text))
      go true = behind_label text (split_label text)
      go false = in_rest None text

pub told : (bytes : List ℕ) (ranges : Bool) → is_some (wrong_in ranges bytes) ≡ (is_form (read_line bytes) || (ranges && is_range (read_line bytes)))
unfolding wrong_in read_line
told bytes ranges = in_label ranges (skipped (before_first (λ b. b == 35) bytes))
