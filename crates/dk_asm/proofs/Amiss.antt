-- What is told of a line isn't what is wanted there.
use Rattle.dk_asm.proofs.Imports.{◌≡◌, ◌∙◌, sym, ap, refl, ◌<◌, ◌≤◌, ◌-◌, ℕ, zero, suc, Bool, true, false, cond, List, [], ◌∷◌, ◌++◌, length, get_or, take, drop, drop-cons, arith, Option, Some, None, IfSome, ◌==◌, nat_le, replicate, codes, list_all, before_first, option_and_then, bytes_eq, Kind, Mnemonic, Operand, IsOperand, is_solid, skipped, only_word, read_operand, read_piece, pieces_of, behind_word, mnemonic_named, begins_lower, split_label, Reason, reason, without_end, trimmed, is_wrong, wrong_end, wrong_operand, wrong_instruction, wrong_rest, wrong_behind, IsAmiss, is_blank, AreBlanks, nat_tests}
use Rattle.dk_asm.specs.declared.reasons.Wanted.TheVariants as wanted
use Rattle.dk_asm.specs.Reasons.{wrong_statement, wrong_label, wrong_in}
use Rattle.dk_asm.proofs.Booleans.{each_place, both}
use Rattle.dk_asm.proofs.Cuts.{all_blank, cut_clean, cut_whole, only_word_is}
use Rattle.dk_asm.proofs.Names.{name_is}
use Rattle.dk_asm.proofs.OperandReading.{operand_is, operand_plain, plain_word}

-- a loop that goes back over the blanks behind
pub one_back : (bytes : List ℕ) (end : ℕ) → 0 < end → end ≤ length bytes → is_blank (get_or bytes (end - 1) 0) ≡ true → list_all is_blank (drop end bytes) ≡ true → list_all is_blank (drop (end - 1) bytes) ≡ true
one_back bytes end some within blank rest =
    let next : suc (end - 1) ≡ end = omega arith in
    let whole : drop (end - 1) bytes ≡ get_or bytes (end - 1) 0 ∷ drop end bytes =
    drop-cons bytes (end - 1) 0 (omega arith) ∙ ap (λ k. get_or bytes (end - 1) 0 ∷ drop k bytes) next in
    ap (list_all is_blank) whole ∙ both (is_blank (get_or bytes (end - 1) 0)) (list_all is_blank (drop end bytes)) blank rest

not_all : (bytes : List ℕ) (k : ℕ) → k < length bytes → is_blank (get_or bytes k 0) ≡ false → list_all is_blank bytes ≡ false
not_all bytes k below solid = go (list_all is_blank bytes) refl
  where
    go : (t : Bool) → list_all is_blank bytes ≡ t → list_all is_blank bytes ≡ false
    go false is = is
    go true is = let blank = each_place is_blank bytes is k 0 below in absurd (cc)

pub ends : (bytes : List ℕ) (end : ℕ) → end ≤ length bytes → list_all is_blank (drop end bytes) ≡ true → ((k : ℕ) → end ≡ suc k → is_blank (get_or bytes k 0) ≡ false) → take end bytes ≡ without_end bytes
ends [] zero within blank solid = refl
ends [] (suc e) within blank solid = refl
ends (b ∷ bytes) zero within blank solid = sym (ap (λ t. cond t [] (b ∷ without_end bytes)) blank)
ends (b ∷ bytes) (suc e) within blank solid =
    ap (λ rest. b ∷ rest) (ends bytes e (omega arith) blank (λ k is. solid (suc k) (ap suc is)))
    ∙ sym (ap (λ t. cond t [] (b ∷ without_end bytes)) (not_all (b ∷ bytes) e (omega arith) (solid e refl)))

pub last_solid : (bytes : List ℕ) (end k : ℕ) → is_blank (get_or bytes (end - 1) 0) ≡ false → end ≡ suc k → is_blank (get_or bytes k 0) ≡ false
last_solid bytes end k solid is = grind (arith, nat_tests)

-- blanks behind
record IsBack (bytes : List ℕ) : Type 0 where
  after : List ℕ
  whole : bytes ≡ without_end bytes ++ after
  blank : AreBlanks after

back : (bytes : List ℕ) → IsBack bytes
back [] = record { after = []; whole = refl; blank = refl }
back (b ∷ bytes) = go (list_all is_blank (b ∷ bytes)) refl (back bytes)
  where
    go : (t : Bool) → list_all is_blank (b ∷ bytes) ≡ t → IsBack bytes → IsBack (b ∷ bytes)
    go true is rest = record { after = b ∷ bytes; whole = sym (ap (λ t. cond t [] (b ∷ without_end bytes) ++ b ∷ bytes) is); blank = is }
    go false is rest = record { after = rest.after; whole = ap (λ r. b ∷ r) rest.whole ∙ sym (ap (λ t. cond t [] (b ∷ without_end bytes) ++ rest.after) is); blank = rest.blank }

-- what is written between the blanks is what is read
read_told : (kind : Kind) (piece : List ℕ) (o : Operand) → IsOperand kind (trimmed piece) o → read_piece kind piece ≡ Some o
read_told kind piece o is =
    let behind = back (skipped piece) in
    let front : AreBlanks (before_first is_solid piece) = all_blank (before_first is_solid piece) (cut_clean is_solid piece) in
    let whole : piece ≡ before_first is_solid piece ++ (trimmed piece ++ behind.after) = cut_whole is_solid piece ∙ ap (λ rest. before_first is_solid piece ++ rest) behind.whole in
    let word = plain_word (trimmed piece) (operand_plain kind (trimmed piece) o is) in
    ap (λ w. option_and_then (read_operand kind) w) (ap only_word whole ∙ only_word_is (before_first is_solid piece) (trimmed piece) behind.after front word behind.blank)
    ∙ operand_is kind (trimmed piece) o is

nothing_written : (kind : Kind) (o : Operand) → IsOperand kind [] o → ⊥
nothing_written kind o is = (plain_word [] (operand_plain kind [] o is)).some refl

module _ (ranges : Bool) where
  abbrev Amiss : Option Reason → Type 0
  Amiss r = IfSome r (λ told. IsAmiss ranges told.text told.wanted)

  at_end : (optional k : ℕ) (kinds : List Kind) → Amiss (wrong_end optional k kinds)
  at_end optional k [] = tt
  at_end optional k (kind ∷ kinds) = go (nat_le (length (kind ∷ kinds)) optional)
    where
      go : (t : Bool) → Amiss (cond t None (Some (reason [] k (wanted.Operand kind))))
      go true = tt
      go false = λ o is. absurd (nothing_written kind o is)

  each : (optional k : ℕ) (kinds : List Kind) (pieces : List (List ℕ)) → Amiss (wrong_operand ranges optional k kinds pieces)
  each optional k kinds [] = at_end optional k kinds
  each optional k [] (piece ∷ pieces) = tt
  each optional k (kind ∷ kinds) (piece ∷ pieces) = go (is_wrong ranges (read_piece kind piece)) refl (each optional (suc k) kinds pieces)
    where
      go : (t : Bool) → is_wrong ranges (read_piece kind piece) ≡ t → Amiss (wrong_operand ranges optional (suc k) kinds pieces)
          → Amiss (cond t (Some (reason (trimmed piece) k (wanted.Operand kind))) (wrong_operand ranges optional (suc k) kinds pieces))
      go true wrong rest = λ o is. sym (ap (is_wrong ranges) (read_told kind piece o is)) ∙ wrong
      go false wrong rest = rest

  in_instruction : (name : List ℕ) (pieces : List (List ℕ)) (found : Option Mnemonic) → mnemonic_named name ≡ found → Amiss (wrong_instruction ranges name pieces found)
  in_instruction name pieces found is = grind (arith, nat_tests, name_is, each)

  in_statement : (text : List ℕ) → Amiss (wrong_statement ranges text)
  unfolding wrong_statement
  in_statement text = go (bytes_eq (before_first is_blank text) (codes "BYTES"))
    where
      go : (t : Bool)
          → Amiss (cond t (wrong_operand ranges 3 1 (replicate 4 Kind.Byte) (pieces_of (behind_word text))) (wrong_instruction ranges (before_first is_blank text) (pieces_of (behind_word text)) (mnemonic_named (before_first is_blank text))))
      go true = each 3 1 (replicate 4 Kind.Byte) (pieces_of (behind_word text))
      go false = in_instruction (before_first is_blank text) (pieces_of (behind_word text)) (mnemonic_named (before_first is_blank text)) refl

  in_rest : (text : List ℕ) → Amiss (wrong_rest ranges text)
  in_rest text = grind (arith, nat_tests, in_statement)

  behind_label : (text : List ℕ) (cut : Option (List ℕ × List ℕ)) → Amiss (wrong_behind ranges text cut)
  behind_label text cut = grind (arith, nat_tests, in_rest)

  in_label : (text : List ℕ) → Amiss (wrong_label ranges text)
  unfolding wrong_label
  in_label text = go (begins_lower text)
    where
      go : (t : Bool) → Amiss (cond t (wrong_behind ranges text (split_label text)) (wrong_rest ranges text))
      go true = behind_label text (split_label text)
      go false = in_rest text

pub amiss : (bytes : List ℕ) (ranges : Bool) → IfSome (wrong_in ranges bytes) (λ r. IsAmiss ranges r.text r.wanted)
unfolding wrong_in
amiss bytes ranges = in_label ranges (skipped (before_first (λ b. b == 35) bytes))
