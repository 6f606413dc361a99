-- The pieces between commas are read as the operands that the grammar says.
use Rattle.dk_asm.proofs.Imports.{◌≡◌, ◌∙◌, sym, ap, refl, subst, ℕ, true, List, [], ◌∷◌, ◌++◌, arith, Option, Some, None, inl, inr, append-nil, ◌==◌, ◌⊎◌, not, slice_split, before_first, option_and_then, nat_tests, slice_split_at, slice_split_none, Kind, is_blank, AreBlanks, Operand, IsPiece, AreOperands, only_word, read_operand, read_piece, in_front, read_pieces}
use Rattle.dk_asm.proofs.Cuts.{Clean, Starts, from_first, cut_whole, cut_clean, cut_starts, clean_all, all_both, all_more, only_word_is, only_word_was}
use Rattle.dk_asm.proofs.OperandReading.{plain_word, plain_commas, plain_hashes, operand_is, operand_was, operand_plain}

piece_is : (text : List ℕ) (kind : Kind) (o : Operand) → IsPiece text kind o → read_piece kind text ≡ Some o
piece_is text kind o is = grind (arith, nat_tests, only_word_is, plain_word, operand_plain, operand_is)

piece_was : (text : List ℕ) (kind : Kind) (o : Operand) → read_piece kind text ≡ Some o → IsPiece text kind o
piece_was text kind o h = go (only_word text) refl h
  where
    go : (w : Option (List ℕ)) → only_word text ≡ w → option_and_then (read_operand kind) w ≡ Some o → IsPiece text kind o
    go None is h = absurd (cc)
    go (Some word) is h =
        let around = only_word_was text word is in
        record {
          before = around.before;
          word = word;
          after = around.after;
          whole = around.whole;
          blank_before = around.blank_before;
          operand = operand_was kind word o h;
          blank_after = around.blank_after;
        }

blank_no_comma : (b : ℕ) → is_blank b ≡ true → not (b == 44) ≡ true
blank_no_comma b h = grind (arith, nat_tests)

blank_no_hash : (b : ℕ) → is_blank b ≡ true → not (b == 35) ≡ true
blank_no_hash b h = grind (arith, nat_tests)

pub blanks_no_hash : (bytes : List ℕ) → AreBlanks bytes → Clean (λ b. b == 35) bytes
blanks_no_hash bytes h = all_more is_blank (λ b. not (b == 35)) blank_no_hash bytes h

blanks_no_comma : (bytes : List ℕ) → AreBlanks bytes → Clean (λ b. b == 44) bytes
blanks_no_comma bytes h = all_more is_blank (λ b. not (b == 44)) blank_no_comma bytes h

piece_commas : (text : List ℕ) (kind : Kind) (o : Operand) → IsPiece text kind o → Clean (λ b. b == 44) text
piece_commas text kind o is = grind (arith, nat_tests, Clean, all_both, blanks_no_comma, plain_commas, operand_plain)

piece_hashes : (text : List ℕ) (kind : Kind) (o : Operand) → IsPiece text kind o → Clean (λ b. b == 35) text
piece_hashes text kind o is = grind (arith, nat_tests, Clean, all_both, blanks_no_hash, plain_hashes, operand_plain)

pub operands_no_hash : (text : List ℕ) (kind : Kind) (kinds : List Kind) (os : List Operand) → AreOperands text (kind ∷ kinds) os → Clean (λ b. b == 35) text
operands_no_hash text kind [] [] are = absurd are
operands_no_hash text kind [] (o ∷ []) are = piece_hashes text kind o are
operands_no_hash text kind [] (o ∷ p ∷ os) are = absurd are
operands_no_hash text kind (next ∷ kinds) [] are = absurd are
operands_no_hash text kind (next ∷ kinds) (o ∷ os) are =
    subst (Clean (λ b. b == 35)) (sym are.2)
    (all_both (λ b. not (b == 35)) are.0 (44 ∷ are.1) (piece_hashes are.0 kind o are.3) (operands_no_hash are.1 next kinds os are.4))

abbrev pub commas : List ℕ → List (List ℕ)
commas text = slice_split (λ b. b == 44) text

-- a first operand and others
front_is : (kind : Kind) (piece : List ℕ) (o : Operand) (rest : Option (List Operand)) (os : List Operand) → read_piece kind piece ≡ Some o → rest ≡ Some os → in_front (read_piece kind piece) rest ≡ Some (o ∷ os)
front_is kind piece o rest os is others = rw (is, others) refl

front_was : (first : Option Operand) (rest : Option (List Operand)) (os : List Operand) → in_front first rest ≡ Some os
    → (o : Operand) × (ps : List Operand) × (first ≡ Some o) × (rest ≡ Some ps) × (os ≡ o ∷ ps)
front_was None rest os h = absurd (cc)
front_was (Some o) None os h = absurd (cc)
front_was (Some o) (Some ps) os h = (o, ps, refl, refl, cc)

pub operands_are : (text : List ℕ) (kind : Kind) (kinds : List Kind) (os : List Operand) → AreOperands text (kind ∷ kinds) os → read_pieces (kind ∷ kinds) (commas text) ≡ Some os
operands_are text kind [] [] are = absurd are
operands_are text kind [] (o ∷ []) are =
    ap (read_pieces (kind ∷ [])) (slice_split_none (λ b. b == 44) text (clean_all (λ b. b == 44) text (piece_commas text kind o are)))
    ∙ front_is kind text o (Some []) [] (piece_is text kind o are) refl
operands_are text kind [] (o ∷ p ∷ os) are = absurd are
operands_are text kind (next ∷ kinds) [] are = absurd are
operands_are text kind (next ∷ kinds) (o ∷ os) are =
    ap (λ t. read_pieces (kind ∷ next ∷ kinds) (commas t)) are.2
    ∙ ap (read_pieces (kind ∷ next ∷ kinds)) (slice_split_at (λ b. b == 44) are.0 44 are.1 (clean_all (λ b. b == 44) are.0 (piece_commas are.0 kind o are.3)) refl)
    ∙ front_is kind are.0 o (read_pieces (next ∷ kinds) (commas are.1)) os (piece_is are.0 kind o are.3) (operands_are are.1 next kinds os are.4)

-- a text has no comma, or it is cut at the first
pub record HasComma (text : List ℕ) : Type 0 where
  pub piece : List ℕ
  pub rest : List ℕ
  pub whole : text ≡ piece ++ 44 ∷ rest
  pub split : commas text ≡ piece ∷ commas rest

comma : (b : ℕ) → (b == 44) ≡ true → b ≡ 44
comma b h = grind (arith, nat_tests)

comma_or_none : (text : List ℕ) → HasComma text ⊎ (commas text ≡ text ∷ [])
comma_or_none text = go (from_first (λ b. b == 44) text) refl
  where
    go : (rest : List ℕ) → from_first (λ b. b == 44) text ≡ rest → HasComma text ⊎ (commas text ≡ text ∷ [])
    go [] is =
        let same : text ≡ before_first (λ b. b == 44) text = cut_whole (λ b. b == 44) text ∙ ap (λ r. before_first (λ b. b == 44) text ++ r) is ∙ append-nil (before_first (λ b. b == 44) text) in
        inr (slice_split_none (λ b. b == 44) text (clean_all (λ b. b == 44) text (subst (Clean (λ b. b == 44)) (sym same) (cut_clean (λ b. b == 44) text))))
    go (b ∷ rest) is =
        let first : b ≡ 44 = comma b (subst (Starts (λ b. b == 44)) is (cut_starts (λ b. b == 44) text)) in
        let whole : text ≡ before_first (λ b. b == 44) text ++ 44 ∷ rest = cut_whole (λ b. b == 44) text ∙ ap (λ r. before_first (λ b. b == 44) text ++ r) (is ∙ ap (λ c. c ∷ rest) first) in
        inl (record {
          piece = before_first (λ b. b == 44) text;
          rest = rest;
          whole = whole;
          split = ap commas whole ∙ slice_split_at (λ b. b == 44) (before_first (λ b. b == 44) text) 44 rest (clean_all (λ b. b == 44) (before_first (λ b. b == 44) text) (cut_clean (λ b. b == 44) text)) refl;
        })

pub some_pieces : (text : List ℕ) → (p : List ℕ) × (ps : List (List ℕ)) × (commas text ≡ p ∷ ps)
some_pieces text = go (comma_or_none text)
  where
    go : HasComma text ⊎ (commas text ≡ text ∷ []) → (p : List ℕ) × (ps : List (List ℕ)) × (commas text ≡ p ∷ ps)
    go (inl has) = (has.piece, commas has.rest, has.split)
    go (inr none) = (text, [], none)

last_was : (kind : Kind) (text : List ℕ) (os : List Operand) → read_pieces (kind ∷ []) (text ∷ []) ≡ Some os → AreOperands text (kind ∷ []) os
last_was kind text os h = grind (arith, nat_tests, front_was, piece_was)

pub operands_were : (text : List ℕ) (kind : Kind) (kinds : List Kind) (os : List Operand) → read_pieces (kind ∷ kinds) (commas text) ≡ Some os → AreOperands text (kind ∷ kinds) os
operands_were text kind [] os h = go (comma_or_none text)
  where
    go : HasComma text ⊎ (commas text ≡ text ∷ []) → AreOperands text (kind ∷ []) os
    go (inr none) = last_was kind text os (ap (read_pieces (kind ∷ [])) (sym none) ∙ h)
    go (inl has) =
        let more = some_pieces has.rest in
        let read = ap (λ ps. read_pieces (kind ∷ []) (has.piece ∷ ps)) (sym more.2) ∙ ap (read_pieces (kind ∷ [])) (sym has.split) ∙ h in
        let front = front_was (read_piece kind has.piece) None os read in
        absurd (cc)
operands_were text kind (next ∷ kinds) os h = go (comma_or_none text) (λ rest ps. operands_were rest next kinds ps)
  where
    go : HasComma text ⊎ (commas text ≡ text ∷ []) → ((rest : List ℕ) (ps : List Operand) → read_pieces (next ∷ kinds) (commas rest) ≡ Some ps → AreOperands rest (next ∷ kinds) ps)
        → AreOperands text (kind ∷ next ∷ kinds) os
    go (inr none) further =
        let read = ap (read_pieces (kind ∷ next ∷ kinds)) (sym none) ∙ h in
        let front = front_was (read_piece kind text) None os read in
        absurd (cc)
    go (inl has) further =
        let read = ap (read_pieces (kind ∷ next ∷ kinds)) (sym has.split) ∙ h in
        let front = front_was (read_piece kind has.piece) (read_pieces (next ∷ kinds) (commas has.rest)) os read in
        subst (AreOperands text (kind ∷ next ∷ kinds)) (sym front.4) (has.piece, has.rest, has.whole, piece_was has.piece kind front.0 front.2, further has.rest front.1 front.3)
