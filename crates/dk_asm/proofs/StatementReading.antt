-- An instruction is read as the grammar says.
use Rattle.dk_asm.proofs.Imports.{◌≡◌, ◌∙◌, sym, ap, refl, subst, ◌≤◌, ℕ, suc, Bool, true, false, cond, List, [], ◌∷◌, ◌++◌, length, Option, Some, None, append_assoc, append-nil, ◌&&◌, ◌==◌, not, nat_le, codes, list_all, before_first, option_map, option_and_then, bytes_eq, le-leb, leb-true, bytes_eq-Decides, Kind, Mnemonic, row_of, is_blank, AreBlanks, Operand, Statement, IsPiece, AreOperands, IsNamed, IsStatement, behind_word, read_piece, in_front, read_pieces, mnemonic_named, read_bytes, read_instruction, begins_lower, nat_tests, arith}
use Rattle.std.proofs.Common.{replicate}
use Rattle.dk_asm.specs.Reading.{pieces_of, read_statement}
use Rattle.dk_asm.proofs.Booleans.{both_left, both_right, both}
use Rattle.dk_asm.proofs.Cuts.{Clean, Starts, IsWord, before_cut, after_cut, cut_whole, cut_starts, all_both, blanks_start}
use Rattle.dk_asm.proofs.OperandReading.{plain_word, operand_plain}
use Rattle.dk_asm.proofs.PieceReading.{blanks_no_hash, operands_no_hash, commas, some_pieces, operands_are, operands_were}
use Rattle.dk_asm.proofs.Names.{name_word, name_no_hash, name_not_lower, name_not_bytes, name_is, name_was}

-- blanks behind the last operand
wider_piece : (text blanks : List ℕ) (kind : Kind) (o : Operand) → IsPiece text kind o → AreBlanks blanks → IsPiece (text ++ blanks) kind o
wider_piece text blanks kind o is h = record {
  before = is.before;
  word = is.word;
  after = is.after ++ blanks;
  whole = ap (λ t. t ++ blanks) is.whole ∙ append_assoc is.before (is.word ++ is.after) blanks ∙ ap (λ t. is.before ++ t) (append_assoc is.word is.after blanks);
  blank_before = is.blank_before;
  operand = is.operand;
  blank_after = all_both is_blank is.after blanks is.blank_after h;
}

wider : (text blanks : List ℕ) (kind : Kind) (kinds : List Kind) (os : List Operand) → AreOperands text (kind ∷ kinds) os → AreBlanks blanks → AreOperands (text ++ blanks) (kind ∷ kinds) os
wider text blanks kind [] [] are h = absurd are
wider text blanks kind [] (o ∷ []) are h = wider_piece text blanks kind o are h
wider text blanks kind [] (o ∷ p ∷ os) are h = absurd are
wider text blanks kind (next ∷ kinds) [] are h = absurd are
wider text blanks kind (next ∷ kinds) (o ∷ os) are h =
    (are.0, are.1 ++ blanks, ap (λ t. t ++ blanks) are.2 ∙ append_assoc are.0 (44 ∷ are.1) blanks, are.3, wider are.1 blanks next kinds os are.4 h)

-- one blank before the first operand
later_piece : (b : ℕ) (text : List ℕ) (kind : Kind) (o : Operand) → IsPiece text kind o → is_blank b ≡ true → IsPiece (b ∷ text) kind o
later_piece b text kind o is h = record {
  before = b ∷ is.before;
  word = is.word;
  after = is.after;
  whole = ap (λ t. b ∷ t) is.whole;
  blank_before = both (is_blank b) (list_all is_blank is.before) h is.blank_before;
  operand = is.operand;
  blank_after = is.blank_after;
}

later : (b : ℕ) (text : List ℕ) (kind : Kind) (kinds : List Kind) (os : List Operand) → AreOperands text (kind ∷ kinds) os → is_blank b ≡ true → AreOperands (b ∷ text) (kind ∷ kinds) os
later b text kind [] [] are h = absurd are
later b text kind [] (o ∷ []) are h = later_piece b text kind o are h
later b text kind [] (o ∷ p ∷ os) are h = absurd are
later b text kind (next ∷ kinds) [] are h = absurd are
later b text kind (next ∷ kinds) (o ∷ os) are h = (b ∷ are.0, are.1, ap (λ t. b ∷ t) are.2, later_piece b are.0 kind o are.3 h, are.4)

not_both : (b : Bool) → b ≡ true → not b ≡ true → ⊥
not_both b h k = grind (arith, nat_tests)

-- one blank less
module _ (b : ℕ) (blank : is_blank b ≡ true) where
  cut_piece : (text rest : List ℕ) (kind : Kind) (o : Operand) → IsPiece text kind o → text ≡ b ∷ rest → IsPiece rest kind o
  cut_piece text rest kind o is e = go is.before is.word refl refl
    where
      go : (before word : List ℕ) → is.before ≡ before → is.word ≡ word → IsPiece rest kind o
      go [] [] eb ew = absurd ((operand_plain kind is.word o is.operand).some ew)
      go [] (c ∷ word) eb ew =
          let start : text ≡ c ∷ (word ++ is.after) = is.whole ∙ ap (λ t. t ++ (is.word ++ is.after)) eb ∙ ap (λ t. t ++ is.after) ew in
          let same : c ≡ b = let joined = sym start ∙ e in cc in
          let solid = both_left (not (is_blank c)) (list_all (λ x. not (is_blank x)) word) (subst (Clean is_blank) ew (plain_word is.word (operand_plain kind is.word o is.operand)).solid) in
          absurd (not_both (is_blank b) blank (subst (λ x. not (is_blank x) ≡ true) same solid))
      go (c ∷ before) word eb ew =
          let start : text ≡ c ∷ (before ++ (is.word ++ is.after)) = is.whole ∙ ap (λ t. t ++ (is.word ++ is.after)) eb in
          let same : rest ≡ before ++ (is.word ++ is.after) = let joined = sym e ∙ start in cc in
          record {
            before = before;
            word = is.word;
            after = is.after;
            whole = same;
            blank_before = both_right (is_blank c) (list_all is_blank before) (subst AreBlanks eb is.blank_before);
            operand = is.operand;
            blank_after = is.blank_after;
          }

  piece_begins : (text rest : List ℕ) (kind : Kind) (o : Operand) → IsPiece text kind o → (more : List ℕ) → text ++ more ≡ b ∷ rest → (front : List ℕ) × (text ≡ b ∷ front) × (rest ≡ front ++ more)
  piece_begins [] rest kind o is more e = absurd (empty is.before is.word refl refl is.whole)
    where
      empty : (before word : List ℕ) → is.before ≡ before → is.word ≡ word → [] ≡ is.before ++ (is.word ++ is.after) → ⊥
      empty [] [] eb ew w = (operand_plain kind is.word o is.operand).some ew
      empty [] (c ∷ word) eb ew w = let h : [] ≡ c ∷ (word ++ is.after) = w ∙ ap (λ t. t ++ (is.word ++ is.after)) eb ∙ ap (λ t. t ++ is.after) ew in cc
      empty (c ∷ before) word eb ew w = let h : [] ≡ c ∷ (before ++ (is.word ++ is.after)) = w ∙ ap (λ t. t ++ (is.word ++ is.after)) eb in cc
  piece_begins (c ∷ text) rest kind o is more e =
      let same : c ≡ b = cc in
      let others : text ++ more ≡ rest = cc in
      (text, ap (λ x. x ∷ text) same, sym others)

  sooner : (rest : List ℕ) (kind : Kind) (kinds : List Kind) (os : List Operand) → AreOperands (b ∷ rest) (kind ∷ kinds) os → AreOperands rest (kind ∷ kinds) os
  sooner rest kind [] [] are = absurd are
  sooner rest kind [] (o ∷ []) are = cut_piece (b ∷ rest) rest kind o are refl
  sooner rest kind [] (o ∷ p ∷ os) are = absurd are
  sooner rest kind (next ∷ kinds) [] are = absurd are
  sooner rest kind (next ∷ kinds) (o ∷ os) are =
      let begins = piece_begins are.0 rest kind o are.3 (44 ∷ are.1) (sym are.2) in
      (begins.0, are.1, begins.2, cut_piece are.0 begins.0 kind o are.3 begins.1, are.4)

-- operands aren't all blanks
all_back : (p : ℕ → Bool) (xs ys : List ℕ) → list_all p (xs ++ ys) ≡ true → list_all p ys ≡ true
all_back p [] ys h = h
all_back p (x ∷ xs) ys h = all_back p xs ys (both_right (p x) (list_all p (xs ++ ys)) h)

piece_not_blank : (text more : List ℕ) (kind : Kind) (o : Operand) → IsPiece text kind o → AreBlanks (text ++ more) → ⊥
piece_not_blank text more kind o is h =
    let all : AreBlanks (is.before ++ (is.word ++ (is.after ++ more))) =
    subst AreBlanks (ap (λ t. t ++ more) is.whole ∙ append_assoc is.before (is.word ++ is.after) more ∙ ap (λ t. is.before ++ t) (append_assoc is.word is.after more)) h in
    go is.word (plain_word is.word (operand_plain kind is.word o is.operand)) (all_back is_blank is.before (is.word ++ (is.after ++ more)) all)
  where
    go : (word : List ℕ) → IsWord word → AreBlanks (word ++ (is.after ++ more)) → ⊥
    go [] w h = w.some refl
    go (c ∷ word) w h = not_both (is_blank c) (both_left (is_blank c) (list_all is_blank (word ++ (is.after ++ more))) h) (both_left (not (is_blank c)) (list_all (λ x. not (is_blank x)) word) w.solid)

false_or : (b : Bool) → (b ≡ true → ⊥) → b ≡ false
false_or b h = grind (arith, nat_tests)

operands_not_blank : (text : List ℕ) (kind : Kind) (kinds : List Kind) (os : List Operand) → AreOperands text (kind ∷ kinds) os → list_all is_blank text ≡ false
operands_not_blank text kind [] [] are = absurd are
operands_not_blank text kind [] (o ∷ []) are = false_or (list_all is_blank text) (λ h. piece_not_blank text [] kind o are (ap (list_all is_blank) (append-nil text) ∙ h))
operands_not_blank text kind [] (o ∷ p ∷ os) are = absurd are
operands_not_blank text kind (next ∷ kinds) [] are = absurd are
operands_not_blank text kind (next ∷ kinds) (o ∷ os) are =
    false_or (list_all is_blank text) (λ h. piece_not_blank are.0 (44 ∷ are.1) kind o are.3 (ap (list_all is_blank) (sym are.2) ∙ h))

pieces_none : (text : List ℕ) → AreBlanks text → pieces_of text ≡ []
unfolding pieces_of
pieces_none text h = ap (λ t. cond t [] (commas text)) h

pieces_some : (text : List ℕ) → list_all is_blank text ≡ false → pieces_of text ≡ commas text
unfolding pieces_of
pieces_some text h = ap (λ t. cond t [] (commas text)) h

-- a name and its operands, with blanks behind
pub record IsCut (text name : List ℕ) (kinds : List Kind) (os : List Operand) : Type 0 where
  pub name_is : before_first is_blank text ≡ name
  pub operands_are : read_pieces kinds (pieces_of (behind_word text)) ≡ Some os

named_is : (text name blanks : List ℕ) (kinds : List Kind) (os : List Operand) → IsNamed text name kinds os → IsWord name → AreBlanks blanks → IsCut (text ++ blanks) name kinds os
named_is text name blanks [] os is w h = grind (arith, nat_tests, blanks_start, name_is, before_cut, operands_are, after_cut, pieces_none)
named_is text name blanks (kind ∷ kinds) os is w h =
    let behind = is.0 ∷ (is.1 ++ blanks) in
    let same : text ++ blanks ≡ name ++ (is.0 ∷ (is.1 ++ blanks)) = ap (λ t. t ++ blanks) is.2 ∙ append_assoc name (is.0 ∷ is.1) blanks in
    let are = later is.0 (is.1 ++ blanks) kind kinds os (wider is.1 blanks kind kinds os is.4 h) is.3 in
    record {
      name_is = ap (before_first is_blank) same ∙ before_cut is_blank name (is.0 ∷ (is.1 ++ blanks)) w.solid is.3;
      operands_are = ap (λ t. read_pieces (kind ∷ kinds) (pieces_of (behind_word t))) same
          ∙ ap (λ t. read_pieces (kind ∷ kinds) (pieces_of t)) (after_cut is_blank name (is.0 ∷ (is.1 ++ blanks)) w.solid is.3)
          ∙ ap (read_pieces (kind ∷ kinds)) (pieces_some (is.0 ∷ (is.1 ++ blanks)) (operands_not_blank (is.0 ∷ (is.1 ++ blanks)) kind kinds os are))
          ∙ operands_are (is.0 ∷ (is.1 ++ blanks)) kind kinds os are;
    }

pub bytes_word : IsWord (codes "BYTES")
bytes_word = record { solid = refl; some = λ e. absurd (cc) }

-- as many pieces as operands
front_counts : (first : Option Operand) (rest : Option (List Operand)) (os : List Operand) → in_front first rest ≡ Some os → (o : Operand) × (ps : List Operand) × (rest ≡ Some ps) × (os ≡ o ∷ ps)
front_counts None rest os h = absurd (cc)
front_counts (Some o) None os h = absurd (cc)
front_counts (Some o) (Some ps) os h = (o, ps, refl, cc)

count_pieces : (kinds : List Kind) (pieces : List (List ℕ)) (os : List Operand) → read_pieces kinds pieces ≡ Some os → (length pieces ≡ length kinds) × (length os ≡ length kinds)
count_pieces [] [] os h = let none : os ≡ [] = cc in (refl, ap length none)
count_pieces [] (p ∷ pieces) os h = absurd (cc)
count_pieces (kind ∷ kinds) [] os h = absurd (cc)
count_pieces (kind ∷ kinds) (p ∷ pieces) os h =
    let front = front_counts (read_piece kind p) (read_pieces kinds pieces) os h in
    let rest = count_pieces kinds pieces front.1 front.2 in
    (ap suc rest.0, ap length front.3 ∙ ap suc rest.1)

abbrev fits_four : ℕ → Bool
fits_four n = nat_le 1 n && nat_le n 4

four : (n : ℕ) → 1 ≤ n → n ≤ 4 → fits_four n ≡ true
four n h k = both (nat_le 1 n) (nat_le n 4) (le-leb 1 n h) (le-leb n 4 k)

bytes_are : (pieces : List (List ℕ)) (os : List Operand) → 1 ≤ length os → length os ≤ 4 → read_pieces (replicate (length os) Kind.Byte) pieces ≡ Some os → read_bytes pieces ≡ Some (Statement.bytes os)
bytes_are pieces os some few h =
    let counts = count_pieces (replicate (length os) Kind.Byte) pieces os h in
    let same : length pieces ≡ length os = counts.0 ∙ sym counts.1 in
    ap (λ n. cond (fits_four n) (option_map Statement.bytes (read_pieces (replicate n Kind.Byte) pieces)) None) same
    ∙ ap (λ t. cond t (option_map Statement.bytes (read_pieces (replicate (length os) Kind.Byte) pieces)) None) (four (length os) some few)
    ∙ ap (option_map Statement.bytes) h

abbrev statement_from : List ℕ → List (List ℕ) → Option Statement
statement_from name pieces = cond (bytes_eq name (codes "BYTES")) (read_bytes pieces) (option_and_then (read_instruction pieces) (mnemonic_named name))

-- what the grammar says is read
pub statement_is : (text blanks : List ℕ) (s : Statement) → IsStatement text s → AreBlanks blanks → read_statement (text ++ blanks) ≡ Some s
unfolding read_statement
statement_is text blanks (Statement.instruction m os) is h =
    let cut = named_is text (row_of m).name blanks (row_of m).kinds os is (name_word m) h in
    ap (λ name. statement_from name (pieces_of (behind_word (text ++ blanks)))) cut.name_is
    ∙ ap (λ t. cond t (read_bytes (pieces_of (behind_word (text ++ blanks)))) (option_and_then (read_instruction (pieces_of (behind_word (text ++ blanks)))) (mnemonic_named (row_of m).name))) (name_not_bytes m)
    ∙ ap (option_and_then (read_instruction (pieces_of (behind_word (text ++ blanks))))) (name_is m)
    ∙ ap (option_map (Statement.instruction m)) cut.operands_are
statement_is text blanks (Statement.bytes os) is h =
    let cut = named_is text (codes "BYTES") blanks (replicate (length os) Kind.Byte) os is.2 bytes_word h in
    ap (λ name. statement_from name (pieces_of (behind_word (text ++ blanks)))) cut.name_is
    ∙ bytes_are (pieces_of (behind_word (text ++ blanks))) os is.0 is.1 cut.operands_are

-- what is read is what the grammar says, with blanks behind
pub record IsBefore (behind name : List ℕ) (kinds : List Kind) (os : List Operand) : Type 0 where
  pub tail : List ℕ
  pub blanks : List ℕ
  pub whole : behind ≡ tail ++ blanks
  pub named : IsNamed (name ++ tail) name kinds os
  pub blank : AreBlanks blanks

named_was : (behind name : List ℕ) (kinds : List Kind) (os : List Operand) → Starts is_blank behind → read_pieces kinds (pieces_of behind) ≡ Some os → IsBefore behind name kinds os
unfolding pieces_of
named_was behind name [] os starts h = go (list_all is_blank behind) refl h
  where
    go : (t : Bool) → list_all is_blank behind ≡ t → read_pieces [] (cond t [] (commas behind)) ≡ Some os → IsBefore behind name [] os
    go true is h = record { tail = []; blanks = behind; whole = refl; named = (append-nil name, cc); blank = is }
    go false is h =
        let some = some_pieces behind in
        let read = ap (read_pieces []) (sym some.2) ∙ h in
        absurd (cc)
named_was [] name (kind ∷ kinds) os starts h = absurd (cc)
named_was (b ∷ rest) name (kind ∷ kinds) os starts h = go (list_all is_blank (b ∷ rest)) refl h
  where
    go : (t : Bool) → list_all is_blank (b ∷ rest) ≡ t → read_pieces (kind ∷ kinds) (cond t [] (commas (b ∷ rest))) ≡ Some os → IsBefore (b ∷ rest) name (kind ∷ kinds) os
    go true is h = absurd (cc)
    go false is h = record {
      tail = b ∷ rest;
      blanks = [];
      whole = sym (append-nil (b ∷ rest));
      named = (b, rest, refl, starts, sooner b starts rest kind kinds os (operands_were (b ∷ rest) kind kinds os h));
      blank = refl;
    }

pub record IsIn (text : List ℕ) (s : Statement) : Type 0 where
  pub statement : List ℕ
  pub blanks : List ℕ
  pub whole : text ≡ statement ++ blanks
  pub is : IsStatement statement s
  pub blank : AreBlanks blanks

module _ (text : List ℕ) where
  instruction_was : (m : Mnemonic) (s : Statement) → before_first is_blank text ≡ (row_of m).name → read_instruction (pieces_of (behind_word text)) m ≡ Some s → IsIn text s
  instruction_was m s name h = go (read_pieces (row_of m).kinds (pieces_of (behind_word text))) refl h
    where
      go : (r : Option (List Operand)) → read_pieces (row_of m).kinds (pieces_of (behind_word text)) ≡ r → option_map (Statement.instruction m) r ≡ Some s → IsIn text s
      go None is h = absurd (cc)
      go (Some os) is h =
          let cut = named_was (behind_word text) (row_of m).name (row_of m).kinds os (cut_starts is_blank text) is in
          let same : Statement.instruction m os ≡ s = cc in
          record {
            statement = (row_of m).name ++ cut.tail;
            blanks = cut.blanks;
            whole = cut_whole is_blank text ∙ ap (λ n. n ++ behind_word text) name ∙ ap (λ t. (row_of m).name ++ t) cut.whole ∙ sym (append_assoc (row_of m).name cut.tail cut.blanks);
            is = subst (IsStatement ((row_of m).name ++ cut.tail)) same cut.named;
            blank = cut.blank;
          }

  bytes_were : (s : Statement) → before_first is_blank text ≡ codes "BYTES" → read_bytes (pieces_of (behind_word text)) ≡ Some s → IsIn text s
  bytes_were s name h = go (fits_four (length pieces)) refl h
    where
      pieces : List (List ℕ)
      pieces = pieces_of (behind_word text)

      found : (os : List Operand) → fits_four (length pieces) ≡ true → read_pieces (replicate (length pieces) Kind.Byte) pieces ≡ Some os → Statement.bytes os ≡ s → IsIn text s
      found os fits read same =
          let counts = count_pieces (replicate (length pieces) Kind.Byte) pieces os read in
          let count : length pieces ≡ length os = counts.0 ∙ sym counts.1 in
          let some : 1 ≤ length os = subst (λ n. 1 ≤ n) count (leb-true 1 (length pieces) (both_left (nat_le 1 (length pieces)) (nat_le (length pieces) 4) fits)) in
          let few : length os ≤ 4 = subst (λ n. n ≤ 4) count (leb-true (length pieces) 4 (both_right (nat_le 1 (length pieces)) (nat_le (length pieces) 4) fits)) in
          let cut = named_was (behind_word text) (codes "BYTES") (replicate (length os) Kind.Byte) os (cut_starts is_blank text) (ap (λ n. read_pieces (replicate n Kind.Byte) pieces) (sym count) ∙ read) in
          record {
            statement = codes "BYTES" ++ cut.tail;
            blanks = cut.blanks;
            whole = cut_whole is_blank text ∙ ap (λ n. n ++ behind_word text) name ∙ ap (λ t. codes "BYTES" ++ t) cut.whole ∙ sym (append_assoc (codes "BYTES") cut.tail cut.blanks);
            is = subst (IsStatement (codes "BYTES" ++ cut.tail)) same (some, few, cut.named);
            blank = cut.blank;
          }

      inner : (r : Option (List Operand)) → fits_four (length pieces) ≡ true → read_pieces (replicate (length pieces) Kind.Byte) pieces ≡ r → option_map Statement.bytes r ≡ Some s → IsIn text s
      inner None fits is h = absurd (cc)
      inner (Some os) fits is h = found os fits is cc

      go : (t : Bool) → fits_four (length pieces) ≡ t → cond t (option_map Statement.bytes (read_pieces (replicate (length pieces) Kind.Byte) pieces)) None ≡ Some s → IsIn text s
      go true is h = inner (read_pieces (replicate (length pieces) Kind.Byte) pieces) is refl h
      go false is h = absurd (cc)

  pub statement_was : (s : Statement) → read_statement text ≡ Some s → IsIn text s
  unfolding read_statement
  statement_was s h = go (bytes_eq (before_first is_blank text) (codes "BYTES")) refl h
    where
      named : (r : Option Mnemonic) → mnemonic_named (before_first is_blank text) ≡ r → option_and_then (read_instruction (pieces_of (behind_word text))) r ≡ Some s → IsIn text s
      named None is h = absurd (cc)
      named (Some m) is h = instruction_was m s (name_was (before_first is_blank text) m is) h

      go : (t : Bool) → bytes_eq (before_first is_blank text) (codes "BYTES") ≡ t
          → cond t (read_bytes (pieces_of (behind_word text))) (option_and_then (read_instruction (pieces_of (behind_word text))) (mnemonic_named (before_first is_blank text))) ≡ Some s
          → IsIn text s
      go true is h = bytes_were s ((bytes_eq-Decides (before_first is_blank text) (codes "BYTES")).0 is) h
      go false is h = named (mnemonic_named (before_first is_blank text)) refl h

-- how an instruction begins, and that it has no `#`
named_no_hash : (text name : List ℕ) (kinds : List Kind) (os : List Operand) → IsNamed text name kinds os → Clean (λ b. b == 35) name → Clean (λ b. b == 35) text
named_no_hash text name kinds os is h = grind (arith, nat_tests, Clean, all_both, both, both_left, blanks_no_hash, operands_no_hash)

pub statement_no_hash : (text : List ℕ) (s : Statement) → IsStatement text s → Clean (λ b. b == 35) text
statement_no_hash text s is = grind (arith, nat_tests, named_no_hash, name_no_hash)

-- the text begins with its name
named_begins : (text name : List ℕ) (kinds : List Kind) (os : List Operand) → IsNamed text name kinds os → (rest : List ℕ) × (text ≡ name ++ rest)
named_begins text name [] os is = ([], is.0 ∙ sym (append-nil name))
named_begins text name (kind ∷ kinds) os is = (is.0 ∷ is.1, is.2)

pub record BeginsStatement (text : List ℕ) : Type 0 where
  pub name : List ℕ
  pub rest : List ℕ
  pub whole : text ≡ name ++ rest
  pub word : IsWord name
  pub not_lower : (more : List ℕ) → begins_lower (name ++ more) ≡ false

pub statement_begins : (text : List ℕ) (s : Statement) → IsStatement text s → BeginsStatement text
statement_begins text (Statement.instruction m os) is = grind (arith, nat_tests, named_begins, name_word, name_not_lower)
statement_begins text (Statement.bytes os) is = grind (arith, nat_tests, named_begins, bytes_word)
