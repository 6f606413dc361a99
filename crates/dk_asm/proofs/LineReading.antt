-- A line is read as the grammar says.
use Rattle.dk_asm.proofs.Imports.{◌≡◌, ◌≢◌, ◌∙◌, sym, ap, refl, subst, ◌<◌, ◌+◌, ℕ, Bool, true, false, cond, List, [], ◌∷◌, ◌++◌, length, take, drop, arith, Option, Some, None, append_assoc, length-append, ◌==◌, not, nat_lt, position, list_all, before_first, option_map, option_and_then, lt-ltb, nat_tests, take_at, drop_at, is_name, is_lower, is_word, is_blank, AreBlanks, Statement, Parts, IsStatement, IsLabelPart, IsStatementPart, IsComment, IsLine, is_solid, skipped, read_statement, parts, read_rest, begins_lower, split_label, read_parts}
use Rattle.dk_asm.specs.Reading.{read_label, read_line}
use Rattle.dk_asm.proofs.Booleans.{both_right}
use Rattle.dk_asm.proofs.Cuts.{Clean, Starts, from_first, cut_place, before_cut, at_place, cut_whole, cut_clean, cut_starts, all_both, all_more, all_blank, skips, skips_all, word_starts}
use Rattle.dk_asm.proofs.OperandReading.{plain_hashes, name_plain, name_first}
use Rattle.dk_asm.proofs.PieceReading.{blanks_no_hash}
use Rattle.dk_asm.proofs.StatementReading.{statement_is, statement_was, statement_no_hash, statement_begins}

-- what stands behind the label
rest_some : (label : Option (List ℕ)) (text : List ℕ) → text ≢ [] → read_rest label text ≡ option_map (λ s. parts label (Some s)) (read_statement text)
rest_some label text some = grind (arith, nat_tests)

not_empty : (name rest : List ℕ) → name ≢ [] → name ++ rest ≢ []
not_empty [] rest some = absurd (some refl)
not_empty (b ∷ name) rest some = λ e. absurd (cc)

-- blanks before an instruction are skipped
skips_to : (between statement behind : List ℕ) (s : Statement) → AreBlanks between → IsStatement statement s → skipped (between ++ (statement ++ behind)) ≡ statement ++ behind
skips_to between statement behind s h is = grind (arith, nat_tests, statement_begins, skips, Starts, word_starts)

starts_name : (statement behind : List ℕ) (s : Statement) → IsStatement statement s → (more : List ℕ) × (begins_lower (statement ++ behind) ≡ false) × (statement ++ behind ≢ [])
starts_name statement behind s is =
    let begins = statement_begins statement s is in
    let same : statement ++ behind ≡ begins.name ++ (begins.rest ++ behind) = ap (λ t. t ++ behind) begins.whole ∙ append_assoc begins.name begins.rest behind in
    (begins.rest ++ behind, ap begins_lower same ∙ begins.not_lower (begins.rest ++ behind), λ e. not_empty begins.name (begins.rest ++ behind) begins.word.some (sym same ∙ e))

module _ (between statement behind : List ℕ) (front : AreBlanks between) (back : AreBlanks behind) where
  all_blanks : statement ≡ [] → skipped (between ++ (statement ++ behind)) ≡ []
  all_blanks none = ap (λ t. skipped (between ++ (t ++ behind))) none ∙ skips_all (between ++ behind) (all_both is_blank between behind front back)

  rest_is : (label : Option (List ℕ)) (s : Option Statement) → IsStatementPart statement s → read_rest label (skipped (between ++ (statement ++ behind))) ≡ Some (parts label s)
  rest_is label s is = grind (arith, nat_tests, all_blanks, skips_to, rest_some, starts_name, statement_is)

  no_label : (s : Option Statement) → IsStatementPart statement s → begins_lower (skipped (between ++ (statement ++ behind))) ≡ false
  no_label s is = grind (arith, nat_tests, all_blanks, skips_to, starts_name)

-- blanks in front don't matter
skips_more : (blanks rest : List ℕ) → AreBlanks blanks → skipped (blanks ++ rest) ≡ skipped rest
skips_more blanks rest h =
    let front = before_first is_solid rest in
    let blank = all_blank (before_first is_solid rest) (cut_clean is_solid rest) in
    ap (λ t. skipped (blanks ++ t)) (cut_whole is_solid rest)
    ∙ ap skipped (sym (append_assoc blanks (before_first is_solid rest) (skipped rest)))
    ∙ skips (blanks ++ before_first is_solid rest) (skipped rest) (all_both is_blank blanks (before_first is_solid rest) h blank) (cut_starts is_solid rest)

word_no_colon : (b : ℕ) → is_word b ≡ true → not (b == 58) ≡ true
word_no_colon b h = grind (arith, nat_tests)

name_no_colon : (name : List ℕ) → is_name name ≡ true → Clean (λ b. b == 58) name
name_no_colon name h = all_more is_word (λ b. not (b == 58)) word_no_colon name (both_right _ (list_all is_word name) h)

lower_solid : (b : ℕ) → is_lower b ≡ true → is_solid b ≡ true
lower_solid b h = grind (arith, nat_tests)

name_begins : (name rest : List ℕ) → is_name name ≡ true → (begins_lower (name ++ rest) ≡ true) × Starts is_solid (name ++ rest)
name_begins [] rest h = absurd (cc)
name_begins (b ∷ name) rest h = (name_first b name h, lower_solid b (name_first b name h))

colon_at : (name rest : List ℕ) → is_name name ≡ true → position (λ b. b == 58) (name ++ 58 ∷ rest) ≡ Some (length name)
colon_at name rest h =
    let place = cut_place (λ b. b == 58) name (58 ∷ rest) (name_no_colon name h) refl in
    let inside : length name < length (name ++ 58 ∷ rest) = omega (arith, length-append name (58 ∷ rest)) in
    ap (λ n. cond (nat_lt n (length (name ++ 58 ∷ rest))) (Some n) None) place
    ∙ ap (λ t. cond t (Some (length name)) None) (lt-ltb (length name) (length (name ++ 58 ∷ rest)) inside)

one_more : (name rest : List ℕ) → drop (length name + 1) (name ++ 58 ∷ rest) ≡ rest
one_more name rest =
    let whole : name ++ 58 ∷ rest ≡ (name ++ 58 ∷ []) ++ rest = sym (append_assoc name (58 ∷ []) rest) in
    ap (drop (length name + 1)) whole ∙ drop_at (name ++ 58 ∷ []) rest (length name + 1) (length-append name (58 ∷ []))

split_is : (name rest : List ℕ) → is_name name ≡ true → split_label (name ++ 58 ∷ rest) ≡ Some (name, rest)
split_is name rest h = grind (arith, nat_tests, take_at, colon_at, one_more)

comment_starts : (comment : List ℕ) → IsComment comment → Starts (λ b. b == 35) comment
comment_starts comment is = grind (arith, nat_tests)

label_no_hash : (text : List ℕ) (label : Option (List ℕ)) → IsLabelPart text label → Clean (λ b. b == 35) text
label_no_hash text label is = grind (arith, nat_tests, Clean, all_both, plain_hashes, name_plain)

statement_part_no_hash : (text : List ℕ) (s : Option Statement) → IsStatementPart text s → Clean (λ b. b == 35) text
statement_part_no_hash text s is = grind (arith, nat_tests, Clean, statement_no_hash)

-- what stands before the comment
label_is : (before label between statement behind : List ℕ) (p : Parts) → AreBlanks before → IsLabelPart label p.label → AreBlanks between → IsStatementPart statement p.statement → AreBlanks behind
    → read_label (skipped (before ++ (label ++ (between ++ (statement ++ behind))))) ≡ Some p
unfolding read_label
label_is before label between statement behind p h is i has j = go p.label refl is
  where
    tail : List ℕ
    tail = between ++ (statement ++ behind)

    go : (name : Option (List ℕ)) → p.label ≡ name → IsLabelPart label name → read_label (skipped (before ++ (label ++ (between ++ (statement ++ behind))))) ≡ Some p
    go None e is =
        let text : skipped (before ++ (label ++ tail)) ≡ skipped tail = ap (λ t. skipped (before ++ (t ++ tail))) is ∙ skips_more before tail h in
        ap read_label text
        ∙ ap (λ t. cond t (read_parts (split_label (skipped tail))) (read_rest None (skipped tail))) (no_label between statement behind i j p.statement has)
        ∙ rest_is between statement behind i j None p.statement has
        ∙ ap (λ l. Some (parts l p.statement)) (sym e)
    go (Some name) e is =
        let whole : label ++ tail ≡ name ++ 58 ∷ tail = ap (λ t. t ++ tail) is.0 ∙ append_assoc name (58 ∷ []) tail in
        let begins = name_begins name (58 ∷ tail) is.1 in
        let text : skipped (before ++ (label ++ tail)) ≡ name ++ 58 ∷ tail = ap (λ t. skipped (before ++ t)) whole ∙ skips before (name ++ 58 ∷ tail) h begins.1 in
        ap read_label text
        ∙ ap (λ t. cond t (read_parts (split_label (name ++ 58 ∷ tail))) (read_rest None (name ++ 58 ∷ tail))) begins.0
        ∙ ap read_parts (split_is name tail is.1)
        ∙ rest_is between statement behind i j (Some name) p.statement has
        ∙ ap (λ l. Some (parts l p.statement)) (sym e)

pub line_is : (bytes : List ℕ) (p : Parts) → IsLine bytes p → read_line bytes ≡ Some p
unfolding read_line
line_is bytes p is =
    let front = is.before ++ (is.label ++ (is.between ++ (is.statement ++ is.behind))) in
    let whole : bytes ≡ (is.before ++ (is.label ++ (is.between ++ (is.statement ++ is.behind)))) ++ is.comment = is.whole ∙ sym (simp append_assoc) in
    let clean =
    all_both (λ b. not (b == 35)) is.before (is.label ++ (is.between ++ (is.statement ++ is.behind))) (blanks_no_hash is.before is.blank_before)
    (all_both (λ b. not (b == 35)) is.label (is.between ++ (is.statement ++ is.behind)) (label_no_hash is.label p.label is.label_part)
    (all_both (λ b. not (b == 35)) is.between (is.statement ++ is.behind) (blanks_no_hash is.between is.blank_between)
    (all_both (λ b. not (b == 35)) is.statement is.behind (statement_part_no_hash is.statement p.statement is.statement_part) (blanks_no_hash is.behind is.blank_behind)))) in
    ap (λ t. read_label (skipped (before_first (λ b. b == 35) t))) whole
    ∙ ap (λ t. read_label (skipped t)) (before_cut (λ b. b == 35) (is.before ++ (is.label ++ (is.between ++ (is.statement ++ is.behind)))) is.comment clean (comment_starts is.comment is.comment_part))
    ∙ label_is is.before is.label is.between is.statement is.behind p is.blank_before is.label_part is.blank_between is.statement_part is.blank_behind

-- what is read is a line with these parts
abbrev SaysRest : List ℕ → Option (List ℕ) → Parts → Type 0
SaysRest text label p = (statement blanks : List ℕ) × (text ≡ statement ++ blanks) × IsStatementPart statement p.statement × AreBlanks blanks × (p.label ≡ label)

rest_was : (label : Option (List ℕ)) (text : List ℕ) (p : Parts) → read_rest label text ≡ Some p → SaysRest text label p
rest_was label [] p h =
    let same : parts label None ≡ p = cc in
    subst (SaysRest [] label) same ([], [], refl, refl, refl, refl)
rest_was label (b ∷ text) p h = go (read_statement (b ∷ text)) refl h
  where
    go : (r : Option Statement) → read_statement (b ∷ text) ≡ r → option_map (λ s. parts label (Some s)) r ≡ Some p → SaysRest (b ∷ text) label p
    go None is h = absurd (cc)
    go (Some s) is h =
        let same : parts label (Some s) ≡ p = cc in
        let found = statement_was (b ∷ text) s is in
        subst (SaysRest (b ∷ text) label) same (found.statement, found.blanks, found.whole, found.is, found.blank, refl)

hash : (b : ℕ) → (b == 35) ≡ true → b ≡ 35
hash b h = grind (arith, nat_tests)

comment_was : (comment : List ℕ) → Starts (λ b. b == 35) comment → IsComment comment
comment_was comment starts = grind (arith, nat_tests, hash)

colon : (b : ℕ) → (b == 58) ≡ true → b ≡ 58
colon b h = grind (arith, nat_tests)

-- a text with a colon
at_colon : (text : List ℕ) (end : ℕ) → position (λ b. b == 58) text ≡ Some end → text ≡ take end text ++ 58 ∷ drop (end + 1) text
at_colon text end h = grind (arith, nat_tests, at_place, colon)

split_was : (text : List ℕ) (cut : List ℕ × List ℕ) → split_label text ≡ Some cut → (text ≡ cut.0 ++ 58 ∷ cut.1) × (is_name cut.0 ≡ true)
split_was text cut h = go (position (λ b. b == 58) text) refl h
  where
    inner : (end : ℕ) → position (λ b. b == 58) text ≡ Some end → (t : Bool) → is_name (take end text) ≡ t → cond t (Some (take end text, drop (end + 1) text)) None ≡ Some cut
        → (text ≡ cut.0 ++ 58 ∷ cut.1) × (is_name cut.0 ≡ true)
    inner end at false is h = absurd (cc)
    inner end at true is h =
        let pair : (take end text, drop (end + 1) text) ≡ cut = cc in
        let P : List ℕ × List ℕ → Type 0 = λ c. (text ≡ c.0 ++ 58 ∷ c.1) × (is_name c.0 ≡ true) in
        subst P pair (at_colon text end at, is)

    go : (r : Option ℕ) → position (λ b. b == 58) text ≡ r → option_and_then (λ end. cond (is_name (take end text)) (Some (take end text, drop (end + 1) text)) None) r ≡ Some cut
        → (text ≡ cut.0 ++ 58 ∷ cut.1) × (is_name cut.0 ≡ true)
    go None is h = absurd (cc)
    go (Some end) is h = inner end is (is_name (take end text)) refl h

abbrev SaysLabel : List ℕ → Parts → Type 0
SaysLabel text p = (label between statement blanks : List ℕ) × (text ≡ label ++ (between ++ (statement ++ blanks))) × IsLabelPart label p.label × AreBlanks between × IsStatementPart statement p.statement
    × AreBlanks blanks

label_was : (text : List ℕ) (p : Parts) → read_label text ≡ Some p → SaysLabel text p
unfolding read_label
label_was text p h = go (begins_lower text) refl h
  where
    labelled : (r : Option (List ℕ × List ℕ)) → split_label text ≡ r → read_parts r ≡ Some p → SaysLabel text p
    labelled None is h = absurd (cc)
    labelled (Some cut) is h =
        let split = split_was text cut is in
        let rest = rest_was (Some cut.0) (skipped cut.1) p h in
        let between = before_first is_solid cut.1 in (
          cut.0 ++ 58 ∷ [],
          before_first is_solid cut.1,
          rest.0,
          rest.1,
          split.0 ∙ ap (λ t. cut.0 ++ 58 ∷ t) (cut_whole is_solid cut.1 ∙ ap (λ t. before_first is_solid cut.1 ++ t) rest.2)
              ∙ sym (append_assoc cut.0 (58 ∷ []) (before_first is_solid cut.1 ++ (rest.0 ++ rest.1))),
          subst (IsLabelPart (cut.0 ++ 58 ∷ [])) (sym rest.5) (refl, split.1),
          all_blank (before_first is_solid cut.1) (cut_clean is_solid cut.1),
          rest.3,
          rest.4,
        )

    go : (t : Bool) → begins_lower text ≡ t → cond t (read_parts (split_label text)) (read_rest None text) ≡ Some p → SaysLabel text p
    go true is h = labelled (split_label text) refl h
    go false is h =
        let rest = rest_was None text p h in
        ([], [], rest.0, rest.1, rest.2, subst (IsLabelPart []) (sym rest.5) refl, refl, rest.3, rest.4)

pub line_was : (bytes : List ℕ) (p : Parts) → read_line bytes ≡ Some p → IsLine bytes p
unfolding read_line
line_was bytes p h =
    let text = before_first (λ b. b == 35) bytes in
    let comment = from_first (λ b. b == 35) bytes in
    let before = before_first is_solid text in
    let says = label_was (skipped (before_first (λ b. b == 35) bytes)) p h in
    let whole : bytes ≡ (before_first is_solid (before_first (λ b. b == 35) bytes) ++ (says.0 ++ (says.1 ++ (says.2 ++ says.3)))) ++ from_first (λ b. b == 35) bytes = grind (arith, nat_tests, cut_whole, from_first) in
    record {
      before = before_first is_solid (before_first (λ b. b == 35) bytes);
      label = says.0;
      between = says.1;
      statement = says.2;
      behind = says.3;
      comment = from_first (λ b. b == 35) bytes;
      whole = whole ∙ simp append_assoc;
      blank_before = all_blank (before_first is_solid (before_first (λ b. b == 35) bytes)) (cut_clean is_solid (before_first (λ b. b == 35) bytes));
      label_part = says.5;
      blank_between = says.6;
      statement_part = says.7;
      blank_behind = says.8;
      comment_part = comment_was (from_first (λ b. b == 35) bytes) (cut_starts (λ b. b == 35) bytes);
    }
