-- No field of the table calls for quotes, so a row is its fields with commas between them.
use Rattle.std.proofs.Common.{ℕ, zero, suc, ◌≡◌, ◌∙◌, ◌<◌, ◌^◌, ◌++◌, true, false, List, [], ◌∷◌, sym, ap, refl, arith, append_assoc}
use Rattle.std.specs.Prelude.{◌||◌, if◌then◌else◌, decimal}
use Rattle.std.specs.List.{AllByRecursion, list_all, list_any}
use Rattle.std.specs.Char.{is_ascii_digit}
use Rattle.std.specs.Str.{all_ascii_digits}
use Rattle.std.specs.Str.Parse.{digits_value}
use Rattle.std.proofs.lemmas.Bool.{and_parts}
use Rattle.std.proofs.lemmas.Bool.Decides.{nat_tests}
use Rattle.std.proofs.lemmas.Fmt.{digits_decimal}
use Rattle.std.proofs.lemmas.List.Folds.{list_any-append}
use Rattle.std.proofs.lemmas.Str.Parse.{IsNumeralModel, numerals_by_value, tells_all_ascii_digits}
use Rattle.csv.specs.Quoting.{needs_byte}
use Rattle.csv.specs.Writing.{default_writer, field_text, fields_text, is_blank, quoted}
use Rattle.dk_config.specs.Rules.{is_name, is_word}
use Rattle.dk_needs.specs.Fitting.{is_id, is_id_byte}
use Rattle.dk_needs_text.specs.Csv.{IsPlain, joined_record, joined_rest, record_text}
use Rattle.dk_needs_text.specs.Names.{AreNamed, name_at}

word-plain : (b : ℕ) → is_word b ≡ true → needs_byte default_writer b ≡ false
word-plain b is = grind (arith, nat_tests)

digit-plain : (b : ℕ) → is_ascii_digit b ≡ true → needs_byte default_writer b ≡ false
digit-plain b is = grind (arith, nat_tests)

one-more : (b : ℕ) (f : List ℕ) → needs_byte default_writer b ≡ false → IsPlain f → IsPlain (b ∷ f)
one-more b f one rest = ap (λ n. n || list_any (needs_byte default_writer) f) one ∙ rest

words-plain : (f : List ℕ) → list_all is_word f ≡ true → IsPlain f
words-plain [] are = refl
words-plain (b ∷ f) are =
    let both = and_parts (is_word b) (list_all is_word f) are in
    one-more b f (word-plain b both.0) (words-plain f both.1)

digits-plain : (f : List ℕ) → all_ascii_digits f ≡ true → IsPlain f
digits-plain [] are = refl
digits-plain (b ∷ f) are =
    let both = and_parts (is_ascii_digit b) (all_ascii_digits f) are in
    one-more b f (digit-plain b both.0) (digits-plain f both.1)

own : IsNumeralModel (λ ds. all_ascii_digits ds ≡ true) (digits_value 10)
own = numerals_by_value _ tells_all_ascii_digits

-- a number is
pub number_is_plain : (n : ℕ) → n < 2 ^ 64 → IsPlain (decimal n)
number_is_plain n small = digits-plain (decimal n) (digits_decimal own n small)

-- and a number behind a plain word
pub behind_is_plain : (f g : List ℕ) → IsPlain f → IsPlain g → IsPlain (f ++ g)
behind_is_plain f g one two =
    list_any-append (needs_byte default_writer) f g ∙ ap (λ n. n || list_any (needs_byte default_writer) g) one ∙ two

-- a name is
pub name_is_plain : (name : List ℕ) → is_name name ≡ true → IsPlain name
name_is_plain name is = words-plain name (and_parts _ (list_all is_word name) is).1

-- and so the name of the process of any number, which is empty where there is none
pub name_at_plain : (names : List (List ℕ)) (p : ℕ) → AreNamed names → IsPlain (name_at names p)
name_at_plain [] p are = refl
name_at_plain (name ∷ names) zero are = name_is_plain name (and_parts (is_name name) (list_all is_name names) are).0
name_at_plain (name ∷ names) (suc p) are = name_at_plain names p (and_parts (is_name name) (list_all is_name names) are).1

id-byte-plain : (b : ℕ) → is_id_byte b ≡ true → needs_byte default_writer b ≡ false
id-byte-plain b is = grind (arith, nat_tests)

id-bytes-plain : (f : List ℕ) → list_all is_id_byte f ≡ true → IsPlain f
id-bytes-plain [] are = refl
id-bytes-plain (b ∷ f) are =
    let both = and_parts (is_id_byte b) (list_all is_id_byte f) are in
    one-more b f (id-byte-plain b both.0) (id-bytes-plain f both.1)

-- the name of a need is
pub id_is_plain : (id : List ℕ) → is_id id ≡ true → IsPlain id
id_is_plain id is = id-bytes-plain id (and_parts _ (list_all is_id_byte id) is).1

field-plain : (f : List ℕ) → IsPlain f → field_text default_writer f ≡ f
field-plain f plain = ap (λ b. if b then (quoted default_writer f) else f) plain

rest-plain : (fs : List (List ℕ)) → AllByRecursion IsPlain fs → fields_text default_writer fs ++ 10 ∷ [] ≡ joined_rest fs
unfolding fields_text
rest-plain [] all = refl
rest-plain (f ∷ fs) all =
    ap (λ t. 44 ∷ ((t ++ fields_text default_writer fs) ++ 10 ∷ [])) (field-plain f all.0)
    ∙ ap (λ t. 44 ∷ t) (append_assoc f (fields_text default_writer fs) (10 ∷ []))
    ∙ ap (λ t. 44 ∷ (f ++ t)) (rest-plain fs all.1)

-- a row of plain fields
pub record_of_plain : (first second : List ℕ) (rest : List (List ℕ)) → IsPlain first → AllByRecursion IsPlain (second ∷ rest)
    → joined_record first (second ∷ rest) ≡ record_text (first ∷ second ∷ rest)
unfolding is_blank
record_of_plain first second rest plain all =
    let fs = second ∷ rest in
    sym (ap (λ t. (t ++ fields_text default_writer fs) ++ 10 ∷ []) (field-plain first plain)
    ∙ append_assoc first (fields_text default_writer fs) (10 ∷ [])
    ∙ ap (λ t. first ++ t) (rest-plain fs all))
