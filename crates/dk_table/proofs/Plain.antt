-- Fields that call for no quotes, so that a record is its fields with commas between them.
use Rattle.std.proofs.Common.{ℕ, ◌≡◌, ◌∙◌, ◌<◌, ◌^◌, ◌++◌, true, false, List, [], ◌∷◌, sym, ap, refl, arith, append_assoc, map}
use Rattle.std.specs.Prelude.{◌||◌, if◌then◌else◌, decimal, flat_map, Option, Some, None}
use Rattle.std.specs.List.{AllByRecursion, list_all, list_any}
use Rattle.std.specs.Char.{is_ascii_digit}
use Rattle.std.specs.Str.{all_ascii_digits}
use Rattle.std.specs.Str.Parse.{digits_value}
use Rattle.std.proofs.lemmas.Bool.{and_parts}
use Rattle.std.proofs.lemmas.Bool.Decides.{nat_tests}
use Rattle.std.proofs.lemmas.Fmt.{digits_decimal}
use Rattle.std.proofs.lemmas.Str.Parse.{IsNumeralModel, numerals_by_value, tells_all_ascii_digits}
use Rattle.std.proofs.lemmas.Grind.{flat_map-append}
use Rattle.csv.specs.Quoting.{needs_byte}
use Rattle.csv.specs.Writing.{default_writer, field_text, fields_text, is_blank, quoted}
use Rattle.dk_config.specs.Rules.{is_name, is_word}
use Rattle.dk_table.specs.Records.{IsPlain, IsSmall, behind_comma, number_field, record_text}

word-plain : (b : ℕ) → is_word b ≡ true → needs_byte default_writer b ≡ false
word-plain b is = grind (arith, nat_tests)

digit-plain : (b : ℕ) → is_ascii_digit b ≡ true → needs_byte default_writer b ≡ false
digit-plain b is = grind (arith, nat_tests)

one-more : (b : ℕ) (f : List ℕ) → needs_byte default_writer b ≡ false → IsPlain f → IsPlain (b ∷ f)
one-more b f one rest = ap (λ n. n || list_any (needs_byte default_writer) f) one ∙ rest

words-plain : (f : List ℕ) → list_all is_word f ≡ true → IsPlain f
words-plain [] are = refl
words-plain (b ∷ f) are =
    let both = and_parts (is_word b) (list_all is_word f) are in
    one-more b f (word-plain b both.0) (words-plain f both.1)

digits-plain : (f : List ℕ) → all_ascii_digits f ≡ true → IsPlain f
digits-plain [] are = refl
digits-plain (b ∷ f) are =
    let both = and_parts (is_ascii_digit b) (all_ascii_digits f) are in
    one-more b f (digit-plain b both.0) (digits-plain f both.1)

own : IsNumeralModel (λ ds. all_ascii_digits ds ≡ true) (digits_value 10)
own = numerals_by_value _ tells_all_ascii_digits

number-plain : (n : ℕ) → n < 2 ^ 64 → IsPlain (decimal n)
number-plain n small = digits-plain (decimal n) (digits_decimal own n small)

-- a name is plain
pub name_is_plain : (name : List ℕ) → is_name name ≡ true → IsPlain name
name_is_plain name is = words-plain name (and_parts _ (list_all is_word name) is).1

number-field-plain : (n : Option ℕ) → IsSmall n → IsPlain (number_field n)
number-field-plain None small = refl
number-field-plain (Some n) small = number-plain n small

numbers-plain : (ns : List (Option ℕ)) → AllByRecursion IsSmall ns → AllByRecursion IsPlain (map number_field ns)
numbers-plain [] small = tt
numbers-plain (n ∷ ns) small = (number-field-plain n small.0, numbers-plain ns small.1)

as-it-is : (f : List ℕ) → IsPlain f → field_text default_writer f ≡ f
as-it-is f plain = ap (λ b. if b then (quoted default_writer f) else f) plain

rest-plain : (fs : List (List ℕ)) → AllByRecursion IsPlain fs → fields_text default_writer fs ≡ flat_map behind_comma fs
unfolding fields_text
rest-plain [] all = refl
rest-plain (f ∷ fs) all =
    ap (λ t. 44 ∷ (t ++ fields_text default_writer fs)) (as-it-is f all.0) ∙ ap (λ t. 44 ∷ (f ++ t)) (rest-plain fs all.1)

record-of-plain : (first second : List ℕ) (rest : List (List ℕ)) → IsPlain first → AllByRecursion IsPlain (second ∷ rest)
    → (first ++ flat_map behind_comma (second ∷ rest)) ++ 10 ∷ [] ≡ record_text (first ∷ second ∷ rest)
unfolding is_blank
record-of-plain first second rest plain all =
    let fs = second ∷ rest in
    sym (ap (λ t. (t ++ fields_text default_writer fs) ++ 10 ∷ []) (as-it-is first plain)
    ∙ ap (λ t. (first ++ t) ++ 10 ∷ []) (rest-plain fs all))

each-number : (ns : List (Option ℕ)) → flat_map behind_comma (map number_field ns) ≡ flat_map (λ n. behind_comma (number_field n)) ns
each-number [] = refl
each-number (n ∷ ns) = ap (λ t. behind_comma (number_field n) ++ t) (each-number ns)

-- words, and numbers behind them
pub record_of_words : (first second : List ℕ) (words : List (List ℕ)) (ns : List (Option ℕ)) (joined : List ℕ) → IsPlain first
    → AllByRecursion IsPlain (second ∷ (words ++ map number_field ns)) → joined ≡ first ++ flat_map behind_comma (second ∷ words)
    → (joined ++ flat_map (λ n. behind_comma (number_field n)) ns) ++ 10 ∷ [] ≡ record_text (first ∷ second ∷ (words ++ map number_field ns))
record_of_words first second words ns joined plain all is =
    let named = behind_comma second ++ flat_map behind_comma words in
    let numbers = flat_map (λ n. behind_comma (number_field n)) ns in
    let split : flat_map behind_comma (second ∷ (words ++ map number_field ns)) ≡ named ++ numbers =
    ap (λ t. behind_comma second ++ t) (flat_map-append behind_comma words (map number_field ns) ∙ ap (λ t. flat_map behind_comma words ++ t) (each-number ns))
    ∙ sym (append_assoc (behind_comma second) (flat_map behind_comma words) numbers) in
    ap (λ t. (t ++ numbers) ++ 10 ∷ []) is
    ∙ ap (λ t. t ++ 10 ∷ []) (append_assoc first named numbers ∙ ap (λ t. first ++ t) (sym split))
    ∙ record-of-plain first second (words ++ map number_field ns) plain all

pub small_are_plain : (ns : List (Option ℕ)) → AllByRecursion IsSmall ns → AllByRecursion IsPlain (map number_field ns)
small_are_plain ns small = numbers-plain ns small
