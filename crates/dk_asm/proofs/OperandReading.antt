-- The reader of an operand answers what the grammar says.
use Rattle.dk_asm.proofs.Imports.{◌≡◌, ◌≢◌, ◌∙◌, sym, ap, refl, ◌<◌, ◌+◌, ◌-◌, ℕ, Bool, true, false, cond, List, [], ◌∷◌, arith, Option, Some, None, inl, inr, ◌&&◌, ◌==◌, ◌⊎◌, not, nat_le, list_all, option_map, is_ascii_digit, digits_value, nat_tests, decimal_digit, is_name, is_lower, is_word, Kind, is_blank, is_numeral, IsNumber, Operand, up_to, negative, register, IsOperand, IsNumberUpTo, IsLabel, IsNegative, read_number, read_value, read_register, read_signed}
use Rattle.std.proofs.Math.Bool.{and-false}
use Rattle.dk_asm.specs.Reading.{number_of, read_operand}
use Rattle.dk_asm.proofs.Booleans.{both_left, both_right, both}
use Rattle.dk_asm.proofs.Cuts.{Clean, IsWord, all_more}

-- a byte of an operand: no blank, no comma and no `#`
abbrev pub is_plain : ℕ → Bool
is_plain b = nat_le 45 b

pub record IsPlain (word : List ℕ) : Type 0 where
  pub plain : list_all is_plain word ≡ true
  pub some : word ≢ []

no_blank : (b : ℕ) → is_plain b ≡ true → not (is_blank b) ≡ true
no_blank b h = grind (arith, nat_tests)

no_comma : (b : ℕ) → is_plain b ≡ true → not (b == 44) ≡ true
no_comma b h = grind (arith, nat_tests)

no_hash : (b : ℕ) → is_plain b ≡ true → not (b == 35) ≡ true
no_hash b h = grind (arith, nat_tests)

pub plain_word : (word : List ℕ) → IsPlain word → IsWord word
plain_word word p = record { solid = all_more is_plain (λ b. not (is_blank b)) no_blank word p.plain; some = p.some }

pub plain_commas : (word : List ℕ) → IsPlain word → Clean (λ b. b == 44) word
plain_commas word p = all_more is_plain (λ b. not (b == 44)) no_comma word p.plain

pub plain_hashes : (word : List ℕ) → IsPlain word → Clean (λ b. b == 35) word
plain_hashes word p = all_more is_plain (λ b. not (b == 35)) no_hash word p.plain

digit_plain : (b : ℕ) → is_ascii_digit b ≡ true → is_plain b ≡ true
digit_plain b h = grind (arith, nat_tests)

word_plain : (b : ℕ) → is_word b ≡ true → is_plain b ≡ true
word_plain b h = grind (arith, nat_tests)

digit_not_lower : (b : ℕ) → is_ascii_digit b ≡ true → is_lower b ≡ false
digit_not_lower b h = grind (arith, nat_tests)

digit_no_minus : (b : ℕ) → is_ascii_digit b ≡ true → (b == 45) ≡ false
digit_no_minus b h = grind (arith, nat_tests)

lower_no_minus : (b : ℕ) → is_lower b ≡ true → (b == 45) ≡ false
lower_no_minus b h = grind (arith, nat_tests)

numeral_digits : (word : List ℕ) → is_numeral word ≡ true → list_all is_ascii_digit word ≡ true
numeral_digits word h = grind (arith, nat_tests, both_right, both_left)

numeral_some : (word : List ℕ) → is_numeral word ≡ true → word ≢ []
numeral_some [] h e = absurd (cc)
numeral_some (d ∷ ds) h e = absurd (cc)

pub numeral_plain : (word : List ℕ) → is_numeral word ≡ true → IsPlain word
numeral_plain word h = record { plain = all_more is_ascii_digit is_plain digit_plain word (numeral_digits word h); some = numeral_some word h }

name_words : (word : List ℕ) → is_name word ≡ true → list_all is_word word ≡ true
name_words word h = both_right _ (list_all is_word word) h

name_some : (word : List ℕ) → is_name word ≡ true → word ≢ []
name_some [] h e = absurd (cc)
name_some (b ∷ bytes) h e = absurd (cc)

pub name_plain : (word : List ℕ) → is_name word ≡ true → IsPlain word
name_plain word h = record { plain = all_more is_word is_plain word_plain word (name_words word h); some = name_some word h }

pub name_first : (b : ℕ) (bytes : List ℕ) → is_name (b ∷ bytes) ≡ true → is_lower b ≡ true
name_first b bytes h = grind (arith, nat_tests, both_right, both_left)

not_name : (b : ℕ) (bytes : List ℕ) → is_lower b ≡ false → is_name (b ∷ bytes) ≡ false
not_name b bytes h = grind (arith, nat_tests, and-false)

numeral_first : (d : ℕ) (ds : List ℕ) → is_numeral (d ∷ ds) ≡ true → is_ascii_digit d ≡ true
numeral_first d ds h = both_left (is_ascii_digit d) (list_all is_ascii_digit ds) (numeral_digits (d ∷ ds) h)

-- what the grammar says of an operand is read
pub number_is : (word : List ℕ) (n : ℕ) → IsNumber word n → number_of word ≡ Some n
unfolding number_of
number_is word n is = ap (λ t. cond t (Some (digits_value 10 word)) None) is.spelling ∙ ap Some is.value

pub number_was : (word : List ℕ) (n : ℕ) → number_of word ≡ Some n → IsNumber word n
unfolding number_of
number_was word n h = go (is_numeral word) refl h
  where
    go : (t : Bool) → is_numeral word ≡ t → cond t (Some (digits_value 10 word)) None ≡ Some n → IsNumber word n
    go true is h = record { spelling = is; value = cc }
    go false is h = absurd (cc)

up_to_is : (limit : ℕ) (word : List ℕ) (o : Operand) → IsNumberUpTo limit word o → read_number limit word ≡ Some o
up_to_is limit word o is = ap (option_map (up_to limit)) (number_is word is.0 is.1) ∙ ap Some (sym is.2)

number_from : (word : List ℕ) (f : ℕ → Operand) (o : Operand) → option_map f (number_of word) ≡ Some o → (n : ℕ) × IsNumber word n × (o ≡ f n)
number_from word f o h = go (number_of word) refl h
  where
    go : (r : Option ℕ) → number_of word ≡ r → option_map f r ≡ Some o → (n : ℕ) × IsNumber word n × (o ≡ f n)
    go None is h = absurd (cc)
    go (Some n) is h = (n, number_was word n is, cc)

value_number : (word : List ℕ) (o : Operand) → IsNumberUpTo 65535 word o → read_value word ≡ Some o
value_number [] o is = absurd (numeral_some [] is.1.spelling refl)
value_number (d ∷ ds) o is =
    let lower = digit_not_lower d (numeral_first d ds is.1.spelling) in
    ap (λ t. cond t (Some (Operand.label (d ∷ ds))) (read_number 65535 (d ∷ ds))) (not_name d ds lower) ∙ up_to_is 65535 (d ∷ ds) o is

value_label : (word : List ℕ) (o : Operand) → IsLabel word o → read_value word ≡ Some o
value_label word o is = ap (λ t. cond t (Some (Operand.label word)) (read_number 65535 word)) is.0 ∙ ap Some (sym is.1)

value_is : (word : List ℕ) (o : Operand) → IsNumberUpTo 65535 word o ⊎ IsLabel word o → read_value word ≡ Some o
value_is word o (inl is) = value_number word o is
value_is word o (inr is) = value_label word o is

value_was : (word : List ℕ) (o : Operand) → read_value word ≡ Some o → IsNumberUpTo 65535 word o ⊎ IsLabel word o
value_was word o h = go (is_name word) refl h
  where
    go : (t : Bool) → is_name word ≡ t → cond t (Some (Operand.label word)) (read_number 65535 word) ≡ Some o → IsNumberUpTo 65535 word o ⊎ IsLabel word o
    go true is h = inr (is, cc)
    go false is h = inl (number_from word (up_to 65535) o h)

signed_number : (word : List ℕ) (o : Operand) → IsNumberUpTo 65535 word o → read_signed word ≡ Some o
signed_number [] o is = absurd (numeral_some [] is.1.spelling refl)
signed_number (d ∷ ds) o is =
    ap (λ t. cond t (option_map negative (number_of ds)) (read_value (d ∷ ds))) (digit_no_minus d (numeral_first d ds is.1.spelling)) ∙ value_number (d ∷ ds) o is

signed_label : (word : List ℕ) (o : Operand) → IsLabel word o → read_signed word ≡ Some o
signed_label word o is = grind (arith, nat_tests, name_some, lower_no_minus, name_first, value_label)

signed_negative : (word : List ℕ) (o : Operand) → IsNegative word o → read_signed word ≡ Some o
signed_negative word o is = ap read_signed is.2 ∙ ap (option_map negative) (number_is is.0 is.1 is.3) ∙ ap Some (sym is.4)

minus : (b : ℕ) → (b == 45) ≡ true → b ≡ 45
minus b h = grind (arith, nat_tests)

signed_was : (word : List ℕ) (o : Operand) → read_signed word ≡ Some o → IsNumberUpTo 65535 word o ⊎ (IsLabel word o ⊎ IsNegative word o)
signed_was [] o h = absurd (cc)
signed_was (b ∷ bytes) o h = go (b == 45) refl h
  where
    further : IsNumberUpTo 65535 (b ∷ bytes) o ⊎ IsLabel (b ∷ bytes) o → IsNumberUpTo 65535 (b ∷ bytes) o ⊎ (IsLabel (b ∷ bytes) o ⊎ IsNegative (b ∷ bytes) o)
    further (inl is) = inl is
    further (inr is) = inr (inl is)

    go : (t : Bool) → (b == 45) ≡ t → cond t (option_map negative (number_of bytes)) (read_value (b ∷ bytes)) ≡ Some o
        → IsNumberUpTo 65535 (b ∷ bytes) o ⊎ (IsLabel (b ∷ bytes) o ⊎ IsNegative (b ∷ bytes) o)
    go true is h =
        let n = number_from bytes negative o h in
        inr (inr (bytes, n.0, ap (λ m. m ∷ bytes) (minus b is), n.1, n.2))
    go false is h = further (value_was (b ∷ bytes) o h)

register_bytes : (r : ℕ) → r < 8 → register r ≡ 114 ∷ (48 + r) ∷ []
register_bytes r low = ap (λ ds. 114 ∷ ds) (decimal_digit r (omega arith))

read_digit : (r : ℕ) → r < 8 → read_register (114 ∷ (48 + r) ∷ []) ≡ Some (Operand.value r)
read_digit r low = grind (arith, nat_tests)

register_is : (r : ℕ) → r < 8 → read_register (register r) ≡ Some (Operand.value r)
register_is r low = grind (arith, nat_tests, register_bytes, read_digit)

letter : (b : ℕ) → (b == 114) ≡ true → b ≡ 114
letter b h = grind (arith, nat_tests)

digit_range : (d : ℕ) → (nat_le 48 d && nat_le d 55) ≡ true → (d - 48 < 8) × (d ≡ 48 + (d - 48))
digit_range d h = grind (arith, nat_tests)

register_was : (word : List ℕ) (o : Operand) → read_register word ≡ Some o → (r : ℕ) × (r < 8) × (word ≡ register r) × (o ≡ Operand.value r)
register_was [] o h = absurd (cc)
register_was (b ∷ []) o h = absurd (cc)
register_was (b ∷ d ∷ c ∷ bytes) o h = absurd (cc)
register_was (b ∷ d ∷ []) o h = go ((b == 114) && (nat_le 48 d && nat_le d 55)) refl h
  where
    go : (t : Bool) → ((b == 114) && (nat_le 48 d && nat_le d 55)) ≡ t → cond t (Some (Operand.value (d - 48))) None ≡ Some o
        → (r : ℕ) × (r < 8) × (b ∷ d ∷ [] ≡ register r) × (o ≡ Operand.value r)
    go true is h =
        let range = digit_range d (both_right (b == 114) (nat_le 48 d && nat_le d 55) is) in
        let first = letter b (both_left (b == 114) (nat_le 48 d && nat_le d 55) is) in
        (d - 48, range.0, ap (λ x. x ∷ d ∷ []) first ∙ ap (λ x. 114 ∷ x ∷ []) range.1 ∙ sym (register_bytes (d - 48) range.0), cc)
    go false is h = absurd (cc)

pub operand_is : (kind : Kind) (word : List ℕ) (o : Operand) → IsOperand kind word o → read_operand kind word ≡ Some o
unfolding read_operand
operand_is Kind.Register word o is = ap read_register is.2 ∙ register_is is.0 is.1 ∙ ap Some (sym is.3)
operand_is Kind.Byte word o is = up_to_is 255 word o is
operand_is Kind.Word word o is = up_to_is 65535 word o is
operand_is Kind.Value word o is = value_is word o is
operand_is Kind.Signed word o (inl is) = signed_number word o is
operand_is Kind.Signed word o (inr (inl is)) = signed_label word o is
operand_is Kind.Signed word o (inr (inr is)) = signed_negative word o is

-- what is read is what the grammar says
pub operand_was : (kind : Kind) (word : List ℕ) (o : Operand) → read_operand kind word ≡ Some o → IsOperand kind word o
unfolding read_operand
operand_was Kind.Register word o h = register_was word o h
operand_was Kind.Byte word o h = number_from word (up_to 255) o h
operand_was Kind.Word word o h = number_from word (up_to 65535) o h
operand_was Kind.Value word o h = value_was word o h
operand_was Kind.Signed word o h = signed_was word o h

-- the bytes of an operand
value_plain : (word : List ℕ) (o : Operand) → IsNumberUpTo 65535 word o ⊎ IsLabel word o → IsPlain word
value_plain word o is = grind (arith, nat_tests, numeral_plain, name_plain)

negative_plain : (digits : List ℕ) → is_numeral digits ≡ true → IsPlain (45 ∷ digits)
negative_plain digits h = record { plain = (numeral_plain digits h).plain; some = λ e. absurd (cc) }

digit_of_register : (r : ℕ) → is_plain (48 + r) ≡ true
digit_of_register r = grind (arith, nat_tests)

pub operand_plain : (kind : Kind) (word : List ℕ) (o : Operand) → IsOperand kind word o → IsPlain word
operand_plain kind word o is = grind (arith, nat_tests, register_bytes, both, digit_of_register, numeral_plain, value_plain, name_plain, negative_plain)
