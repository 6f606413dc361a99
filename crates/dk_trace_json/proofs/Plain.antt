-- JSON that is written with no blanks and no escapes, and how it is read.
use Rattle.std.proofs.Common.{ℕ, ◌≡◌, ◌∙◌, ◌≤◌, ◌++◌, [], ◌∷◌, List, ap, ap₂, refl, sym, arith, append_assoc}
use Rattle.std.specs.Prelude.{Bool, true, false, ◌&&◌, ⊤}
use Rattle.std.specs.List.{list_all}
use Rattle.std.proofs.lemmas.Bool.Decides.{nat_tests}
use Rattle.json.specs.Token.{Token}
use Rattle.json.specs.Word.{ends_word}
use Rattle.json.specs.Lex.{token, string_token, lex, between, fresh, after_value, after_comma, begins_colon, punctuate}
use Rattle.json.specs.Print.{escape, IsNumber}
use Rattle.json.specs.Json.{Json, null, boolean, number, string, array, object, Members, no_members, member}
use Rattle.json.specs.Tree.{json_tokens, members_tokens}
use Rattle.json.proofs.Printed.Strings.{content-escape, lex-escape, escape_byte_plain}
use Rattle.json.proofs.Printed.Numbers.{lex-number}
use Rattle.dk_trace_events.proofs.Safe.{is_safe, Safe}

-- the text of a value before more text
abbrev mutual
  pub written : Json → List ℕ → List ℕ
  written null r = r
  written (boolean b) r = r
  written (number s) r = s ++ r
  written (string s) r = 34 ∷ (s ++ 34 ∷ r)
  written (array js) r = r
  written (object ms) r = 123 ∷ first_member ms r

  first_member : Members → List ℕ → List ℕ
  first_member no_members r = 125 ∷ r
  first_member (member k j ms) r = 34 ∷ (k ++ 34 ∷ 58 ∷ written j (more_members ms r))

  more_members : Members → List ℕ → List ℕ
  more_members no_members r = 125 ∷ r
  more_members (member k j ms) r = 44 ∷ 34 ∷ (k ++ 34 ∷ 58 ∷ written j (more_members ms r))

-- an object of texts, numbers and such objects
abbrev mutual
  pub IsPlain : Json → Type 0
  IsPlain null = ⊥
  IsPlain (boolean b) = ⊥
  IsPlain (number s) = IsNumber s
  IsPlain (string s) = Safe s
  IsPlain (array js) = ⊥
  IsPlain (object ms) = ArePlain ms

  pub ArePlain : Members → Type 0
  ArePlain no_members = ⊤
  ArePlain (member k j ms) = Safe k × IsPlain j × ArePlain ms

-- ---- a text with no escapes

plain_byte : (x : ℕ) → is_safe x ≡ true → (x ≡ 34 → ⊥) × (x ≡ 92 → ⊥) × (32 ≤ x)
plain_byte x h = (λ e. grind (arith, nat_tests), λ e. grind (arith, nat_tests), grind (arith, nat_tests))

front : (a b : Bool) → (a && b) ≡ true → (a ≡ true) × (b ≡ true)
front true b h = (refl, h)
front false b h = absurd (cc)

escape_safe : (s : List ℕ) → Safe s → escape s ≡ s
escape_safe [] h = refl
escape_safe (x ∷ s) h =
    let both = front (is_safe x) (list_all is_safe s) h in
    let byte = plain_byte x both.0 in
    ap₂ (λ a b. a ++ b) (escape_byte_plain x byte.0 byte.1 byte.2) (escape_safe s both.1)

lex-text : (s r : List ℕ) → Safe s → lex between (34 ∷ (s ++ 34 ∷ r)) ≡ token (Token.string s) ∷ lex between r
unfolding lex
lex-text s r h =
    ap (λ t. lex between (34 ∷ (t ++ 34 ∷ r))) (sym (escape_safe s h))
    ∙ ap₂ (λ o l. token (string_token o) ∷ l) (content-escape s r) (lex-escape s r)

-- ---- the tokens of a value

more_ends : (ms : Members) (r : List ℕ) → (ends_word (more_members ms r) ≡ true) × (begins_colon (lex between (more_members ms r)) ≡ false)
unfolding lex
more_ends no_members r = (refl, refl)
more_ends (member k j ms) r = (refl, refl)

-- a value, and the members behind it
member_read : (j : Json) (ts vs us rest : List Token) → ts ≡ json_tokens j ++ vs → vs ≡ us ++ rest → ts ≡ (json_tokens j ++ us) ++ rest
member_read j ts vs us rest one more = one ∙ ap (λ t. json_tokens j ++ t) more ∙ sym (append_assoc (json_tokens j) us rest)

mutual
  unfolding lex punctuate

  pub value_read : (j : Json) (r : List ℕ) → IsPlain j → ends_word r ≡ true → begins_colon (lex between r) ≡ false
      → punctuate fresh (lex between (written j r)) ≡ json_tokens j ++ punctuate after_value (lex between r)
  value_read null r h ended no_colon = absurd h
  value_read (boolean b) r h ended no_colon = absurd h
  value_read (number s) r h ended no_colon = ap (punctuate fresh) (lex-number s r h ended)
  value_read (string s) r h ended no_colon = ap (punctuate fresh) (lex-text s r h) ∙ rw no_colon refl
  value_read (array js) r h ended no_colon = absurd h
  value_read (object ms) r h ended no_colon = ap (λ ts. Token.begin_object ∷ ts) (first_read ms r h)

  first_read : (ms : Members) (r : List ℕ) → ArePlain ms → punctuate fresh (lex between (first_member ms r)) ≡ members_tokens ms ++ punctuate after_value (lex between r)
  first_read no_members r h = refl
  first_read (member k j ms) r h =
      let ends = more_ends ms r in
      ap (punctuate fresh) (lex-text k (58 ∷ written j (more_members ms r)) h.0)
      ∙ ap (λ ts. Token.key k ∷ ts)
      (member_read j _ _ _ _ (value_read j (more_members ms r) h.1 ends.0 ends.1) (more_read ms r h.2))

  more_read : (ms : Members) (r : List ℕ) → ArePlain ms → punctuate after_value (lex between (more_members ms r)) ≡ members_tokens ms ++ punctuate after_value (lex between r)
  more_read no_members r h = refl
  more_read (member k j ms) r h =
      let ends = more_ends ms r in
      ap (punctuate after_comma) (lex-text k (58 ∷ written j (more_members ms r)) h.0)
      ∙ ap (λ ts. Token.key k ∷ ts)
      (member_read j _ _ _ _ (value_read j (more_members ms r) h.1 ends.0 ends.1) (more_read ms r h.2))
