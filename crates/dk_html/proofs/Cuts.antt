-- A text is cut at a byte.
use Rattle.std.proofs.Common.{◌≡◌, ◌∙◌, sym, ap, refl, subst, ◌≤◌, ◌+◌, ℕ, suc, Bool, true, false, cond, List, [], ◌∷◌, ◌++◌, append_assoc, length, take, drop, arith, Option, Some, None}
use Rattle.std.specs.Prelude.{not, nat_lt, ◌==◌, position}
use Rattle.std.specs.Option.{option_map}
use Rattle.std.specs.List.{position_or_len, slice_split, onto_first}
use Rattle.std.proofs.lemmas.Bool.{ltb-true, ltb-false}
use Rattle.std.proofs.lemmas.List.Splits.{slice_split_first, slice_split-cons_no}
use Rattle.dk_html.specs.Pieces.{cut_at, pieces}

module _ (p : ℕ → Bool) where
  whole_piece : (xs : List ℕ) → length xs ≤ position_or_len p xs → slice_split p xs ≡ xs ∷ []
  whole_piece [] h = refl
  whole_piece (x ∷ xs) h = go (p x) refl h (whole_piece xs)
    where
      go : (t : Bool) → p x ≡ t → suc (length xs) ≤ cond (not t) (1 + position_or_len p xs) 0
          → (length xs ≤ position_or_len p xs → slice_split p xs ≡ xs ∷ []) → slice_split p (x ∷ xs) ≡ (x ∷ xs) ∷ []
      go true is h further = absurd (omega arith)
      go false is h further = slice_split-cons_no p x xs is ∙ ap (onto_first x) (further (omega arith))

  piece_at : (xs : List ℕ) (end : ℕ) → position p xs ≡ Some end → slice_split p xs ≡ take end xs ∷ slice_split p (drop (end + 1) xs)
  piece_at xs end h = go (nat_lt (position_or_len p xs) (length xs)) refl h
    where
      go : (t : Bool) → nat_lt (position_or_len p xs) (length xs) ≡ t → cond t (Some (position_or_len p xs)) None ≡ Some end
          → slice_split p xs ≡ take end xs ∷ slice_split p (drop (end + 1) xs)
      go false is h = absurd (cc)
      go true is h =
          let same : position_or_len p xs ≡ end = cc in
          subst (λ n. slice_split p xs ≡ take n xs ∷ slice_split p (drop (n + 1) xs)) same
          (slice_split_first p xs 0 (ltb-true (position_or_len p xs) (length xs) is))

  no_piece : (xs : List ℕ) → position p xs ≡ None → slice_split p xs ≡ xs ∷ []
  no_piece xs h = go (nat_lt (position_or_len p xs) (length xs)) refl h
    where
      go : (t : Bool) → nat_lt (position_or_len p xs) (length xs) ≡ t → cond t (Some (position_or_len p xs)) None ≡ None → slice_split p xs ≡ xs ∷ []
      go true is h = absurd (cc)
      go false is h = whole_piece xs (ltb-false (position_or_len p xs) (length xs) is)

-- a text with such a byte
record IsCut (byte : ℕ) (text front rest : List ℕ) : Type 0 where
  pub end : ℕ
  pub at : position (λ b. b == byte) text ≡ Some end
  pub front_is : take end text ≡ front
  pub rest_is : drop (end + 1) text ≡ rest

cut_was : (byte : ℕ) (text front rest : List ℕ) → cut_at byte text ≡ Some (front, rest) → IsCut byte text front rest
cut_was byte text front rest h = go (position (λ b. b == byte) text) refl h
  where
    go : (r : Option ℕ) → position (λ b. b == byte) text ≡ r → option_map {U = List ℕ × List ℕ} (λ end. (take end text, drop (end + 1) text)) r ≡ Some (front, rest) → IsCut byte text front rest
    go None is h = absurd (cc)
    go (Some end) is h =
        let found : List ℕ × List ℕ = (take end text, drop (end + 1) text) in
        let given : List ℕ × List ℕ = (front, rest) in
        let pair : found ≡ given = cc in
        record { end = end; at = is; front_is = ap (λ c. c.0) pair; rest_is = ap (λ c. c.1) pair }

pub cut_piece : (byte : ℕ) (text front rest : List ℕ) → cut_at byte text ≡ Some (front, rest) → pieces byte text ≡ front ∷ pieces byte rest
cut_piece byte text front rest h =
    let was = cut_was byte text front rest h in
    piece_at (λ b. b == byte) text was.end was.at
    ∙ ap (λ k. k ∷ pieces byte (drop (was.end + 1) text)) was.front_is
    ∙ ap (λ k. front ∷ pieces byte k) was.rest_is

pub last_piece : (byte : ℕ) (text : List ℕ) → cut_at byte text ≡ None → pieces byte text ≡ text ∷ []
last_piece byte text h = go (position (λ b. b == byte) text) refl h
  where
    go : (r : Option ℕ) → position (λ b. b == byte) text ≡ r → option_map {U = List ℕ × List ℕ} (λ end. (take end text, drop (end + 1) text)) r ≡ None → pieces byte text ≡ text ∷ []
    go None is h = no_piece (λ b. b == byte) text is
    go (Some end) is h = absurd (cc)

-- one more piece before what is left
pub one_more : (byte : ℕ) (found now : List (List ℕ)) (text whole front rest : List ℕ) → cut_at byte text ≡ Some (front, rest)
    → now ≡ found ++ front ∷ [] → found ++ pieces byte text ≡ pieces byte whole → now ++ pieces byte rest ≡ pieces byte whole
one_more byte found now text whole front rest cut pushed known =
    ap (λ k. k ++ pieces byte rest) pushed
    ∙ append_assoc found (front ∷ []) (pieces byte rest)
    ∙ ap (λ k. found ++ k) (sym (cut_piece byte text front rest cut))
    ∙ known

-- and the last
pub last_more : (byte : ℕ) (found now : List (List ℕ)) (text whole : List ℕ) → cut_at byte text ≡ None
    → now ≡ found ++ text ∷ [] → found ++ pieces byte text ≡ pieces byte whole → now ≡ pieces byte whole
last_more byte found now text whole cut pushed known =
    pushed ∙ ap (λ k. found ++ k) (sym (last_piece byte text cut)) ∙ known
