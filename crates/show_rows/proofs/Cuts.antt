-- The names of the columns, cut at the commas.
use Rattle.std.proofs.Common.{◌≡◌, ◌∙◌, ap, refl, subst, ◌≤◌, ◌+◌, ℕ, suc, Bool, true, false, cond, List, [], ◌∷◌, length, take, drop, arith, Some, None}
use Rattle.std.specs.Prelude.{not, nat_lt, ◌==◌, position}
use Rattle.std.specs.List.{position_or_len, slice_split, onto_first}
use Rattle.std.proofs.lemmas.Bool.{ltb-true, ltb-false}
use Rattle.std.proofs.lemmas.List.Splits.{slice_split_first, slice_split-cons_no}
use Rattle.show_rows.specs.Rows.{names}

module _ (p : ℕ → Bool) where
  whole_piece : (xs : List ℕ) → length xs ≤ position_or_len p xs → slice_split p xs ≡ xs ∷ []
  whole_piece [] h = refl
  whole_piece (x ∷ xs) h = go (p x) refl h (whole_piece xs)
    where
      go : (t : Bool) → p x ≡ t → suc (length xs) ≤ cond (not t) (1 + position_or_len p xs) 0
          → (length xs ≤ position_or_len p xs → slice_split p xs ≡ xs ∷ []) → slice_split p (x ∷ xs) ≡ (x ∷ xs) ∷ []
      go true is h further = absurd (omega arith)
      go false is h further = slice_split-cons_no p x xs is ∙ ap (onto_first x) (further (omega arith))

  piece_at : (xs : List ℕ) (end : ℕ) → position p xs ≡ Some end → slice_split p xs ≡ take end xs ∷ slice_split p (drop (end + 1) xs)
  piece_at xs end h = go (nat_lt (position_or_len p xs) (length xs)) refl h
    where
      go : (t : Bool) → nat_lt (position_or_len p xs) (length xs) ≡ t → cond t (Some (position_or_len p xs)) None ≡ Some end
          → slice_split p xs ≡ take end xs ∷ slice_split p (drop (end + 1) xs)
      go false is h = absurd (cc)
      go true is h =
          let same : position_or_len p xs ≡ end = cc in
          subst (λ n. slice_split p xs ≡ take n xs ∷ slice_split p (drop (n + 1) xs)) same
          (slice_split_first p xs 0 (ltb-true (position_or_len p xs) (length xs) is))

  no_piece : (xs : List ℕ) → position p xs ≡ None → slice_split p xs ≡ xs ∷ []
  no_piece xs h = go (nat_lt (position_or_len p xs) (length xs)) refl h
    where
      go : (t : Bool) → nat_lt (position_or_len p xs) (length xs) ≡ t → cond t (Some (position_or_len p xs)) None ≡ None → slice_split p xs ≡ xs ∷ []
      go true is h = absurd (cc)
      go false is h = whole_piece xs (ltb-false (position_or_len p xs) (length xs) is)

pub first_name : (columns : List ℕ) (end : ℕ) → position (λ b. b == 44) columns ≡ Some end
    → names columns ≡ take end columns ∷ names (drop (end + 1) columns)
first_name columns end h = piece_at (λ b. b == 44) columns end h

pub one_name : (columns : List ℕ) → position (λ b. b == 44) columns ≡ None → names columns ≡ columns ∷ []
one_name columns h = no_piece (λ b. b == 44) columns h
