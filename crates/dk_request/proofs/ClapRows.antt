-- What is found of an argument after it was used, and what is found of the others.
use Rattle.dk_request.proofs.Names.{◌≡◌, true, false, cond, List, [], ◌∷◌, ◌++◌, Option, Some, refl, ap, inl, inr, find, bytes_eq, cases_Bool, bytes_eq-Decides, Row, Text, has_row, stronger, with_values, without, Reading, ValueSource}
use Rattle.std.proofs.Common.{None}

-- the row of an id
abbrev pub row_at : Text → List Row → Option Row
row_at id rows = find (λ r. bytes_eq r.id id) rows

abbrev pub new_row : Text → Reading → ValueSource → List Text → Row
new_row id how s values = record { id = id; values = values; count = None; source = Some s; reading = how }

module _ (id : Text) (how : Reading) (s : ValueSource) (values : List Text) where
  pub other_row : (other : Text) (rows : List Row) → bytes_eq id other ≡ false → row_at other (with_values id how s values rows) ≡ row_at other rows
  other_row other [] apart = rw apart refl
  other_row other (r ∷ rs) apart =
      elim (cases_Bool (bytes_eq r.id id)) [
        | inl e ↦
            let same : r.id ≡ id = (bytes_eq-Decides r.id id).0 e in
            let far : bytes_eq r.id other ≡ false = rw same apart in
            rw (e, far) refl
        | inr e ↦ rw e (ap (λ o. cond (bytes_eq r.id other) (Some r) o) (other_row other rs apart))
      ]

  pub first_row : (rows : List Row) → bytes_eq id id ≡ true → row_at id rows ≡ None → row_at id (with_values id how s values rows) ≡ Some (new_row id how s values)
  first_row [] same none = rw same refl
  first_row (r ∷ rs) same none =
      elim (cases_Bool (bytes_eq r.id id)) [
        | inl e ↦ let found : Some r ≡ None = rw e at none in cc
        | inr e ↦ let others : row_at id rs ≡ None = rw e at none in rw (e, e) (first_row rs same others)
      ]

  pub next_row : (rows : List Row) (old : Row) → row_at id rows ≡ Some old
      → row_at id (with_values id how s values rows) ≡ Some (record old { values = old.values ++ values; source = Some (stronger old.source s) })
  next_row [] old found = cc
  next_row (r ∷ rs) old found =
      elim (cases_Bool (bytes_eq r.id id)) [
        | inl e ↦ let here : Some r ≡ Some old = rw e at found in let same : r ≡ old = cc in rw (e, e) (ap (λ (x : Row). Some (record x { values = x.values ++ values; source = Some (stronger x.source s) })) same)
        | inr e ↦ let others : row_at id rs ≡ Some old = rw e at found in rw (e, e) (next_row rs old others)
      ]

pub none_without : (id : Text) (rows : List Row) → row_at id rows ≡ None → without id rows ≡ rows
none_without id [] none = refl
none_without id (r ∷ rs) none =
    elim (cases_Bool (bytes_eq r.id id)) [
      | inl e ↦ let found : Some r ≡ None = rw e at none in cc
      | inr e ↦ let others : row_at id rs ≡ None = rw e at none in rw e (ap (λ xs. r ∷ xs) (none_without id rs others))
    ]

pub no_row : (id : Text) (rows : List Row) → row_at id rows ≡ None → has_row id rows ≡ false
no_row id [] none = refl
no_row id (r ∷ rs) none =
    elim (cases_Bool (bytes_eq r.id id)) [
      | inl e ↦ let found : Some r ≡ None = rw e at none in cc
      | inr e ↦ let others : row_at id rs ≡ None = rw e at none in rw e (no_row id rs others)
    ]

pub a_row : (id : Text) (rows : List Row) (r : Row) → row_at id rows ≡ Some r → has_row id rows ≡ true
a_row id [] r found = cc
a_row id (x ∷ xs) r found =
    elim (cases_Bool (bytes_eq x.id id)) [
      | inl e ↦ rw e refl
      | inr e ↦ let others : row_at id xs ≡ Some r = rw e at found in rw e (a_row id xs r others)
    ]
