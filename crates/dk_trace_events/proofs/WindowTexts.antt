-- The texts of windows, one after another.
use Rattle.std.proofs.Common.{ℕ, zero, suc, ◌≡◌, ◌∙◌, ◌+◌, ◌-◌, ◌<◌, ◌≤◌, ◌++◌, [], ◌∷◌, List, length, get_or, add-one, ap, sym, arith, append_assoc, append-nil}
use Rattle.std.specs.Prelude.{flat_map}
use Rattle.std.proofs.lemmas.Grind.{flat_map-append}
use Rattle.std.proofs.lemmas.List.{take_rest}
use Rattle.dk_config.specs.Sums.{numbers}
use Rattle.dk_certify.specs.declared.table.TableRow.{TableRow}
use Rattle.dk_ledger.proofs.HeaderLemmas.{rest_of}
use Rattle.dk_trace_events.specs.LevelWindows.{level_text, level_texts}

one_number : (low n : ℕ) → numbers low (suc n) ≡ numbers low n ++ (low + n) ∷ []
one_number low zero = let same : low ≡ low + 0 = omega arith in ap (λ k. k ∷ []) same
one_number low (suc n) =
    let same : suc low + n ≡ low + suc n = omega arith in
    ap (λ ks. low ∷ ks) (one_number (suc low) n) ∙ ap (λ k. low ∷ (numbers (suc low) n ++ k ∷ [])) same

module _ (f : ℕ → List ℕ) where
  -- one window more
  pub window_more : (low w : ℕ) → low ≤ w → flat_map f (numbers low (w + 1 - low)) ≡ flat_map f (numbers low (w - low)) ++ f w
  window_more low w after =
      let next : w + 1 - low ≡ suc (w - low) = omega (arith, after) in
      let last : low + (w - low) ≡ w = omega (arith, after) in
      ap (λ n. flat_map f (numbers low n)) next ∙ ap (flat_map f) (one_number low (w - low)) ∙ flat_map-append f (numbers low (w - low)) ((low + (w - low)) ∷ [])
      ∙ ap (λ t. flat_map f (numbers low (w - low)) ++ t) (append-nil (f (low + (w - low)))) ∙ ap (λ k. flat_map f (numbers low (w - low)) ++ f k) last

  front_from : (low k n : ℕ) → k < n → (more : List ℕ) × (flat_map f (numbers low n) ≡ flat_map f (numbers low k) ++ (f (low + k) ++ more))
  front_from low k zero less = absurd (omega (arith, less))
  front_from low zero (suc n) less =
      let same : low ≡ low + 0 = omega arith in
      (flat_map f (numbers (suc low) n), ap (λ k. f k ++ flat_map f (numbers (suc low) n)) same)
  front_from low (suc k) (suc n) less =
      let later = front_from (suc low) k n (omega (arith, less)) in
      let same : suc low + k ≡ low + suc k = omega arith in (
        later.0,
        ap (λ t. f low ++ t) later.1 ∙ sym (append_assoc (f low) (flat_map f (numbers (suc low) k)) (f (suc low + k) ++ later.0))
            ∙ ap (λ m. (f low ++ flat_map f (numbers (suc low) k)) ++ (f m ++ later.0)) same,
      )

  -- all windows up to before `end`, by those so far, the next, and more
  pub front_windows : (low w end : ℕ) → low ≤ w → w < end → (more : List ℕ) × (flat_map f (numbers low (end - low)) ≡ flat_map f (numbers low (w - low)) ++ (f w ++ more))
  front_windows low w end after less =
      let last : low + (w - low) ≡ w = omega (arith, after) in
      let parts = front_from low (w - low) (end - low) (omega (arith, after, less)) in
      (parts.0, parts.1 ∙ ap (λ k. flat_map f (numbers low (w - low)) ++ (f k ++ parts.0)) last)

pub level_parts : (from to at : ℕ) (rows : List TableRow) (d : TableRow) → 1 ≤ length rows
    → level_texts from to at rows ≡ level_text from to at (get_or rows 0 d) ++ level_texts from to (at + 1) (rest_of rows)
level_parts from to at [] d some = absurd (omega (arith, some))
level_parts from to at (row ∷ rows) d some =
    ap (λ n. level_text from to at row ++ level_texts from to n rows) (sym (add-one at))
    ∙ ap (λ rest. level_text from to at row ++ level_texts from to (at + 1) rest) (sym (take_rest (row ∷ rows) 1))
