-- A change that is taken back.
use Rattle.std.proofs.Common.{ℕ, zero, suc, ◌≡◌, ◌<◌, inl, inr, List, [], ◌∷◌, length, refl, ap, sym, ◌∙◌, eqb, true, arith, slice_index_or, slice_set}
use Rattle.std.specs.Prelude.{map}
use Rattle.std.specs.List.{swap}
use Rattle.std.proofs.lemmas.Bool.{cases_Bool}
use Rattle.std.proofs.lemmas.Bool.Decides.{nat_tests}
use Rattle.std.proofs.lemmas.List.{ext_get_or}
use Rattle.std.proofs.lemmas.List.Edits.{length-swap, swapped_from_swap, Swapped}
use Rattle.dk_config.specs.declared.rows.ProcessRow.{ProcessRow}
use Rattle.dk_config.specs.Configuration.{Configuration}
use Rattle.dk_chain.specs.Chain.{AreThere}
use Rattle.dk_chain_report.specs.Changes.{moved, rows_with_level, with_level}

abbrev pub with_rows : Configuration → List ProcessRow → Configuration
with_rows c rows = record c { processes = rows }

twice : {X : Type 0} (f g h : ℕ → X) (i j k : ℕ) → Swapped f g i j → Swapped g h i j → h k ≡ f k
twice f g h i j k there back =
    elim (cases_Bool (eqb k i)) [
      | inl same ↦ let at : k ≡ i = grind (arith, nat_tests) in ap h at ∙ back.0 ∙ there.1 ∙ ap f (sym at)
      | inr other ↦
          elim (cases_Bool (eqb k j)) [
            | inl same ↦ let at : k ≡ j = grind (arith, nat_tests) in ap h at ∙ back.1 ∙ there.0 ∙ ap f (sym at)
            | inr other' ↦
                let no : k ≡ i → ⊥ = λ is. (let wrong : eqb k i ≡ true = grind (arith, nat_tests) in absurd (cc)) in
                let no' : k ≡ j → ⊥ = λ is. (let wrong : eqb k j ≡ true = grind (arith, nat_tests) in absurd (cc)) in
                back.2 k no no' ∙ there.2 k no no'
          ]
    ]

-- two elements that have changed places twice stand where they stood
pub swapped-back : {X : Type 0} (d : X) (xs ys zs : List X) (i j : ℕ) → i < length xs → j < length xs → ys ≡ swap xs i j → zs ≡ swap ys i j → zs ≡ xs
swapped-back d xs ys zs i j one two there back =
    let same : length ys ≡ length xs = ap length there ∙ length-swap xs i j in
    let all : length zs ≡ length xs = ap length back ∙ length-swap ys i j ∙ same in
    ext_get_or d zs xs all
    (λ k less.
    twice (λ n. slice_index_or xs n d) (λ n. slice_index_or ys n d) (λ n. slice_index_or zs n d) i j k (swapped_from_swap xs ys i j d one two there)
    (swapped_from_swap ys zs i j d (omega (arith, one, same)) (omega (arith, two, same)) back))

pub rows-back : (xs ys zs : List ProcessRow) (i j : ℕ) → i < length xs → j < length xs → ys ≡ swap xs i j → zs ≡ swap ys i j → zs ≡ xs
rows-back [] ys zs i j one two there back = absurd (omega (arith, one))
rows-back (x ∷ xs) ys zs i j one two there back = swapped-back x (x ∷ xs) ys zs i j one two there back

-- the write to a row's level is the row with another level
pub level-set : (rows : List ProcessRow) (p level : ℕ) (row : ProcessRow) → p < length rows → row ≡ slice_index_or rows p row
    → slice_set rows p (record row { level = level }) ≡ rows_with_level rows p level
level-set [] p level row less is = absurd (omega (arith, less))
level-set (x ∷ rows) zero level row less is = ap (λ (r : ProcessRow). record r { level = level } ∷ rows) is
level-set (x ∷ rows) (suc p) level row less is = ap (λ rs. x ∷ rs) (level-set rows p level row (omega (arith, less)) is)

rows-level-back : (rows : List ProcessRow) (p level : ℕ) (row : ProcessRow) → p < length rows
    → rows_with_level (rows_with_level rows p level) p (slice_index_or rows p row).level ≡ rows
rows-level-back [] p level row less = refl
rows-level-back (x ∷ rows) zero level row less = refl
rows-level-back (x ∷ rows) (suc p) level row less = ap (λ rs. x ∷ rs) (rows-level-back rows p level row (omega (arith, less)))

-- another level, and back to what it was
pub level-back : (c : Configuration) (p level own : ℕ) (row : ProcessRow) → p < length c.processes → own ≡ (slice_index_or c.processes p row).level
    → with_level (with_level c p level) p own ≡ c
level-back c p level own row less is =
    ap (λ k. with_level (with_level c p level) p k) is ∙ ap (with_rows c) (rows-level-back c.processes p level row less)

pub same-length : (rows : List ProcessRow) (p level : ℕ) → length (rows_with_level rows p level) ≡ length rows
same-length [] p level = refl
same-length (x ∷ rows) zero level = refl
same-length (x ∷ rows) (suc p) level = ap suc (same-length rows p level)

one-moved : (n q p r : ℕ) → q < n → p < n → r < n → moved q p r < n
one-moved n q p r one two here =
    elim (cases_Bool (eqb r p)) [
      | inl same ↦ rw same one
      | inr other ↦ elim (cases_Bool (eqb r q)) [ inl same ↦ rw other (rw same two) | inr other' ↦ rw other (rw other' here) ]
    ]

-- the processes of a chain are there under their new numbers
pub all-moved : (c : Configuration) (q p first : ℕ) (rest : List ℕ) → q < length c.processes → p < length c.processes → AreThere c (first ∷ rest)
    → AreThere c (moved q p first ∷ map (moved q p) rest)
all-moved c q p first rest one two there zero d less = one-moved (length c.processes) q p first one two (there 0 d (omega arith))
all-moved c q p first [] one two there (suc k) d less = absurd (omega (arith, less))
all-moved c q p first (next ∷ rest) one two there (suc k) d less =
    all-moved c q p next rest one two (λ i e short. there (suc i) e (omega (arith, short))) k d (omega (arith, less))
