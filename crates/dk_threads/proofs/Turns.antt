-- Rows that are taken from the front one by one and put back at the end as what becomes of them.
use Rattle.dk_threads.proofs.Names.{◌≡◌, ◌<◌, ◌∙◌, ℕ, suc, get_or, sym, ◌+◌, add-one, List, [], ◌∷◌, ◌++◌, append_assoc, length, take, drop, map, refl, ap, Some, filter_map, cons_option, take_more, filter_map-append, ThreadRow, nat_tests, arith}
use Rattle.std.specs.Prelude.{Option}
use Rattle.std.proofs.Math.Seq.{drop-cons}

-- the rows once the first i had their turn
abbrev pub turned : (ThreadRow → Option ThreadRow) → ℕ → List ThreadRow → List ThreadRow
turned f i rows = drop i rows ++ filter_map f (take i rows)

-- the first row is the next of the old ones
pub turned-first : (f : ThreadRow → Option ThreadRow) (i : ℕ) (rows : List ThreadRow) (d : ThreadRow) → i < length rows
    → turned f i rows ≡ get_or rows i d ∷ (drop (suc i) rows ++ filter_map f (take i rows))
turned-first f i rows d h = rw (drop-cons rows i d) refl

pub turned-more : (f : ThreadRow → Option ThreadRow) (i : ℕ) (rows : List ThreadRow) (row : ThreadRow) (rest : List ThreadRow) → i < length rows
    → turned f i rows ≡ row ∷ rest → rest ++ cons_option (f row) [] ≡ turned f (i + 1) rows
turned-more f i rows row rest h is =
    let first = turned-first f i rows row h in
    let same : get_or rows i row ≡ row = cc in
    let left : rest ≡ drop (suc i) rows ++ filter_map f (take i rows) = cc in
    let last : filter_map f (take (i + 1) rows) ≡ filter_map f (take i rows) ++ cons_option (f row) [] =
    ap (filter_map f) (take_more rows i row h)
    ∙ filter_map-append f (take i rows) (get_or rows i row ∷ [])
    ∙ ap (λ (x : ThreadRow). filter_map f (take i rows) ++ cons_option (f x) []) same in
    ap (λ (xs : List ThreadRow). xs ++ cons_option (f row) []) left
    ∙ append_assoc (drop (suc i) rows) (filter_map f (take i rows)) (cons_option (f row) [])
    ∙ ap (λ (xs : List ThreadRow). drop (suc i) rows ++ xs) (sym last)
    ∙ ap (λ (n : ℕ). drop n rows ++ filter_map f (take (i + 1) rows)) (sym (add-one i))

-- the row whose turn it is
pub turned-row : (f : ThreadRow → Option ThreadRow) (i : ℕ) (rows : List ThreadRow) (row : ThreadRow) (rest : List ThreadRow) → i < length rows
    → turned f i rows ≡ row ∷ rest → row ≡ get_or rows i row
turned-row f i rows row rest h is = grind (arith, nat_tests, turned-first)

pub filter_map-some : (f : ThreadRow → ThreadRow) (rows : List ThreadRow) → filter_map (λ row. Some (f row)) rows ≡ map f rows
filter_map-some f [] = refl
filter_map-some f (row ∷ rows) = ap (λ (xs : List ThreadRow). f row ∷ xs) (filter_map-some f rows)

-- a turn: the first row is taken out, and what becomes of it put back
pub turned-step : (f : ThreadRow → Option ThreadRow) (i : ℕ) (rows now rest new : List ThreadRow) (row : ThreadRow) (next : Option ThreadRow) → i < length rows
    → now ≡ turned f i rows → now ≡ row ∷ rest → next ≡ f row → new ≡ rest ++ cons_option next [] → new ≡ turned f (i + 1) rows
turned-step f i rows now rest new row next h is first becomes back = grind (arith, nat_tests, turned-more)
