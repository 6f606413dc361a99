-- The text of the lines of a header, taken apart at the first one.
use Rattle.dk_ledger.proofs.Names.{◌≡◌, ◌∙◌, sym, ap, ◌≤◌, ◌+◌, ◌-◌, ℕ, suc, add-one, List, [], ◌∷◌, ◌++◌, length, take, drop, get_or, arith, true, take_rest, list_all, is_name, TableRow, ProcessLine, level_body, level_lines, process_body, process_lines, ended}
use Rattle.dk_ledger.proofs.NameLemmas.{both_left, both_right}

-- all but the first, as a slice of the rest is seen
abbrev pub rest_of : {A : Type 0} → List A → List A
rest_of xs = take (length xs - 1) (drop 1 xs)

pub level_parts : (level : ℕ) (rows : List TableRow) (d : TableRow) (text : List ℕ) → 1 ≤ length rows → text ≡ level_body level (get_or rows 0 d)
    → level_lines level rows ≡ ended text ++ level_lines (level + 1) (rest_of rows)
level_parts level [] d text h is = absurd (omega arith)
level_parts level (row ∷ rows) d text h is =
    ap (λ t. ended t ++ level_lines (suc level) rows) (sym is) ∙ ap (λ n. ended text ++ level_lines n rows) (sym (add-one level))
    ∙ ap (λ rest. ended text ++ level_lines (level + 1) rest) (sym (take_rest (row ∷ rows) 1))

pub process_parts : (ps : List ProcessLine) (p : ProcessLine) (text : List ℕ) → 1 ≤ length ps → p ≡ get_or ps 0 p → text ≡ process_body p
    → process_lines ps ≡ ended text ++ process_lines (rest_of ps)
process_parts [] p text h first is = absurd (omega arith)
process_parts (q ∷ ps) p text h first is =
    ap (λ t. ended t ++ process_lines ps) (ap process_body (sym first) ∙ sym is) ∙ ap (λ rest. ended text ++ process_lines rest) (sym (take_rest (q ∷ ps) 1))

-- the first of the lines has a name
pub first_named : (ps : List ProcessLine) (p : ProcessLine) → 1 ≤ length ps → p ≡ get_or ps 0 p → list_all (λ q. is_name q.name) ps ≡ true → is_name p.name ≡ true
first_named [] p l is h = absurd (omega arith)
first_named (q ∷ qs) p l is h = ap (λ x. is_name x.name) is ∙ both_left (is_name q.name) (list_all (λ x. is_name x.name) qs) h

-- those behind the first have names
pub rest_named : (ps : List ProcessLine) → list_all (λ q. is_name q.name) ps ≡ true → list_all (λ q. is_name q.name) (rest_of ps) ≡ true
rest_named ps h = ap (list_all (λ q. is_name q.name)) (take_rest ps 1) ∙ go ps h
  where
    go : (qs : List ProcessLine) → list_all (λ q. is_name q.name) qs ≡ true → list_all (λ q. is_name q.name) (drop 1 qs) ≡ true
    go [] k = k
    go (q ∷ qs) k = both_right (is_name q.name) (list_all (λ x. is_name x.name) qs) k
