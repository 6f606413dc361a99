-- The names of a header are short, and those of a checked configuration make a printable header.
use Rattle.dk_ledger.proofs.Names.{◌≡◌, ◌∙◌, ◌<◌, ◌≤◌, ℕ, zero, suc, Bool, true, List, [], ◌∷◌, length, map, get_or, arith, refl, ap, sym, subst, take, ◌++◌, ◌+◌, add-one, ◌&&◌, slice_get, All, list_all, option_map_or, slice_get-get_or, Configuration, IsChecked, IsWithinLimits, is_name, ProcessRow, TableRow, ProcessLine, Heading, IsPrintable, heading_of, line_of_row, nat_tests}
pub use Rattle.std.proofs.lemmas.Bool.{and_from as both}

pub both_left : (a b : Bool) → (a && b) ≡ true → a ≡ true
both_left a b h = grind (arith, nat_tests)

pub both_right : (a b : Bool) → (a && b) ≡ true → b ≡ true
both_right a b h = grind (arith, nat_tests)

pub name_short : (name : List ℕ) → is_name name ≡ true → length name ≤ 16
name_short name h = grind (arith, nat_tests)

pub named_short : (ps : List ProcessLine) → list_all (λ p. is_name p.name) ps ≡ true → (k : ℕ) → length (option_map_or (λ p. p.name) (slice_get ps k) []) ≤ 16
named_short [] h k = omega arith
named_short (p ∷ ps) h zero = name_short p.name (both_left (is_name p.name) (list_all (λ q. is_name q.name) ps) h)
named_short (p ∷ ps) h (suc k) = named_short ps (both_right (is_name p.name) (list_all (λ q. is_name q.name) ps) h) k

same_names : (rows : List ProcessRow) → list_all (λ row. is_name row.name) rows ≡ true → list_all (λ p. is_name p.name) (map line_of_row rows) ≡ true
same_names [] h = h
same_names (row ∷ rows) h = grind (arith, nat_tests, same_names rows)

same_count : (rows : List ProcessRow) → length (map line_of_row rows) ≡ length rows
same_count [] = refl
same_count (row ∷ rows) = ap suc (same_count rows)

pub is_printable : (c : Configuration) (table : List TableRow) → IsWithinLimits c → length table ≡ length c.levels → IsPrintable (heading_of c table)
is_printable c table limits one_each = grind (arith, nat_tests, same_count, same_names)

pub levels_fit : (c : Configuration) → IsChecked c → IsWithinLimits c → All (λ row. row.level < 256) c.processes
levels_fit c checked limits k d below = grind (arith, nat_tests, slice_get-get_or)

pub is_printable_as : (h : Heading) (c : Configuration) (table : List TableRow) → h ≡ heading_of c table → IsWithinLimits c → length table ≡ length c.levels → IsPrintable h
is_printable_as h c table is limits one_each = subst IsPrintable (sym is) (is_printable c table limits one_each)

pub take_all : {A : Type 0} (xs : List A) → take (length xs) xs ≡ xs
take_all [] = refl
take_all (x ∷ xs) = ap (λ ys. x ∷ ys) (take_all xs)

-- one more element of a list that is mapped
pub map_row : {A B : Type 0} (f : A → B) (xs : List A) (i : ℕ) (x : A) → i < length xs → x ≡ get_or xs i x → map f (take (i + 1) xs) ≡ map f (take i xs) ++ f x ∷ []
map_row f xs i x below is = ap (λ n. map f (take n xs)) (add-one i) ∙ go xs i below is
  where
    go : (ys : List _) (j : ℕ) → j < length ys → x ≡ get_or ys j x → map f (take (suc j) ys) ≡ map f (take j ys) ++ f x ∷ []
    go [] j l e = absurd (omega arith)
    go (y ∷ ys) zero l e = ap (λ z. f z ∷ []) (sym e)
    go (y ∷ ys) (suc j) l e = ap (λ zs. f y ∷ zs) (go ys j (omega arith) e)
