-- What the tests of many rows report, row by row.
use Rattle.dk_loader.proofs.Names.{ℕ, ◌≡◌, ◌<◌, ◌+◌, List, [], ◌∷◌, ◌++◌, append_assoc, length, get_or, drop, option_to_list, ConfigFault, Test, each_row, first_broken, Field, Section, Members, view, Value, Version, Rule, field_tests, row_tests, broken, broken-row, nat_tests, arith}

abbrev pub tests_of_fields : Rule → Section → Version → ℕ → Members → ℕ → Field → List Test
tests_of_fields r s v i ms _ f = field_tests r s v i ms f

abbrev pub tests_of_rows : Rule → Section → Version → ℕ → Value → List Test
tests_of_rows r s version i v = row_tests r s version i (view v)

-- what one test reports is the first that it reports
pub one_test : (t : Test) → option_to_list (first_broken (t ∷ [])) ≡ broken (t ∷ [])
one_test t = grind (arith, nat_tests)

-- one row of the way through the rows
pub row_more : {R : Type 0} (tests : ℕ → R → List Test) (rows : List R) (i : ℕ) (row : R) (a b z more : List ConfigFault)
    → i < length rows → row ≡ get_or rows i row → more ≡ broken (tests i row) → b ≡ a ++ more
    → a ++ broken (each_row tests i (drop i rows)) ≡ z → b ++ broken (each_row tests (i + 1) (drop (i + 1) rows)) ≡ z
row_more tests rows i row a b z more inside is_row reports added before = grind (arith, nat_tests, append_assoc, broken-row)

-- the same of a row that is read by its place
pub place_more : {R : Type 0} (tests : ℕ → R → List Test) (rows : List R) (i : ℕ) (d : R) (a b z more : List ConfigFault)
    → i < length rows → more ≡ broken (tests i (get_or rows i d)) → b ≡ a ++ more
    → a ++ broken (each_row tests i (drop i rows)) ≡ z → b ++ broken (each_row tests (i + 1) (drop (i + 1) rows)) ≡ z
place_more tests rows i d a b z more inside reports added before = grind (arith, nat_tests, append_assoc, broken-row)
