-- The header of an accepted configuration can be read.
use Rattle.dk_ledger.proofs.Names.{ℕ, zero, suc, ◌≡◌, ◌∙◌, ◌+◌, ◌<◌, ◌≤◌, true, false, List, [], ◌∷◌, length, map, refl, sym, ap, subst, arith, slice_get, AllByRecursion, list_all, option_map_or, bytes_eq, and_parts, length-map, Configuration, IsChecked, IsWithinLimits, IsAccepted, numbers, below, length-numbers, process_name, is_name, ProcessRow, size_of, row_of, rows_of, heading_of, line_of_row, name_of, IsLevelRow, IsProcessLine, HaveOwnNames, IsReadableHeading, size_in, nat_tests}

-- the table of a configuration has a row for each level
pub length-rows_of : (c : Configuration) → length (rows_of c) ≡ length c.levels
length-rows_of c = length-map (below (length c.levels)) (row_of c) ∙ length-numbers 0 (length c.levels)

abbrev level_in : List ProcessRow → ℕ → ℕ
level_in rows p = option_map_or (λ row. row.level) (slice_get rows p) 0

abbrev budget_in : List ProcessRow → ℕ → ℕ
budget_in rows p = option_map_or (λ row. row.budget) (slice_get rows p) 0

level_rows : (c : Configuration) → IsWithinLimits c → IsAccepted c → (low n : ℕ) → low + n ≤ length c.levels → AllByRecursion IsLevelRow (map (row_of c) (numbers low n))
level_rows c limits accepted low zero within = tt
level_rows c limits accepted low (suc n) within = grind (arith, nat_tests, level_rows c limits accepted (suc low) n)

process_lines : (levels : ℕ) (rows : List ProcessRow) → list_all (λ row. is_name row.name) rows ≡ true
    → ((p : ℕ) → p < length rows → level_in rows p < levels) → ((p : ℕ) → budget_in rows p ≤ 1000000)
    → AllByRecursion (IsProcessLine levels) (map line_of_row rows)
process_lines levels [] names known few = tt
process_lines levels (row ∷ rows) names known few =
    let parts = and_parts (is_name row.name) (list_all (λ r. is_name r.name) rows) names in
    let most = few 0 in (
      record { name = parts.0; level = known 0 (omega arith); budget = omega (arith, most) },
      process_lines levels rows parts.1 (λ p here. known (suc p) (omega (arith, here))) (λ p. few (suc p)),
    )

name_in : (rows : List ProcessRow) (p : ℕ)
    → option_map_or (λ line. line.name) (slice_get (map line_of_row rows) p) [] ≡ option_map_or (λ row. row.name) (slice_get rows p) []
name_in [] p = refl
name_in (row ∷ rows) zero = refl
name_in (row ∷ rows) (suc p) = name_in rows p

count_processes : (c : Configuration) → length (map line_of_row c.processes) ≡ length c.processes
count_processes c = length-map c.processes line_of_row

-- the header of a configuration has its levels and processes
pub heading_size : (c : Configuration) → size_in (heading_of c (rows_of c)) ≡ size_of c
heading_size c = rw (length-rows_of c, count_processes c) refl

own_names : (c : Configuration) → IsWithinLimits c → HaveOwnNames (heading_of c (rows_of c))
own_names c limits p q before within =
    let count = count_processes c in
    let apart : bytes_eq (process_name c p) (process_name c q) ≡ false = limits.distinct p q before (omega (arith, count, within)) in
    ap (λ n. bytes_eq n (name_of (heading_of c (rows_of c)) q)) (name_in c.processes p) ∙ ap (bytes_eq (process_name c p)) (name_in c.processes q) ∙ apart

-- the header of an accepted configuration can be read
pub accepted_heading : (c : Configuration) → IsChecked c → IsWithinLimits c → IsAccepted c → IsReadableHeading (heading_of c (rows_of c))
accepted_heading c checked limits accepted =
    let levels = length-rows_of c in
    let processes = count_processes c in
    let some_levels = limits.some_levels in
    let few_levels = limits.few_levels in
    let some_processes = limits.some_processes in
    let few_processes = limits.few_processes in
    record {
      some_levels = omega (arith, levels, some_levels);
      few_levels = omega (arith, levels, few_levels);
      levels = level_rows c limits accepted 0 (length c.levels) (omega arith);
      some_processes = omega (arith, processes, some_processes);
      few_processes = omega (arith, processes, few_processes);
      processes = subst (λ n. AllByRecursion (IsProcessLine n) (map line_of_row c.processes)) (sym levels)
          (process_lines (length c.levels) c.processes limits.names checked.levels limits.budgets);
      own_names = own_names c limits;
    }
