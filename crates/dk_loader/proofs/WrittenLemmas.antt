-- The printed configuration reads as that configuration: its table passes every test, and each row reads back.
use Rattle.dk_loader.proofs.Names.{◌≡◌, ◌∙◌, ◌≤◌, ◌-◌, ℕ, Bool, true, List, ◌++◌, map, length, refl, ap, arith, None, Result, Ok, Some, IfOk, ◌==◌, if◌then◌else◌, list_all, and_parts, Data, string, table, Members, depth, members_depth, Costs, LevelRow, ProcessRow, Mutex, Configuration, BreaksNoRule, Test, first_broken, each_row, both_pass, rows_at, number_at, table_of, table_at, costs_in, level_in, process_in, mutex_in, document, in_table, in_table_at, top_unknown, costs_unknown, level_unknown, process_unknown, mutex_unknown, costs_wrong, level_row_wrong, process_row_wrong, mutex_row_wrong, costs_members, level_members, process_members, mutex_members, are_small_costs, is_small_level, is_small_process, is_small_mutex, IsSmall, nat_tests}
use Rattle.std.proofs.Common.{codes}
use Rattle.dk_loader.specs.declared.keys.Version.TheVariants as version
use Rattle.dk_loader.specs.Look.{version_of}
use Rattle.dk_loader.specs.Reading.{config_of, reading_of, reading}
use Rattle.dk_loader.specs.Shape.{top_wrong, unknown_tests, missing_tests, wrong_tests, shape_tests}
use Rattle.dk_loader.specs.Printed.{config_members}
use Rattle.dk_loader.proofs.PrintedLemmas.{items_list-items_of, rows_back, rows_pass, items_depth-map, text_of-map, all_texts-string}

-- each row reads back

costs_back : (c : Costs) → are_small_costs c ≡ true → costs_in (costs_members c) ≡ c
costs_back c small = grind (arith, nat_tests)

level_back : (l : LevelRow) → is_small_level l ≡ true → level_in (level_members l) ≡ l
level_back l small = grind (arith, nat_tests)

process_back : (last : ℕ) (p : ProcessRow) → is_small_process p ≡ true → process_in last (process_members p) ≡ p
process_back last p small = grind (arith, nat_tests)

mutex_back : (m : Mutex) → is_small_mutex m ≡ true → mutex_in (mutex_members m) ≡ m
mutex_back m small = grind (arith, nat_tests, and_parts, items_list-items_of, text_of-map)

-- each row has its keys, and no others, and each value is of its kind

level_is_right : (i : ℕ) (l : LevelRow) → is_small_level l ≡ true → first_broken (level_row_wrong i (table (level_members l))) ≡ None
level_is_right i l small = grind (arith, nat_tests)

process_is_right : (i : ℕ) (p : ProcessRow) → is_small_process p ≡ true → first_broken (process_row_wrong i (table (process_members p))) ≡ None
process_is_right i p small = grind (arith, nat_tests)

mutex_is_right : (i : ℕ) (m : Mutex) → is_small_mutex m ≡ true → first_broken (mutex_row_wrong i (table (mutex_members m))) ≡ None
mutex_is_right i m small = grind (arith, nat_tests, and_parts, all_texts-string)

costs_are_right : (c : Costs) → are_small_costs c ≡ true → first_broken (costs_wrong (costs_members c)) ≡ None
costs_are_right c small = grind (arith, nat_tests)

-- the parts of a list of tests, and the rows of the printed table

rows_none : {R : Type 0} (tests : ℕ → Data → List Test) (members : R → Members) (small : R → Bool) → ((i : ℕ) (row : R) → small row ≡ true → first_broken (tests i (table (members row))) ≡ None)
    → (rows : List R) (ds : List Data) → ds ≡ map (λ row. table (members row)) rows → list_all small rows ≡ true → first_broken (each_row tests 0 ds) ≡ None
rows_none tests members small passes rows ds same all = ap (λ (t : List Data). first_broken (each_row tests 0 t)) same ∙ rows_pass tests members small passes 0 rows all

level_data : (c : Configuration) → rows_at (codes "level") (config_members c) ≡ map (λ row. table (level_members row)) c.levels
unfolding config_members
level_data c = items_list-items_of (map (λ row. table (level_members row)) c.levels)

process_data : (c : Configuration) → rows_at (codes "process") (config_members c) ≡ map (λ row. table (process_members row)) c.processes
unfolding config_members
process_data c = items_list-items_of (map (λ row. table (process_members row)) c.processes)

mutex_data : (c : Configuration) → rows_at (codes "mutex") (config_members c) ≡ map (λ row. table (mutex_members row)) c.mutexes
unfolding config_members
mutex_data c = items_list-items_of (map (λ row. table (mutex_members row)) c.mutexes)

version_back : (c : Configuration) → c.version ≡ 2 → number_at (codes "version") 0 (config_members c) ≡ c.version
unfolding config_members
version_back c two = rw two refl

version_of-config_members : (c : Configuration) → c.version ≡ 2 → version_of (config_members c) ≡ version.Two
unfolding version_of
version_of-config_members c two = ap (λ n. if n == 2 then version.Two else version.One) (version_back c two ∙ two)

-- the tests of the printed table

unknown_none : (c : Configuration) → IsSmall c → c.version ≡ 2 → first_broken (unknown_tests (config_members c)) ≡ None
unfolding unknown_tests config_members
unknown_none c small two =
    let ms = config_members c in
    let levels = each_row (λ i d. in_table (level_unknown i) d) 0 (rows_at (codes "level") ms) in
    let processes = each_row (λ i d. in_table (process_unknown (version_of ms) i) d) 0 (rows_at (codes "process") ms) in
    let mutexes = each_row (λ i d. in_table (mutex_unknown i) d) 0 (rows_at (codes "mutex") ms) in
    let in_version : first_broken (each_row (λ i d. in_table (process_unknown version.Two i) d) 0 (rows_at (codes "process") ms)) ≡ None = rows_none (λ i d. in_table (process_unknown version.Two i) d) process_members is_small_process (λ i p h. refl) c.processes (rows_at (codes "process") ms) (process_data c) small.processes in
    let process_none : first_broken processes ≡ None = ap (λ b. first_broken (each_row (λ i d. in_table (process_unknown b i) d) 0 (rows_at (codes "process") ms))) (version_of-config_members c two) ∙ in_version in
    let level_none : first_broken levels ≡ None = rows_none (λ i d. in_table (level_unknown i) d) level_members is_small_level (λ i l h. refl) c.levels (rows_at (codes "level") ms) (level_data c) small.levels in
    let mutex_none : first_broken mutexes ≡ None = rows_none (λ i d. in_table (mutex_unknown i) d) mutex_members is_small_mutex (λ i m h. refl) c.mutexes (rows_at (codes "mutex") ms) (mutex_data c) small.mutexes in
    both_pass (top_unknown ms) (in_table_at costs_unknown (codes "costs") ms ++ (levels ++ (processes ++ mutexes))) refl
    (both_pass (in_table_at costs_unknown (codes "costs") ms) (levels ++ (processes ++ mutexes)) refl
    (both_pass levels (processes ++ mutexes) level_none (both_pass processes mutexes process_none mutex_none)))

missing_none : (c : Configuration) → IsSmall c → first_broken (missing_tests (config_members c)) ≡ None
unfolding missing_tests config_members
missing_none c small = grind (arith, nat_tests, rows_none, level_data, process_data, mutex_data, both_pass)

top_right : (c : Configuration) → c.version ≡ 2 → first_broken (top_wrong (config_members c)) ≡ None
unfolding top_wrong config_members
top_right c two = rw two refl

wrong_none : (c : Configuration) → IsSmall c → c.version ≡ 2 → first_broken (wrong_tests (config_members c)) ≡ None
unfolding wrong_tests config_members
wrong_none c small two =
    let ms = config_members c in
    let levels = each_row level_row_wrong 0 (rows_at (codes "level") ms) in
    let processes = each_row process_row_wrong 0 (rows_at (codes "process") ms) in
    let mutexes = each_row mutex_row_wrong 0 (rows_at (codes "mutex") ms) in
    let level_none : first_broken levels ≡ None = rows_none level_row_wrong level_members is_small_level level_is_right c.levels (rows_at (codes "level") ms) (level_data c) small.levels in
    let process_none : first_broken processes ≡ None = rows_none process_row_wrong process_members is_small_process process_is_right c.processes (rows_at (codes "process") ms) (process_data c) small.processes in
    let mutex_none : first_broken mutexes ≡ None = rows_none mutex_row_wrong mutex_members is_small_mutex mutex_is_right c.mutexes (rows_at (codes "mutex") ms) (mutex_data c) small.mutexes in
    both_pass (top_wrong ms) (costs_wrong (costs_members c.costs) ++ (levels ++ (processes ++ mutexes))) (top_right c two)
    (both_pass (costs_wrong (costs_members c.costs)) (levels ++ (processes ++ mutexes)) (costs_are_right c.costs small.costs)
    (both_pass levels (processes ++ mutexes) level_none (both_pass processes mutexes process_none mutex_none)))

shape_none : (c : Configuration) → IsSmall c → c.version ≡ 2 → first_broken (shape_tests (config_members c)) ≡ None
unfolding shape_tests
shape_none c small two = grind (arith, nat_tests, both_pass, unknown_none, missing_none, wrong_none)

-- the whole configuration

data_back : {R : Type 0} (members : R → Members) (row_in : Members → R) (small : R → Bool) → ((row : R) → small row ≡ true → row_in (members row) ≡ row)
    → (rows : List R) (ds : List Data) → ds ≡ map (λ row. table (members row)) rows → list_all small rows ≡ true → map (λ d. row_in (table_of d)) ds ≡ rows
data_back members row_in small back rows ds same all = ap (map (λ d. row_in (table_of d))) same ∙ rows_back members row_in small back rows all

costs_at_back : (c : Configuration) → IsSmall c → costs_in (table_at (codes "costs") (config_members c)) ≡ c.costs
unfolding config_members
costs_at_back c small = costs_back c.costs small.costs

config_back : (c : Configuration) → IsSmall c → c.version ≡ 2 → config_of (config_members c) ≡ c
unfolding config_of
config_back c small two =
    let ms = config_members c in
    let last = length (rows_at (codes "level") ms) - 1 in
    let levels : map (λ d. level_in (table_of d)) (rows_at (codes "level") ms) ≡ c.levels = data_back level_members level_in is_small_level level_back c.levels (rows_at (codes "level") ms) (level_data c) small.levels in
    let processes : map (λ d. process_in last (table_of d)) (rows_at (codes "process") ms) ≡ c.processes = data_back process_members (process_in last) is_small_process (process_back last) c.processes (rows_at (codes "process") ms) (process_data c) small.processes in
    let mutexes : map (λ d. mutex_in (table_of d)) (rows_at (codes "mutex") ms) ≡ c.mutexes = data_back mutex_members mutex_in is_small_mutex mutex_back c.mutexes (rows_at (codes "mutex") ms) (mutex_data c) small.mutexes in
    same_parts (number_at (codes "version") 0 ms) (costs_in (table_at (codes "costs") ms)) (map (λ d. level_in (table_of d)) (rows_at (codes "level") ms)) (map (λ d. process_in last (table_of d)) (rows_at (codes "process") ms)) (map (λ d. mutex_in (table_of d)) (rows_at (codes "mutex") ms)) c
    (version_back c two) (costs_at_back c small) levels processes mutexes
  where
    same_parts : (version : ℕ) (costs : Costs) (levels : List LevelRow) (processes : List ProcessRow) (mutexes : List Mutex) (c : Configuration)
        → version ≡ c.version → costs ≡ c.costs → levels ≡ c.levels → processes ≡ c.processes → mutexes ≡ c.mutexes
        → (let made : Configuration = record { version = version; costs = costs; levels = levels; processes = processes; mutexes = mutexes } in made) ≡ c
    same_parts version costs levels processes mutexes c v k l p m = rw (v, k, l, p, m) refl

-- it reads as the configuration
pub reading_of-config_members : (c : Configuration) → IsSmall c → BreaksNoRule c → c.version ≡ 2 → reading_of (config_members c) ≡ Ok c
unfolding reading_of
reading_of-config_members c small checked two = grind (arith, nat_tests, config_back, both_pass, shape_none)

-- it is flat enough to be read
mutex_depth : (m : Mutex) → depth (table (mutex_members m)) ≤ 2
mutex_depth m = omega (arith, items_depth-map string 0 (λ t. omega arith) m.users)

pub members_depth-config_members : (c : Configuration) → members_depth (config_members c) ≤ 80
unfolding config_members
members_depth-config_members c =
    omega (
      arith,
      items_depth-map (λ row. table (level_members row)) 2 (λ row. omega arith) c.levels,
      items_depth-map (λ row. table (process_members row)) 2 (λ row. omega arith) c.processes,
      items_depth-map (λ row. table (mutex_members row)) 2 mutex_depth c.mutexes,
    )

-- so the text that reads as its table reads as the configuration
pub reading-printed : {X E : Type 0} (bytes : X → List ℕ) (result : Result X E) (ms : Members) (c : Configuration)
    → ms ≡ config_members c → IsSmall c → BreaksNoRule c → c.version ≡ 2
    → IfOk result (λ v. document (bytes v) ≡ Some ms) → IfOk result (λ v. reading (bytes v) ≡ Ok c)
unfolding reading
reading-printed bytes is ms c same small checked two read = grind (arith, nat_tests, reading_of-config_members)
