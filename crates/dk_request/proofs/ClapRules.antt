-- The simple command of a row, as `clap` builds it: its rules, one after another.
use Rattle.dk_request.proofs.Names.{ℕ, zero, suc, ◌+◌, min, append_assoc, zero-add, ◌≤◌, ◌<◌, ◌==◌, ◌&&◌, not, ◌≡◌, ◌∙◌, Bool, true, false, cond, List, [], ◌∷◌, ◌++◌, Some, is_some, length, take, refl, sym, ap, ap₂, arith, if◌then◌else◌, find, fold, slice_index_or, list_all, list_any, option_map_or, bytes_eq, and_parts, and_from, list_all-append, nat_tests, bytes_eq-Decides, App, Rule, Text, built, is_simple, with_rule, is_early_multiple, filled, filled_from, help_rule, is_in_order, with_index, Synopsis, are_apart, argument, arguments, flag, flags_for, is_last, simple_command, with_rules}
use Rattle.clap.specs.declared.builder.value_parser.ValueParser.TheVariants as vp

-- an argument at its place, as `clap` fills it in
abbrev pub placed : Bool → ℕ → Text → Rule
placed many i name = record (argument many name) {
  index = Some i;
  range = Some (record { start_inclusive = 1; end_inclusive = 1 });
  parser = Some vp.String;
}

abbrev pub placed_from : Bool → ℕ → List Text → List Rule
placed_from repeats i [] = []
placed_from repeats i (name ∷ more) = placed (repeats && is_last more) i name ∷ placed_from repeats (suc i) more

abbrev pub filled_flag : Rule
filled_flag = filled flag

abbrev pub filled_help : Rule
filled_help = filled help_rule

abbrev pub rest_for : Bool → List Rule
rest_for reports = if reports then (filled_flag ∷ filled_help ∷ []) else (filled_help ∷ [])

-- the rules of the built command
abbrev pub rules_for : Synopsis → List Rule
rules_for row = placed_from row.repeats 1 row.names ++ rest_for row.reports

placed_is : (many : Bool) (i : ℕ) (name : Text) → with_index i (filled (argument many name)) ≡ placed many i name
placed_is true i name = refl
placed_is false i name = refl

rest_is : (reports : Bool) (i : ℕ) → filled_from i (flags_for reports ++ help_rule ∷ []) ≡ rest_for reports
rest_is true i = refl
rest_is false i = refl

filled_is : (repeats reports : Bool) (names : List Text) (i : ℕ) → i + length names < 1000
    → filled_from i (arguments repeats names ++ (flags_for reports ++ help_rule ∷ [])) ≡ placed_from repeats i names ++ rest_for reports
filled_is repeats reports [] i few = rest_is reports i
filled_is repeats reports (name ∷ more) i few =
    let next : min (i + 1) 18446744073709551615 ≡ suc i = omega arith in
    ap₂ (λ r rs. r ∷ rs) (placed_is (repeats && is_last more) i name)
    (ap (λ j. filled_from j (arguments repeats more ++ (flags_for reports ++ help_rule ∷ []))) next ∙ filled_is repeats reports more (suc i) (omega arith))

-- building leaves the rules of the row
pub rules_is : (row : Synopsis) → length row.names < 100 → (built (simple_command row)).top.rules ≡ rules_for row
rules_is row few =
    ap (filled_from 1) (append_assoc (arguments row.repeats row.names) (flags_for row.reports) (help_rule ∷ []))
    ∙ filled_is row.repeats row.reports row.names 1 (omega arith)

-- ---- finding a rule

abbrev pub has_index : ℕ → Rule → Bool
has_index k a = option_map_or (λ j. j == k) a.index false

abbrev pub has_name : Text → Rule → Bool
has_name name a = bytes_eq a.id name

abbrev pub name_at : List Text → ℕ → Text
name_at names k = slice_index_or names k []

-- whether the argument at place k stands for several words
abbrev pub is_many : Bool → List Text → ℕ → Bool
is_many repeats names k = repeats && (k + 1 == length names)

last_is : (names : List Text) (k : ℕ) → (k + 1 == length names) ≡ (suc k + 1 == suc (length names))
last_is names k = grind (arith, nat_tests)

pub find_index : (repeats : Bool) (names : List Text) (rest : List Rule) (i k : ℕ) → k < length names
    → find (has_index (i + k)) (placed_from repeats i names ++ rest) ≡ Some (placed (is_many repeats names k) (i + k) (name_at names k))
find_index repeats [] rest i k lt = absurd (omega arith)
find_index repeats (name ∷ more) rest i zero lt =
    let here : (i == i + 0) ≡ true = grind (arith, nat_tests) in
    let same : i ≡ i + 0 = omega arith in
    let one : (length more == 0) ≡ (0 + 1 == suc (length more)) = grind (arith, nat_tests) in
    rw here (ap₂ (λ b j. Some (placed (repeats && b) j name)) one same)
find_index repeats (name ∷ more) rest i (suc k) lt =
    let other : (i == i + suc k) ≡ false = grind (arith, nat_tests) in
    let there : suc i + k ≡ i + suc k = omega arith in
    rw other (ap (λ j. find (has_index j) (placed_from repeats (suc i) more ++ rest)) (sym there)
    ∙ find_index repeats more rest (suc i) k (omega arith)
    ∙ ap₂ (λ b j. Some (placed (repeats && b) j (name_at more k))) (last_is more k) there)

pub apart_at : (name : Text) (names : List Text) (k : ℕ) → list_all (λ other. not (bytes_eq name other)) names ≡ true → k < length names → bytes_eq name (name_at names k) ≡ false
apart_at name [] k h lt = absurd (omega arith)
apart_at name (other ∷ more) zero h lt = is_false _ (and_parts _ _ h).0
  where
    is_false : (b : Bool) → not b ≡ true → b ≡ false
    is_false true e = cc
    is_false false e = refl
apart_at name (other ∷ more) (suc k) h lt = apart_at name more k (and_parts _ _ h).1 (omega arith)

pub same_name : (name : Text) → bytes_eq name name ≡ true
same_name name = (bytes_eq-Decides name name).1 refl

pub find_name : (repeats : Bool) (names : List Text) (rest : List Rule) (i k : ℕ) → are_apart names ≡ true → k < length names
    → find (has_name (name_at names k)) (placed_from repeats i names ++ rest) ≡ Some (placed (is_many repeats names k) (i + k) (name_at names k))
find_name repeats [] rest i k apart lt = absurd (omega arith)
find_name repeats (name ∷ more) rest i zero apart lt =
    let same : i ≡ i + 0 = omega arith in
    let one : (length more == 0) ≡ (0 + 1 == suc (length more)) = grind (arith, nat_tests) in
    rw (same_name name) (ap₂ (λ b j. Some (placed (repeats && b) j name)) one same)
find_name repeats (name ∷ more) rest i (suc k) apart lt =
    let parts : (list_all (λ other. not (bytes_eq name other)) more ≡ true) × (are_apart more ≡ true) = and_parts _ _ apart in
    let there : suc i + k ≡ i + suc k = omega arith in
    rw (apart_at name more k parts.0 (omega arith)) (find_name repeats more rest (suc i) k parts.1 (omega arith)
    ∙ ap₂ (λ b j. Some (placed (repeats && b) j (name_at more k))) (last_is more k) there)

-- ---- tests of all rules

pub each_placed : (test : Rule → Bool) (repeats : Bool) (names : List Text) (i : ℕ)
    → ((k : ℕ) (many : Bool) → k < length names → test (placed many (i + k) (name_at names k)) ≡ true) → list_all test (placed_from repeats i names) ≡ true
each_placed test repeats [] i each = refl
each_placed test repeats (name ∷ more) i each =
    let same : i + 0 ≡ i = omega arith in
    and_from _ _ (ap (λ j. test (placed (repeats && is_last more) j name)) (sym same) ∙ each 0 (repeats && is_last more) (omega arith))
    (each_placed test repeats more (suc i) (λ k many lt. let there : suc i + k ≡ i + suc k = omega arith in ap (λ j. test (placed many j (name_at more k))) there ∙ each (suc k) many (omega arith)))

each_append : (test : Rule → Bool) (xs ys : List Rule) → list_all test xs ≡ true → list_all test ys ≡ true → list_all test (xs ++ ys) ≡ true
each_append test xs ys h k = list_all-append test xs ys ∙ and_from _ _ h k

-- what holds of each argument, of the flag and of the request for help holds of all rules
pub each_rule : (test : Rule → Bool) (row : Synopsis) → ((k : ℕ) (many : Bool) → k < length row.names → test (placed many (1 + k) (name_at row.names k)) ≡ true)
    → test filled_flag ≡ true → test filled_help ≡ true → list_all test (rules_for row) ≡ true
each_rule test row each flag_too help_too =
    each_append test (placed_from row.repeats 1 row.names) (rest_for row.reports) (each_placed test row.repeats row.names 1 each) (rest row.reports)
  where
    rest : (reports : Bool) → list_all test (rest_for reports) ≡ true
    rest true = and_from _ _ flag_too (and_from _ _ help_too refl)
    rest false = and_from _ _ help_too refl

-- ---- the command is simple

count_is : (repeats reports : Bool) (names : List Text) (i n : ℕ)
    → fold (λ m (a : Rule). m + cond (is_some a.index) 1 0) n (placed_from repeats i names ++ rest_for reports) ≡ n + length names
count_is repeats true [] i n = omega arith
count_is repeats false [] i n = omega arith
count_is repeats reports (name ∷ more) i n = count_is repeats reports more (suc i) (n + 1) ∙ omega arith

never_early : (repeats reports : Bool) (names : List Text) (i n : ℕ) → n + 1 ≡ i + length names
    → list_any (is_early_multiple n) (placed_from repeats i names ++ rest_for reports) ≡ false
never_early repeats true [] i n last = refl
never_early repeats false [] i n last = refl
never_early true reports (name ∷ []) i n last =
    let here : (n == i) ≡ true = grind (arith, nat_tests) in
    rw here (never_early true reports [] (suc i) n (omega arith))
never_early true reports (name ∷ other ∷ more) i n last =
    let others : (suc (length more) == 0) ≡ false = grind (arith, nat_tests) in
    rw others (never_early true reports (other ∷ more) (suc i) n (omega arith))
never_early false reports (name ∷ more) i n last = never_early false reports more (suc i) n (omega arith)

given_simple : (repeats reports : Bool) (names : List Text) → list_all (λ (a : Rule). a.is_simple) (arguments repeats names ++ flags_for reports) ≡ true
given_simple repeats true [] = refl
given_simple repeats false [] = refl
given_simple repeats reports (name ∷ more) = given_simple repeats reports more

pub simple_is : (row : Synopsis) → length row.names < 100 → is_simple (simple_command row) ≡ true
simple_is row few =
    let few_rules : (built (simple_command row)).top.rules ≡ rules_for row = rules_is row few in
    let given : list_all (λ (a : Rule). a.is_simple) (arguments row.repeats row.names ++ flags_for row.reports) ≡ true = given_simple row.repeats row.reports row.names in
    let made : list_all (λ (a : Rule). a.is_simple) (rules_for row) ≡ true = each_rule (λ a. a.is_simple) row (λ k many lt. refl) refl refl in
    let order : is_in_order (rules_for row) ≡ true =
    ap (λ n. not (list_any (is_early_multiple n) (rules_for row))) (count_is row.repeats row.reports row.names 1 0 ∙ zero-add (length row.names))
    ∙ ap not (never_early row.repeats row.reports row.names 1 (length row.names) (omega arith)) in
    rw (given, few_rules, made, order) refl

-- ---- the arguments, one after another

last_place : (names : List Text) (k : ℕ) → (k + 1 == length names) ≡ (suc k + 1 == suc (length names))
last_place names k = grind (arith, nat_tests)

pub arguments_next : (repeats : Bool) (names : List Text) (k : ℕ) → k < length names
    → take (suc k) (arguments repeats names) ≡ take k (arguments repeats names) ++ argument (repeats && (k + 1 == length names)) (name_at names k) ∷ []
arguments_next repeats [] k lt = absurd (omega arith)
arguments_next repeats (name ∷ more) zero lt =
    let one : (length more == 0) ≡ (0 + 1 == suc (length more)) = grind (arith, nat_tests) in
    ap (λ b. argument (repeats && b) name ∷ []) one
arguments_next repeats (name ∷ more) (suc k) lt =
    ap (λ rs. argument (repeats && is_last more) name ∷ rs) (arguments_next repeats more k (omega arith)
    ∙ ap (λ b. take k (arguments repeats more) ++ argument (repeats && b) (name_at more k) ∷ []) (last_place more k))

pub all_arguments : (repeats : Bool) (names : List Text) (k : ℕ) → length names ≤ k → take k (arguments repeats names) ≡ arguments repeats names
all_arguments repeats [] zero past = refl
all_arguments repeats [] (suc k) past = refl
all_arguments repeats (name ∷ more) zero past = absurd (omega arith)
all_arguments repeats (name ∷ more) (suc k) past = ap (λ rs. argument (repeats && is_last more) name ∷ rs) (all_arguments repeats more k (omega arith))

-- one argument more
pub add_next : (s : Synopsis) (a b : App) (k : ℕ) (name : Text) (many : Bool) → k < length s.names → name ≡ name_at s.names k → many ≡ (s.repeats && (k + 1 == length s.names))
    → a ≡ with_rules s.word (take k (arguments s.repeats s.names)) → b ≡ with_rule a (argument many name) → b ≡ with_rules s.word (take (k + 1) (arguments s.repeats s.names))
add_next s a b k name many lt name_is many_is before after =
    let next : k + 1 ≡ suc k = omega arith in
    after ∙ ap₂ (λ m n. with_rule a (argument m n)) many_is name_is
    ∙ ap (λ c. with_rule c (argument (s.repeats && (k + 1 == length s.names)) (name_at s.names k))) before
    ∙ ap (with_rules s.word) (sym (arguments_next s.repeats s.names k lt) ∙ ap (λ n. take n (arguments s.repeats s.names)) (sym next))
