-- The words that a row takes are taken by `clap`, and its matches are these words.
use Rattle.dk_request.proofs.Names.{ℕ, suc, ◌+◌, ◌≤◌, ◌<◌, ◌==◌, ◌&&◌, ◌||◌, not, ◌≡◌, ◌∙◌, Bool, true, false, cond, List, [], ◌∷◌, ◌++◌, Some, length, drop, take, refl, sym, ap, subst, arith, codes, inl, inr, if◌then◌else◌, fold, nat_lt, nat_le, option_and_then, option_map, option_map_or, length-drop, length-take, take-append-drop, take_all, take-add, explicit_source, leaf_takes, list_all, bytes_eq, cases_Bool, and_parts, and_from, and_right, nat_tests, Entry, Rule, Text, all_of, built, is_simple, matches_of, one_of, takes, MAX_ASKS, finished, has_row, idle, nothing_held, settled, row_text, walk, with_default, with_values, default_passes, is_given, is_valid, level_passes, AsWritten, DefaultValue, Synopsis, are_taken, fits, flags, is_allowed, is_empty, is_flag, is_synopsis, positionals, words_at, words_up_to, is_last, simple_command}
use Rattle.dk_request.proofs.ClapTurns.{resting}
use Rattle.dk_request.proofs.ClapRules.{each_rule, filled_flag, filled_help, is_many, name_at, placed, placed_from, rest_for, rules_for, rules_is, simple_is}
use Rattle.dk_request.proofs.ClapRows.{a_row, first_row, no_row, other_row, row_at}
use Rattle.dk_request.proofs.ClapFound.{found, flag_found, not_flag, start}
use Rattle.dk_request.proofs.ClapWalk.{HasRoom, Walked, few_names, place, shape_for, some_name, walks}

-- ---- the defaults

default_placed : (many : Bool) (i : ℕ) (name : Text) (rows : List Entry) → with_default rows (placed many i name) ≡ rows
default_placed many i name rows = same (has_row name rows)
  where
    same : (b : Bool) → cond b rows rows ≡ rows
    same true = refl
    same false = refl

default_help : (rows : List Entry) → with_default rows filled_help ≡ rows
default_help rows = same (has_row (codes "help") rows)
  where
    same : (b : Bool) → cond b rows rows ≡ rows
    same true = refl
    same false = refl

defaults_for : (reports : Bool) (rows : List Entry) → fold with_default rows (rest_for reports) ≡ (if reports then with_default rows filled_flag else rows)
defaults_for true rows = default_help (with_default rows filled_flag)
defaults_for false rows = default_help rows

defaults_are : (repeats reports : Bool) (names : List Text) (i : ℕ) (rows : List Entry)
    → fold with_default rows (placed_from repeats i names ++ rest_for reports) ≡ (if reports then with_default rows filled_flag else rows)
defaults_are repeats reports [] i rows = defaults_for reports rows
defaults_are repeats reports (name ∷ more) i rows = ap (λ rs. fold with_default rs (placed_from repeats (suc i) more ++ rest_for reports)) (default_placed (repeats && is_last more) i name rows) ∙ defaults_are repeats reports more (suc i) rows

-- what the default of the flag leaves of the other rows
default_other : (reports : Bool) (id : Text) (rows : List Entry) → bytes_eq (codes "report") id ≡ false → row_at id (if reports then with_default rows filled_flag else rows) ≡ row_at id rows
default_other false id rows apart = refl
default_other true id rows apart = go (has_row (codes "report") rows)
  where
    go : (b : Bool) → row_at id (cond b rows (with_values (codes "report") AsWritten DefaultValue (codes "false" ∷ []) rows)) ≡ row_at id rows
    go true = refl
    go false = other_row (codes "report") AsWritten DefaultValue (codes "false" ∷ []) id rows apart

-- the text of the flag
default_flag : (seen : Bool) (rows : List Entry) → row_at (codes "report") rows ≡ flag_found seen → one_of (codes "report") (with_default rows filled_flag) ≡ Some (if seen then codes "true" else codes "false")
default_flag true rows at = rw (has_flag, at) refl
  where
    has_flag : has_row (codes "report") rows ≡ true
    has_flag = a_row (codes "report") rows _ at
default_flag false rows at = rw (no_row (codes "report") rows at) (ap (option_and_then row_text) (first_row (codes "report") AsWritten DefaultValue (codes "false" ∷ []) rows refl at))

module _ (row : Synopsis) (ok : is_synopsis row ≡ true) (ws : List Text) (taken : are_taken row ws ≡ true) where
  words_full : list_all (λ w. not (is_empty w)) ws ≡ true
  words_full = (and_parts _ _ (and_parts _ _ taken).0).0

  words_allowed : list_all (is_allowed row) ws ≡ true
  words_allowed = (and_parts _ _ (and_parts _ _ taken).0).1

  they_fit : fits row (length (positionals ws)) ≡ true
  they_fit = (and_parts _ _ (and_parts _ _ taken).1).0

  once : 0 + length (flags ws) ≤ 1
  once =
      let counts : (fits row (length (positionals ws)) && nat_le (length (flags ws)) 1) ≡ true = (and_parts _ _ taken).1 in
      let one : nat_le (length (flags ws)) 1 ≡ true = (and_parts _ _ counts).1 in
      grind (arith, nat_tests)

  fit_exactly : row.repeats ≡ false → length (positionals ws) ≡ length row.names
  fit_exactly one =
      let same : (length (positionals ws) == length row.names) ≡ true = rw one at they_fit in
      grind (arith, nat_tests)

  pub enough : length row.names ≤ length (positionals ws)
  enough = elim (cases_Bool row.repeats) [
    | inl e ↦
        let both : (nat_le (length row.names) (length (positionals ws)) && nat_lt (length (positionals ws)) (length row.names + MAX_ASKS)) ≡ true = rw e at they_fit in
        let first : nat_le (length row.names) (length (positionals ws)) ≡ true = (and_parts _ _ both).0 in
        grind (arith, nat_tests)
    | inr e ↦ omega (arith, fit_exactly e)
  ]

  room : HasRoom row (0 + length (positionals ws))
  room one = omega (arith, fit_exactly one)

  walked_all : Walked row (resting nothing_held idle 1) ws (positionals ws) (nat_lt 0 (length (flags ws)))
  walked_all =
      let zero_place : place row 0 ≡ 0 = elim (cases_Bool row.repeats) [ inl e ↦ rw e (omega arith) | inr e ↦ rw e refl ] in
      let place_is : 1 + place row 0 ≡ 1 = omega arith in
      subst (λ i. Walked row (resting nothing_held idle i) ws (positionals ws) (nat_lt 0 (length (flags ws)))) place_is
      (walks row ok ws nothing_held idle [] false tt (start row) words_full words_allowed once room)

  abbrev last_rows : List Entry
  last_rows = (settled (rules_for row) (walk (rules_for row) [] nothing_held ws).held).rows

  abbrev all_rows : List Entry
  all_rows = finished (rules_for row) (walk (rules_for row) [] nothing_held ws).held

  finished_is : all_rows ≡ (if row.reports then with_default last_rows filled_flag else last_rows)
  finished_is = defaults_are row.repeats row.reports row.names 1 last_rows

  value_row : (k : ℕ) → k < length row.names → row_at (name_at row.names k) all_rows ≡ found (name_at row.names k) (words_at row (positionals ws) k)
  value_row k lt = ap (row_at (name_at row.names k)) finished_is ∙ default_other row.reports (name_at row.names k) last_rows (not_flag row ok k lt) ∙ walked_all.stands.values k lt

  some_words : (k : ℕ) → k < length row.names → 1 ≤ length (words_at row (positionals ws) k)
  some_words k lt =
      let left : 1 ≤ length (drop k (positionals ws)) = omega (arith, enough, length-drop k (positionals ws)) in
      elim (cases_Bool (is_many row.repeats row.names k)) [
        | inl e ↦ rw e left
        | inr e ↦ rw e (omega (arith, length-take 1 (drop k (positionals ws))))
      ]

  -- what an argument was given is explicit
  given : (k : ℕ) → k < length row.names → is_given (name_at row.names k) all_rows ≡ true
  given k lt = ap (λ o. option_map_or (λ (r : Entry). explicit_source r.source) o false) (value_row k lt) ∙ go (words_at row (positionals ws) k) (some_words k lt)
    where
      go : (vs : List Text) → 1 ≤ length vs → option_map_or (λ (r : Entry). explicit_source r.source) (found (name_at row.names k) vs) false ≡ true
      go [] some = absurd (omega arith)
      go (v ∷ vs) some = refl

  valid : is_valid (shape_for row) all_rows false ≡ true
  valid =
      let free : list_all (λ (a : Rule). a.is_free) (rules_for row) ≡ true = each_rule (λ a. a.is_free) row (λ k many lt. refl) refl refl in
      let there : list_all (λ (a : Rule). not a.required || is_given a.id all_rows) (rules_for row) ≡ true =
      each_rule (λ a. not a.required || is_given a.id all_rows) row (λ k many lt. given k lt) refl refl in
      and_from _ _ free there

  passes : level_passes (shape_for row) [] nothing_held ws false ≡ true
  passes =
      let defaults : list_all default_passes (rules_for row) ≡ true = each_rule default_passes row (λ k many lt. refl) refl refl in
      and_from _ _ walked_all.turns (and_from _ _ walked_all.stands.passes (and_from _ _ defaults valid))

  shape_is : (built (simple_command row)).top ≡ shape_for row
  shape_is = ap (λ rules. record (built (simple_command row)).top { rules = rules }) (rules_is row (few_names row ok))

  module _ (cmd : Text) where
    -- `clap` takes the words
    pub takes_them : takes (simple_command row) (cmd ∷ ws) ≡ true
    takes_them =
        let level : level_passes (built (simple_command row)).top [] nothing_held ws false ≡ true = ap (λ s. level_passes s [] nothing_held ws false) shape_is ∙ passes in
        and_from _ _ (simple_is row (few_names row ok)) (leaf_takes (built (simple_command row)) nothing_held ws refl level)

    matches_are : matches_of (simple_command row) (cmd ∷ ws) ≡ all_rows
    matches_are = ap (λ rules. finished rules (walk rules [] nothing_held ws).held) (rules_is row (few_names row ok))

    -- each argument has its words
    pub words_are : (k : ℕ) → k < length row.names → all_of (name_at row.names k) (matches_of (simple_command row) (cmd ∷ ws)) ≡ Some (words_at row (positionals ws) k)
    words_are k lt = ap (all_of (name_at row.names k)) matches_are ∙ ap (option_map (λ (r : Entry). r.values)) (value_row k lt) ∙ go (words_at row (positionals ws) k) (some_words k lt)
      where
        go : (vs : List Text) → 1 ≤ length vs → option_map (λ (r : Entry). r.values) (found (name_at row.names k) vs) ≡ Some vs
        go [] some = absurd (omega arith)
        go (v ∷ vs) some = refl

    -- and the flag tells whether it was there
    pub flag_is : row.reports ≡ true → one_of (codes "report") (matches_of (simple_command row) (cmd ∷ ws)) ≡ Some (if nat_lt 0 (length (flags ws)) then codes "true" else codes "false")
    flag_is has =
        let rows_are : all_rows ≡ with_default last_rows filled_flag = finished_is ∙ ap (λ b. cond b (with_default last_rows filled_flag) last_rows) has in
        ap (one_of (codes "report")) (matches_are ∙ rows_are) ∙ default_flag (nat_lt 0 (length (flags ws))) last_rows walked_all.stands.flag

-- `clap` takes all the words, of which the first is the command word, and its matches are those after it
pub record ReadsAll (s : Synopsis) (words : List Text) : Type 0 where
  pub simple : is_simple (simple_command s) ≡ true
  pub taken : takes (simple_command s) words ≡ true
  pub values : (k : ℕ) → k < length s.names → all_of (name_at s.names k) (matches_of (simple_command s) words) ≡ Some (words_at s (positionals (drop 1 words)) k)
  pub report : s.reports ≡ true → one_of (codes "report") (matches_of (simple_command s) words) ≡ Some (if nat_lt 0 (length (flags (drop 1 words))) then codes "true" else codes "false")

pub reads_all : (s : Synopsis) → is_synopsis s ≡ true → (words : List Text) → are_taken s (drop 1 words) ≡ true → ReadsAll s words
reads_all s ok [] taken = absurd (omega (arith, enough s ok [] taken, some_name s ok))
reads_all s ok (cmd ∷ ws) taken = record {
  simple = simple_is s (few_names s ok);
  taken = takes_them s ok ws taken cmd;
  values = words_are s ok ws taken cmd;
  report = flag_is s ok ws taken cmd;
}

-- ---- the words of all arguments

pub words_next : (s : Synopsis) (ps : List Text) (k : ℕ) → k < length s.names → words_up_to s ps (k + 1) ≡ words_up_to s ps k ++ words_at s ps k
words_next s ps k lt =
    let before : (k == length s.names) ≡ false = grind (arith, nat_tests) in
    let here : words_up_to s ps k ≡ take k ps = rw (before, and_right s.repeats false refl) refl in
    elim (cases_Bool (s.repeats && (k + 1 == length s.names))) [
      | inl e ↦ rw (e, here) (sym (take-append-drop k ps))
      | inr e ↦ rw (e, here) (take-add k 1 ps)
    ]

pub all_words : (s : Synopsis) (ws : List Text) → is_synopsis s ≡ true → are_taken s ws ≡ true → words_up_to s (positionals ws) (length s.names) ≡ positionals ws
all_words s ws ok taken =
    let last : (length s.names == length s.names) ≡ true = grind (arith, nat_tests) in
    elim (cases_Bool s.repeats) [
      | inl e ↦ rw (e, last) refl
      | inr e ↦ rw e (take_all (length s.names) (positionals ws) (omega (arith, fit_exactly s ok ws taken e)))
    ]

pub no_flag : (s : Synopsis) (ws : List Text) → list_all (is_allowed s) ws ≡ true → s.reports ≡ false → flags ws ≡ []
no_flag s [] allowed none = refl
no_flag s (w ∷ ws) allowed none =
    let parts : (is_allowed s w ≡ true) × (list_all (is_allowed s) ws ≡ true) = and_parts _ _ allowed in
    elim (cases_Bool (is_flag w)) [
      | inl e ↦ let bad : false ≡ true = rw (e, none) at parts.0 in cc
      | inr e ↦ rw e (no_flag s ws parts.1 none)
    ]

pub first_words : (s : Synopsis) (ps : List Text) → is_synopsis s ≡ true → [] ≡ words_up_to s ps 0
first_words s ps ok =
    let some : 1 ≤ length s.names = some_name s ok in
    let before : (0 == length s.names) ≡ false = grind (arith, nat_tests) in
    rw (before, and_right s.repeats false refl) refl

-- the flag was given only where the synopsis has it
pub never_given : (s : Synopsis) (ws : List Text) → are_taken s ws ≡ true → s.reports ≡ false → nat_lt 0 (length (flags ws)) ≡ false
never_given s ws taken none = ap (λ fs. nat_lt 0 (length fs)) (no_flag s ws (and_parts _ _ (and_parts _ _ taken).0).1 none)
