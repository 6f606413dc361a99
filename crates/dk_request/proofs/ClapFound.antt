-- What `clap` has found of the words so far.
use Rattle.dk_request.proofs.Names.{ℕ, zero, suc, ◌+◌, ◌≤◌, ◌<◌, ◌==◌, ◌&&◌, ◌≡◌, ◌∙◌, Bool, true, false, List, [], ◌∷◌, ◌++◌, Option, Some, length, drop, refl, sym, ap, subst, arith, codes, inl, inr, length-append, drop_of_length-le, if◌then◌else◌, bytes_eq, cases_Bool, and_parts, cases_order, cases_eq, nat_tests, drop-append-le, drop_at, length-drop, take-append-le, bytes_eq-Decides, Entry, Text, Held, arg_by_id, arg_by_index, arg_by_long, nothing_held, pushed, reacted, settled, used, with_values, settle_passes, use_passes, AsWritten, CommandLine, Synopsis, are_apart, is_synopsis, words_at}
use Rattle.std.proofs.Common.{None}
use Rattle.dk_request.proofs.ClapRules.{apart_at, filled_flag, find_index, find_name, is_many, name_at, placed, placed_from, rest_for, rules_for, same_name}
use Rattle.dk_request.proofs.ClapRows.{first_row, new_row, next_row, no_row, none_without, other_row, row_at}

-- ---- the words of an argument, with one word more

words_none : (row : Synopsis) (ps : List Text) (k : ℕ) → length ps ≤ k → words_at row ps k ≡ []
words_none row ps k past = elim (cases_Bool (is_many row.repeats row.names k)) [
  | inl e ↦ rw e (drop_of_length-le ps past)
  | inr e ↦ rw (e, drop_of_length-le ps past) refl
]

words_more : (row : Synopsis) (ps : List Text) (word : Text) (k : ℕ) → is_many row.repeats row.names k ≡ true → k ≤ length ps → words_at row (ps ++ word ∷ []) k ≡ words_at row ps k ++ word ∷ []
words_more row ps word k many within = rw many (drop-append-le k ps (word ∷ []) within)

words_one : (row : Synopsis) (ps : List Text) (word : Text) (k : ℕ) → is_many row.repeats row.names k ≡ false → length ps ≡ k → words_at row (ps ++ word ∷ []) k ≡ word ∷ []
words_one row ps word k one last = rw (one, drop_at ps (word ∷ []) k last) refl

words_same : (row : Synopsis) (ps : List Text) (word : Text) (k : ℕ) → is_many row.repeats row.names k ≡ false → k < length ps → words_at row (ps ++ word ∷ []) k ≡ words_at row ps k
words_same row ps word k one before =
    let within : k ≤ length ps = omega arith in
    let some : 1 ≤ length (drop k ps) = omega (arith, length-drop k ps) in
    rw (one, drop-append-le k ps (word ∷ []) within) (take-append-le 1 (drop k ps) (word ∷ []) some)

-- ---- the rules of a row

pub apart_from : (names : List Text) (j k : ℕ) → are_apart names ≡ true → j < length names → k < length names → j < k → bytes_eq (name_at names j) (name_at names k) ≡ false
apart_from [] j k apart lt lt' below = absurd (omega arith)
apart_from (name ∷ more) j zero apart lt lt' below = absurd (omega arith)
apart_from (name ∷ more) zero (suc k) apart lt lt' below = apart_at name more k (and_parts _ _ apart).0 (omega arith)
apart_from (name ∷ more) (suc j) (suc k) apart lt lt' below = apart_from more j k (and_parts _ _ apart).1 (omega arith) (omega arith) (omega arith)

eq_sym : (a b : Text) → bytes_eq a b ≡ false → bytes_eq b a ≡ false
eq_sym a b h = elim (cases_Bool (bytes_eq b a)) [
  | inl e ↦
      let same : b ≡ a = (bytes_eq-Decides b a).0 e in
      let bad : bytes_eq a b ≡ true = (bytes_eq-Decides a b).1 (sym same) in
      cc
  | inr e ↦ e
]

long_placed : (repeats : Bool) (names : List Text) (i : ℕ) → arg_by_long (placed_from repeats i names ++ rest_for true) (codes "report") ≡ Some filled_flag
long_placed repeats [] i = refl
long_placed repeats (name ∷ more) i = long_placed repeats more (suc i)

module _ (row : Synopsis) (ok : is_synopsis row ≡ true) where
  apart : are_apart row.names ≡ true
  apart = (and_parts _ _ (and_parts _ _ ok).1).1

  pub not_flag : (k : ℕ) → k < length row.names → bytes_eq (codes "report") (name_at row.names k) ≡ false
  not_flag k lt = apart_at (codes "report") row.names k (and_parts _ _ (and_parts _ _ ok).1).0 lt

  pub others : (j k : ℕ) → j < length row.names → k < length row.names → (j ≡ k → ⊥) → bytes_eq (name_at row.names j) (name_at row.names k) ≡ false
  others j k lt lt' apart_places = elim (cases_order j k) [
    | inl same ↦ absurd (apart_places same)
    | inr differ ↦ elim differ [
      | inl below ↦ apart_from row.names j k apart lt lt' below
      | inr above ↦ eq_sym (name_at row.names k) (name_at row.names j) (apart_from row.names k j apart lt' lt above)
    ]
  ]

  pub at_place : (k : ℕ) → k < length row.names → arg_by_index (rules_for row) (1 + k) ≡ Some (placed (is_many row.repeats row.names k) (1 + k) (name_at row.names k))
  at_place k lt = find_index row.repeats row.names (rest_for row.reports) 1 k lt

  by_name : (k : ℕ) → k < length row.names → arg_by_id (rules_for row) (name_at row.names k) ≡ Some (placed (is_many row.repeats row.names k) (1 + k) (name_at row.names k))
  by_name k lt = find_name row.repeats row.names (rest_for row.reports) 1 k apart lt

  pub by_long : row.reports ≡ true → arg_by_long (rules_for row) (codes "report") ≡ Some filled_flag
  by_long has = ap (λ b. arg_by_long (placed_from row.repeats 1 row.names ++ rest_for b) (codes "report")) has ∙ long_placed row.repeats row.names 1

-- ---- what was found so far

-- what is found of an argument that stands for these words
abbrev pub found : Text → List Text → Option Entry
found name [] = None
found name (v ∷ vs) = Some (new_row name AsWritten CommandLine (v ∷ vs))

abbrev pub flag_found : Bool → Option Entry
flag_found seen = if seen then Some (new_row (codes "report") AsWritten CommandLine (codes "true" ∷ [])) else None

-- the words so far were used: those of the arguments, and the flag where it was seen
pub record Stands (row : Synopsis) (h : Held) (ps : List Text) (seen : Bool) : Type 0 where
  pub passes : settle_passes (rules_for row) false h ≡ true
  pub values : (k : ℕ) → k < length row.names → row_at (name_at row.names k) (settled (rules_for row) h).rows ≡ found (name_at row.names k) (words_at row ps k)
  pub flag : row_at (codes "report") (settled (rules_for row) h).rows ≡ flag_found seen

-- it is the turn of the argument at place k
pub record IsTurn (row : Synopsis) (ps : List Text) (k : ℕ) : Type 0 where
  pub lt : k < length row.names
  pub reached : k ≤ length ps
  pub last : is_many row.repeats row.names k ≡ false → length ps ≡ k

pub start : (row : Synopsis) → Stands row nothing_held [] false
start row = record { passes = refl; values = λ k lt. sym (ap (found (name_at row.names k)) (words_none row [] k (omega arith))); flag = refl }

-- one use of an argument passes, unless it had one before and stands for one word
use_is : (many : Bool) (i : ℕ) (name word : Text) (rows : List Entry) → (many ≡ false → row_at name rows ≡ None) → use_passes false (placed many i name) (word ∷ []) rows ≡ true
use_is true i name word rows none = refl
use_is false i name word rows none = rw (no_row name rows (none refl)) refl

found_more : (name : Text) (vs : List Text) (word : Text) (rows : List Entry) → row_at name rows ≡ found name vs
    → row_at name (with_values name AsWritten CommandLine (word ∷ []) rows) ≡ found name (vs ++ word ∷ [])
found_more name [] word rows at = first_row name AsWritten CommandLine (word ∷ []) rows (same_name name) at
found_more name (v ∷ vs) word rows at = next_row name AsWritten CommandLine (word ∷ []) rows (new_row name AsWritten CommandLine (v ∷ vs)) at

-- the values of a use go behind those that the argument had
used_is : (many : Bool) (i : ℕ) (name word : Text) (rows : List Entry) → (many ≡ false → row_at name rows ≡ None)
    → used (placed many i name) (word ∷ []) rows ≡ with_values name AsWritten CommandLine (word ∷ []) rows
used_is true i name word rows none = refl
used_is false i name word rows none = ap (with_values name AsWritten CommandLine (word ∷ [])) (none_without name rows (none refl))

-- only the last argument stands for several words
inner_is_one : (repeats : Bool) (n k : ℕ) → k + 1 < n → (repeats && (k + 1 == n)) ≡ false
inner_is_one false n k before = refl
inner_is_one true n k before = grind (arith, nat_tests)

-- a value of the argument whose turn it is
module _ (row : Synopsis) (ok : is_synopsis row ≡ true) (h : Held) (ps : List Text) (seen : Bool) (k : ℕ) (word : Text) (stands : Stands row h ps seen) (turn : IsTurn row ps k) where
  abbrev many : Bool
  many = is_many row.repeats row.names k

  abbrev name : Text
  name = name_at row.names k

  abbrev rows : List Entry
  rows = (settled (rules_for row) h).rows

  abbrev rows' : List Entry
  rows' = with_values name AsWritten CommandLine (word ∷ []) rows

  none_before : many ≡ false → row_at name rows ≡ None
  none_before one = stands.values k turn.lt ∙ ap (found name) (words_none row ps k (omega (arith, turn.last one)))

  settled_is : (settled (rules_for row) (pushed name word (settled (rules_for row) h))).rows ≡ rows'
  settled_is = rw (by_name row ok k turn.lt) (used_is many (1 + k) name word rows none_before)

  -- its words are one more
  words_here : words_at row (ps ++ word ∷ []) k ≡ words_at row ps k ++ word ∷ []
  words_here = elim (cases_Bool many) [
    | inl e ↦ words_more row ps word k e turn.reached
    | inr e ↦
        let last : length ps ≡ k = turn.last e in
        rw (words_none row ps k (omega arith)) (words_one row ps word k e last)
  ]

  -- and those of the others stay
  words_there : (j : ℕ) → j < length row.names → (k ≡ j → ⊥) → words_at row (ps ++ word ∷ []) j ≡ words_at row ps j
  words_there j lt apart = elim (cases_order k j) [
    | inl same ↦ absurd (apart same)
    | inr differ ↦ elim differ [
      | inl above ↦
          let one : many ≡ false = inner_is_one row.repeats (length row.names) k (omega (arith, turn.lt)) in
          let end : length ps ≡ k = turn.last one in
          let past : length (ps ++ word ∷ []) ≤ j = omega (arith, length-append ps (word ∷ [])) in
          words_none row (ps ++ word ∷ []) j past ∙ sym (words_none row ps j (omega arith))
      | inr below ↦ words_same row ps word j (inner_is_one row.repeats (length row.names) j (omega (arith, turn.lt))) (omega (arith, turn.reached))
    ]
  ]

  pub after_value : Stands row (pushed name word (settled (rules_for row) h)) (ps ++ word ∷ []) seen
  after_value = record {
    passes = rw (by_name row ok k turn.lt) (use_is many (1 + k) name word rows none_before);
    values = λ j lt. elim (cases_eq k j) [
      | inl same ↦
          let here : row_at name (settled (rules_for row) (pushed name word (settled (rules_for row) h))).rows ≡ found name (words_at row (ps ++ word ∷ []) k) =
          ap (row_at name) settled_is ∙ found_more name (words_at row ps k) word rows (stands.values k turn.lt) ∙ ap (found name) (sym words_here) in
          subst (λ i. row_at (name_at row.names i) (settled (rules_for row) (pushed name word (settled (rules_for row) h))).rows ≡ found (name_at row.names i) (words_at row (ps ++ word ∷ []) i)) same here
      | inr apart ↦
          ap (row_at (name_at row.names j)) settled_is ∙ other_row name AsWritten CommandLine (word ∷ []) (name_at row.names j) rows (others row ok k j turn.lt lt apart)
          ∙ stands.values j lt ∙ ap (found (name_at row.names j)) (sym (words_there j lt apart))
    ];
    flag = ap (row_at (codes "report")) settled_is ∙ other_row name AsWritten CommandLine (word ∷ []) (codes "report") rows (eq_sym (codes "report") name (not_flag row ok k turn.lt)) ∙ stands.flag;
  }

-- the flag, which comes once
pub after_flag : (row : Synopsis) (ok : is_synopsis row ≡ true) (h : Held) (ps : List Text) → Stands row h ps false → Stands row (reacted (rules_for row) filled_flag [] h) ps true
after_flag row ok h ps stands =
    let rows = (settled (rules_for row) h).rows in
    let same : (settled (rules_for row) (reacted (rules_for row) filled_flag [] h)).rows ≡ with_values (codes "report") AsWritten CommandLine (codes "true" ∷ []) rows =
    ap (with_values (codes "report") AsWritten CommandLine (codes "true" ∷ [])) (none_without (codes "report") rows stands.flag) in
    record {
      passes = refl;
      values = λ k lt. ap (row_at (name_at row.names k)) same
          ∙ other_row (codes "report") AsWritten CommandLine (codes "true" ∷ []) (name_at row.names k) rows (not_flag row ok k lt) ∙ stands.values k lt;
      flag = ap (row_at (codes "report")) same ∙ first_row (codes "report") AsWritten CommandLine (codes "true" ∷ []) rows refl stands.flag;
    }
