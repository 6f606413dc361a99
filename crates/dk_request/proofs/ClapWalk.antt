-- The walk over all words that a row takes.
use Rattle.dk_request.proofs.Names.{ℕ, suc, ◌+◌, ◌-◌, ◌≤◌, ◌<◌, ◌==◌, ◌&&◌, ◌||◌, not, ◌≡◌, ◌∙◌, Bool, true, false, List, [], ◌∷◌, ◌++◌, min, length, refl, sym, ap, subst, arith, codes, inl, inr, length-append, append_assoc, append-nil, if◌then◌else◌, fold, nat_lt, list_all, bytes_eq, cases_Bool, cases_eq, and_parts, and_from, nat_tests, bytes_eq-Decides, Text, built, Held, Walk, Waiting, idle, pushed, reacted, settled, walked, Shape, turn_passes, Synopsis, flags, is_allowed, is_empty, is_synopsis, positionals, simple_command}
use Rattle.clap.specs.Takes.{walk_passes}
use Rattle.std.proofs.Common.{None}
use Rattle.dk_request.proofs.ClapRules.{filled_flag, is_many, name_at, rules_for}
use Rattle.dk_request.proofs.ClapTurns.{IsReady, flag_passes, flag_turn, place_after, resting, value_passes, value_turn, waits}
use Rattle.dk_request.proofs.ClapFound.{IsTurn, Stands, after_flag, after_value, at_place, by_long}

-- the place of the next argument after so many words
abbrev pub place : Synopsis → ℕ → ℕ
place row n = if row.repeats then min n (length row.names - 1) else n

-- there is room for so many words
abbrev pub HasRoom : Synopsis → ℕ → Type 0
HasRoom row n = row.repeats ≡ false → n ≤ length row.names

-- what a parse reads of the built command
abbrev pub shape_for : Synopsis → Shape
shape_for row = record (built (simple_command row)).top { rules = rules_for row }

-- the walk has used these words, and each of its turns passed
pub record Walked (row : Synopsis) (w : Walk) (words ps : List Text) (seen : Bool) : Type 0 where
  pub turns : walk_passes (shape_for row) [] w words ≡ true
  pub stands : Stands row (fold (walked (rules_for row) []) w words).held ps seen
  pub going : (fold (walked (rules_for row) []) w words).stopped ≡ None

ready_waits : (many : Bool) → IsReady (waits many)
ready_waits true = tt
ready_waits false = tt

pub some_name : (row : Synopsis) → is_synopsis row ≡ true → 1 ≤ length row.names
some_name row ok =
    let parts : (nat_lt 0 (length row.names) ≡ true) × (nat_lt (length row.names) 100 ≡ true) = and_parts _ _ (and_parts _ _ ok).0 in
    let some : nat_lt 0 (length row.names) ≡ true = parts.0 in
    grind (arith, nat_tests)

pub few_names : (row : Synopsis) → is_synopsis row ≡ true → length row.names < 100
few_names row ok =
    let parts : (nat_lt 0 (length row.names) ≡ true) × (nat_lt (length row.names) 100 ≡ true) = and_parts _ _ (and_parts _ _ ok).0 in
    let few : nat_lt (length row.names) 100 ≡ true = parts.1 in
    grind (arith, nat_tests)

-- each word that stands for an argument has its turn
turn_is : (row : Synopsis) (ps : List Text) → is_synopsis row ≡ true → HasRoom row (length ps + 1) → IsTurn row ps (place row (length ps))
turn_is row ps ok room =
    let some : 1 ≤ length row.names = some_name row ok in
    go row.repeats refl
  where
    go : (b : Bool) → row.repeats ≡ b → IsTurn row ps (place row (length ps))
    go true e =
        let some : 1 ≤ length row.names = some_name row ok in
        let at : place row (length ps) ≡ min (length ps) (length row.names - 1) = rw e refl in
        record {
          lt = omega (arith, at);
          reached = omega (arith, at);
          last = λ one.
              let not_last : (min (length ps) (length row.names - 1) + 1 == length row.names) ≡ false = rw e at one in
              let below : length ps < length row.names = grind (arith, nat_tests) in
              omega (arith, at);
        }
    go false e =
        let at : place row (length ps) ≡ length ps = rw e refl in
        let space : length ps + 1 ≤ length row.names = room e in
        record { lt = omega (arith, at, space); reached = omega (arith, at); last = λ one. sym at }

next_place : (row : Synopsis) (ps : List Text) (word : Text) → is_synopsis row ≡ true → HasRoom row (length ps + 1)
    → place_after (is_many row.repeats row.names (place row (length ps))) (1 + place row (length ps)) ≡ 1 + place row (length (ps ++ word ∷ []))
next_place row ps word ok room = go row.repeats refl
  where
    more : length (ps ++ word ∷ []) ≡ length ps + 1
    more = length-append ps (word ∷ [])

    go : (b : Bool) → row.repeats ≡ b → place_after (is_many row.repeats row.names (place row (length ps))) (1 + place row (length ps)) ≡ 1 + place row (length (ps ++ word ∷ []))
    go true e =
        let some : 1 ≤ length row.names = some_name row ok in
        let few : length row.names < 100 = few_names row ok in
        rw (e, more) (elim (cases_Bool (min (length ps) (length row.names - 1) + 1 == length row.names)) [
          | inl last ↦ rw last (let end : min (length ps) (length row.names - 1) + 1 ≡ length row.names = grind (arith, nat_tests) in omega arith)
          | inr before ↦ rw before (let not_end : min (length ps) (length row.names - 1) + 1 ≡ length row.names → ⊥ = grind (arith, nat_tests) in omega arith)
        ])
    go false e =
        let few : length row.names < 100 = few_names row ok in
        let space : length ps + 1 ≤ length row.names = room e in
        rw (e, more) (omega arith)

more_turns : (row : Synopsis) (w : Walk) (word : Text) (words ps : List Text) (seen : Bool) (after : Walk) → walked (rules_for row) [] w word ≡ after
    → turn_passes (shape_for row) [] w word ≡ true → Walked row after words ps seen → Walked row w (word ∷ words) ps seen
unfolding walk_passes
more_turns row w word words ps seen after is turn rest =
    let there : Walked row (walked (rules_for row) [] w word) words ps seen = subst (λ v. Walked row v words ps seen) (sym is) rest in
    record { turns = and_from _ _ turn there.turns; stands = there.stands; going = there.going }

abbrev count : Bool → ℕ
count seen = if seen then 1 else 0

-- from wherever these words begin, they are used
abbrev pub Walks : Synopsis → List Text → Type 0
Walks row words =
    (h : Held) (waiting : Waiting) (ps : List Text) (seen : Bool) → IsReady waiting → Stands row h ps seen
    → list_all (λ w. not (is_empty w)) words ≡ true → list_all (is_allowed row) words ≡ true
    → count seen + length (flags words) ≤ 1 → HasRoom row (length ps + length (positionals words))
    → Walked row (resting h waiting (1 + place row (length ps))) words (ps ++ positionals words) (seen || nat_lt 0 (length (flags words)))

or_false : (x : Bool) → (x || false) ≡ x
or_false true = refl
or_false false = refl

no_words : (row : Synopsis) → Walks row []
unfolding walk_passes
no_words row h waiting ps seen ready stands full allowed once room =
    record { turns = refl; stands = subst (λ qs. Stands row h qs (seen || false)) (sym (append-nil ps)) (subst (Stands row h ps) (sym (or_false seen)) stands); going = refl }

value_first : (row : Synopsis) → is_synopsis row ≡ true → (b : ℕ) (bs : Text) (words : List Text) → (b == 45) ≡ false → Walks row words → Walks row ((b ∷ bs) ∷ words)
value_first row ok b bs words plain rest h waiting ps seen ready stands full allowed once room =
    rw plain (let once' : count seen + length (flags words) ≤ 1 = rw plain at once in
    let room' : HasRoom row (length ps + suc (length (positionals words))) = rw plain at room in
    let space : HasRoom row (length ps + 1) = λ one. (let all : length ps + suc (length (positionals words)) ≤ length row.names = room' one in omega arith) in
    let turn : IsTurn row ps (place row (length ps)) = turn_is row ps ok space in
    let k : ℕ = place row (length ps) in
    let many : Bool = is_many row.repeats row.names k in
    let name : Text = name_at row.names k in
    let more : length (ps ++ (b ∷ bs) ∷ []) ≡ length ps + 1 = length-append ps ((b ∷ bs) ∷ []) in
    let room'' : HasRoom row (length (ps ++ (b ∷ bs) ∷ []) + length (positionals words)) = λ one. (let all : length ps + suc (length (positionals words)) ≤ length row.names = room' one in omega arith) in
    let after = rest (pushed name (b ∷ bs) (settled (rules_for row) h)) (waits many) (ps ++ (b ∷ bs) ∷ []) seen (ready_waits many) (after_value row ok h ps seen k (b ∷ bs) stands turn)
    full (and_parts _ _ allowed).1 once' room'' in
    let at = at_place row ok k turn.lt in
    let turned = value_turn (rules_for row) many (1 + k) name h waiting b bs at ready plain ∙ ap (resting (pushed name (b ∷ bs) (settled (rules_for row) h)) (waits many)) (next_place row ps (b ∷ bs) ok space) in
    let passed = value_passes (shape_for row) many (1 + k) name h waiting b bs at ready plain stands.passes in
    subst (λ qs. Walked row (resting h waiting (1 + k)) ((b ∷ bs) ∷ words) qs (seen || nat_lt 0 (length (flags words)))) (append_assoc ps ((b ∷ bs) ∷ []) (positionals words))
    (more_turns row (resting h waiting (1 + k)) (b ∷ bs) words _ _ _ turned passed after))

flag_first : (row : Synopsis) → is_synopsis row ≡ true → (bs : Text) (words : List Text) → Walks row words → Walks row ((45 ∷ bs) ∷ words)
flag_first row ok bs words rest h waiting ps true ready stands full allowed once room = absurd (omega arith)
flag_first row ok bs words rest h waiting ps false ready stands full allowed once room =
    let this : (row.reports && bytes_eq (45 ∷ bs) (codes "--report")) ≡ true = (and_parts (is_allowed row (45 ∷ bs)) (list_all (is_allowed row) words) allowed).0 in
    let parts : (row.reports ≡ true) × (bytes_eq (45 ∷ bs) (codes "--report") ≡ true) = and_parts _ _ this in
    let is : 45 ∷ bs ≡ codes "--report" = (bytes_eq-Decides (45 ∷ bs) (codes "--report")).0 parts.1 in
    let at = by_long row ok parts.0 in
    let after = rest (reacted (rules_for row) filled_flag [] h) idle ps true tt (after_flag row ok h ps stands) full (and_parts (is_allowed row (45 ∷ bs)) (list_all (is_allowed row) words) allowed).1 (omega arith) room in
    let some : nat_lt 0 (suc (length (flags words))) ≡ true = grind (arith, nat_tests) in
    rw some (subst (λ w. Walked row (resting h waiting (1 + place row (length ps))) (w ∷ words) (ps ++ positionals words) true) (sym is)
    (more_turns row (resting h waiting (1 + place row (length ps))) (codes "--report") words _ _ _ (flag_turn (rules_for row) h waiting (1 + place row (length ps)) at ready)
    (flag_passes (shape_for row) h waiting (1 + place row (length ps)) at ready stands.passes stands.flag) after))

pub walks : (row : Synopsis) → is_synopsis row ≡ true → (words : List Text) → Walks row words
walks row ok [] = no_words row
walks row ok ([] ∷ words) = λ h waiting ps seen ready stands full allowed once room. (let bad : false ≡ true = full in cc)
walks row ok ((b ∷ bs) ∷ words) = elim (cases_eq b 45) [
  | inl e ↦ subst (λ x. Walks row ((x ∷ bs) ∷ words)) (sym e) (flag_first row ok bs words (walks row ok words))
  | inr e ↦ let plain : (b == 45) ≡ false = grind (arith, nat_tests) in value_first row ok b bs words plain (walks row ok words)
]
