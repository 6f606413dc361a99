-- What `clap` makes of one word that a row takes.
use Rattle.dk_request.proofs.Names.{ℕ, ◌+◌, ◌==◌, ◌&&◌, ◌≡◌, Bool, true, false, List, [], ◌∷◌, Some, min, refl, codes, if◌then◌else◌, and_right, or_right, Rule, Text, Held, Walk, Waiting, idle, option, positional, arg_by_index, arg_by_long, is_pending, pushed, reacted, settled, Shape, settle_passes, turn_passes}
use Rattle.clap.specs.Walk.{walked}
use Rattle.std.proofs.Common.{None}
use Rattle.dk_request.proofs.ClapRules.{placed, filled_flag}
use Rattle.dk_request.proofs.ClapRows.{row_at, no_row}

-- a walk between two words, none of which was a subcommand or `--`
abbrev pub resting : Held → Waiting → ℕ → Walk
resting h waiting position = record { held = h; waiting = waiting; position = position; is_trailing = false; stopped = None }

-- no option waits for a value
abbrev pub IsReady : Waiting → Type 0
IsReady idle = Unit {0}
IsReady positional = Unit {0}
IsReady (option id) = ⊥

abbrev pub waits : Bool → Waiting
waits many = if many then positional else idle

abbrev pub place_after : Bool → ℕ → ℕ
place_after many place = if many then place else min (place + 1) 18446744073709551615

-- a word that doesn't begin with '-' is a value of the argument whose turn it is
pub value_turn : (c : List Rule) (many : Bool) (i : ℕ) (name : Text) (h : Held) (waiting : Waiting) (b : ℕ) (bs : Text)
    → arg_by_index c i ≡ Some (placed many i name) → IsReady waiting → (b == 45) ≡ false
    → walked c [] (resting h waiting i) (b ∷ bs) ≡ resting (pushed name (b ∷ bs) (settled c h)) (waits many) (place_after many i)
unfolding walked
value_turn c true i name h idle b bs at ready plain = rw (plain, plain, at, and_right (is_pending (placed true i name) h.pending) false refl) refl
value_turn c false i name h idle b bs at ready plain = rw (plain, plain, at, and_right (is_pending (placed false i name) h.pending) false refl) refl
value_turn c true i name h positional b bs at ready plain = rw (plain, plain, at, and_right (is_pending (placed true i name) h.pending) false refl) refl
value_turn c false i name h positional b bs at ready plain = rw (plain, plain, at, and_right (is_pending (placed false i name) h.pending) false refl) refl
value_turn c many i name h (option id) b bs at ready plain = absurd ready

-- and passes, where what was used before passes
pub value_passes : (s : Shape) (many : Bool) (i : ℕ) (name : Text) (h : Held) (waiting : Waiting) (b : ℕ) (bs : Text)
    → arg_by_index s.rules i ≡ Some (placed many i name) → IsReady waiting → (b == 45) ≡ false → settle_passes s.rules s.args_override_self h ≡ true
    → turn_passes s [] (resting h waiting i) (b ∷ bs) ≡ true
value_passes s many i name h idle b bs at ready plain passes = rw (plain, plain, at, passes) (or_right (is_pending (placed many i name) h.pending && false) true refl)
value_passes s many i name h positional b bs at ready plain passes = rw (plain, plain, at, passes) (or_right (is_pending (placed many i name) h.pending && false) true refl)
value_passes s many i name h (option id) b bs at ready plain passes = absurd ready

-- the flag is used at once
pub flag_turn : (c : List Rule) (h : Held) (waiting : Waiting) (i : ℕ) → arg_by_long c (codes "report") ≡ Some filled_flag → IsReady waiting
    → walked c [] (resting h waiting i) (codes "--report") ≡ resting (reacted c filled_flag [] h) idle i
unfolding walked
flag_turn c h idle i at ready = rw at refl
flag_turn c h positional i at ready = rw at refl
flag_turn c h (option id) i at ready = absurd ready

pub flag_passes : (s : Shape) (h : Held) (waiting : Waiting) (i : ℕ) → arg_by_long s.rules (codes "report") ≡ Some filled_flag → IsReady waiting
    → settle_passes s.rules s.args_override_self h ≡ true → row_at (codes "report") (settled s.rules h).rows ≡ None
    → turn_passes s [] (resting h waiting i) (codes "--report") ≡ true
flag_passes s h idle i at ready passes none = rw (at, passes, no_row (codes "report") (settled s.rules h).rows none) refl
flag_passes s h positional i at ready passes none = rw (at, passes, no_row (codes "report") (settled s.rules h).rows none) refl
flag_passes s h (option id) i at ready passes none = absurd ready
