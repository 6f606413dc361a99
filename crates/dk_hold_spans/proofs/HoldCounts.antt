-- How many holds a range has at most.
use Rattle.std.proofs.Common.{ℕ, zero, suc, ◌+◌, ◌*◌, ◌≤◌, [], ◌∷◌, List, length, take, arith, length-append}
use Rattle.std.specs.Prelude.{Bool, true, false, Option, Some, None, flat_map, if◌then◌else◌, max, nat_lt, reverse}
use Rattle.std.proofs.lemmas.List.{length-reverse}
use Rattle.dk_config.specs.Sums.{below, numbers}
use Rattle.dk_trace.specs.declared.Entry.{Entry}
use Rattle.dk_holds.specs.declared.holding.Holding.{Holding}
use Rattle.dk_holds.specs.Holds.{ended, holding}
use Rattle.dk_hold_spans.specs.declared.hold.Hold.{Hold}
use Rattle.dk_hold_spans.specs.HoldLists.{ended_hold, ended_holds, holds_behind, holds_in, open_hold, part_from}

abbrev hold_if : Hold → Bool → List Hold
hold_if d b = if b then d ∷ [] else []

one_part : (from m end : ℕ) (o : Option Holding) → length (part_from from m end o) ≤ 1
one_part from m end None = omega arith
one_part from m end (Some h) = go (nat_lt (max h.since from) end)
  where
    go : (b : Bool) → length (hold_if (record { mutex = m; thread = h.thread; start = max h.since from; end = end }) b) ≤ 1
    go true = omega arith
    go false = omega arith

few_of : (f : ℕ → List Hold) → ((k : ℕ) → length (f k) ≤ 1) → (low n : ℕ) → length (flat_map f (numbers low n)) ≤ n
few_of f one low zero = omega arith
few_of f one low (suc n) =
    let all = length-append (f low) (flat_map f (numbers (suc low) n)) in
    let own = one low in
    let rest = few_of f one (suc low) n in
    omega (arith, all, own, rest)

few_ended : (from : ℕ) (past : List Entry) → length (ended_holds from past) ≤ 16 * length past
few_ended from [] = omega arith
few_ended from (e ∷ past) =
    let new = flat_map (ended_hold from past e) (below 16) in
    let all = length-append (ended_holds from past) new in
    let own = few_of (ended_hold from past e) (λ m. one_part from m (length past + 1) (ended m e (holding m past))) 0 16 in
    let rest = few_ended from past in
    omega (arith, all, own, rest)

few_behind : (from : ℕ) (past : List Entry) → length (holds_behind from past) ≤ 16 * length past + 16
few_behind from past =
    let all = length-append (ended_holds from past) (flat_map (open_hold from past) (below 16)) in
    let own = few_of (open_hold from past) (λ m. one_part from m (length past) (holding m past)) 0 16 in
    let rest = few_ended from past in
    omega (arith, all, own, rest)

taken_short : {A : Type 0} (n : ℕ) (xs : List A) → length (take n xs) ≤ length xs
taken_short zero xs = omega arith
taken_short (suc n) [] = omega arith
taken_short (suc n) (x ∷ xs) = let rest = taken_short n xs in omega (arith, rest)

pub few_holds : (from to : ℕ) (es : List Entry) → length (holds_in from to es) ≤ 16 * length es + 16
few_holds from to es =
    let all = few_behind from (reverse (take to es)) in
    let back = length-reverse (take to es) in
    let short = taken_short to es in
    omega (arith, all, back, short)
