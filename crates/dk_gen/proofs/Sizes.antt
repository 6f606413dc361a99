-- How great the numbers of a workload are.
use Rattle.std.proofs.Common.{◌<◌, ◌≤◌, ◌+◌, ◌*◌, ◌/◌, ◌%◌, ℕ, zero, suc, arith}
use Rattle.std.proofs.Math.Nat.{mul-le-mul}
use Rattle.std.proofs.lemmas.Nat.{le-div}
use Rattle.dk_gen.specs.Draws.{draw}
use Rattle.dk_gen.specs.Generated.{period_at, process_count, budget_of, hold_of, place_of}
use Rattle.dk_gen.proofs.Stream.{draw_below}

-- a draw of a range that isn't empty
pub draw_most : (number place most : ℕ) → draw number place (suc most) ≤ most
draw_most number place most = let inside = draw_below number place (suc most) (omega arith) in omega (arith, inside)

pub few_processes : (number : ℕ) → process_count number ≤ 8
few_processes number = let most = draw_most number 8 5 in omega (arith, most)

pub some_processes : (number : ℕ) → 3 ≤ process_count number
some_processes number = omega arith

-- each period is at least twice the one before
pub period_doubles : (number j : ℕ) → 2 * period_at number j ≤ period_at number (suc j)
period_doubles number j = doubles (period_at number j) (draw number (suc j) 3)
  where
    doubles : (p d : ℕ) → 2 * p ≤ p * (2 + d)
    doubles p d = grind arith

pub period_least : (number j : ℕ) → 100 ≤ period_at number j
period_least number zero = least (draw number 0 9)
  where
    least : (d : ℕ) → 100 ≤ 100 * (1 + d)
    least d = omega arith
period_least number (suc j) =
    let before = period_least number j in
    let twice = period_doubles number j in
    omega (arith, before, twice)

-- and at most four times it
grown : (most p d : ℕ) → p ≤ most → d ≤ 2 → p * (2 + d) ≤ most * 4
grown most p d short few = mul-le-mul short (omega arith)

first_period : (number : ℕ) → period_at number 0 ≤ 900
first_period number = let most = draw_most number 0 8 in omega (arith, most)

pub period_most : (number j : ℕ) → j < 3 → period_at number j ≤ 14400
period_most number zero below = let most = first_period number in omega (arith, most)
period_most number (suc zero) below =
    let most = grown 900 (period_at number 0) (draw number 1 3) (first_period number) (draw_most number 1 2) in omega (arith, most)
period_most number (suc (suc zero)) below =
    grown 3600 (period_at number 1) (draw number 2 3) (grown 900 (period_at number 0) (draw number 1 3) (first_period number) (draw_most number 1 2)) (draw_most number 2 2)
period_most number (suc (suc (suc j))) below = absurd (omega arith)

-- the range of what is drawn for a budget isn't empty
pub some_share : (period processes : ℕ) → 100 ≤ period → 0 < processes → processes ≤ 8 → 0 < period / (2 * processes)
some_share period processes long some few = le-div 1 period (2 * processes) (omega arith) (omega arith)

-- a budget is at most both switches and its part of half a window
pub budget_most : (number i : ℕ) → budget_of number i ≤ 4 + period_at number (i % 3) / (2 * process_count number)
budget_most number i =
    let switch = draw_most number 6 2 in
    let share = draw_below number (place_of number i) _ (some_share (period_at number (i % 3)) (process_count number) (period_least number (i % 3)) (omega arith) (few_processes number)) in
    omega (arith, switch, share)

-- a hold is at most a twentieth of the shortest period
pub hold_most : (number : ℕ) → hold_of number ≤ period_at number 0 / 20
hold_most number =
    let long = period_least number 0 in
    let part = draw_below number (place_of number (process_count number)) (period_at number 0 / 20) (omega (arith, long)) in
    omega (arith, part)
