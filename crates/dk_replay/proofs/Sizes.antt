-- A program has four bytes for each of its instructions.
use Rattle.std.proofs.Common.{◌≡◌, refl, ◌<◌, ◌+◌, ◌-◌, ◌*◌, ◌/◌, ◌%◌, ℕ, zero, suc, Bool, true, false, List, [], ◌∷◌, ◌++◌, length, length-append, arith}
use Rattle.std.specs.Prelude.{◌==◌, nat_lt, nat_le, if◌then◌else◌, sum_by}
use Rattle.std.proofs.lemmas.Bool.Decides.{nat_tests}
use Rattle.std.proofs.lemmas.List.Sums.{sum_by-cons}
use Rattle.dk_isa.specs.declared.Instr.{Instr}
use Rattle.dk_profile.specs.declared.steps.Step.{Step}
use Rattle.dk_profile.specs.declared.steps.Step.TheVariants as step
use Rattle.dk_profile.specs.Steps.{lap_size, program_size, step_size, work_size}
use Rattle.dk_replay.specs.Code.{behind_work, code_of, counted, counted_far, lap_bytes, program_of, single, step_code, steps_bytes, work_code}

single_size : (n : ℕ) → n < 3 → length (code_of (single n)) ≡ 4 * n
single_size zero h = refl
single_size (suc zero) h = refl
single_size (suc (suc zero)) h = refl
single_size (suc (suc (suc n))) h = absurd (omega arith)

counted_size : (at rounds n : ℕ) → n < 2 → length (code_of (counted at rounds (n == 1))) ≡ 4 * (3 + n)
counted_size at rounds zero h = refl
counted_size at rounds (suc zero) h = refl
counted_size at rounds (suc (suc n)) h = absurd (omega arith)

far_size : (at rounds n : ℕ) → n < 2 → length (code_of (counted_far at rounds (n == 1))) ≡ 4 * (4 + n)
far_size at rounds zero h = refl
far_size at rounds (suc zero) h = refl
far_size at rounds (suc (suc n)) h = absurd (omega arith)

-- whichever of the three forms
chosen : (at n : ℕ) (few near : Bool) → nat_lt n 3 ≡ few → nat_le n 131072 ≡ near
    → length
    (code_of
    (if few then single n else (
    if near then counted at ((n - 1) / 2) ((n - 1) % 2 == 1)
    else counted_far at ((n - 2) / 2) ((n - 2) % 2 == 1))))
    ≡ 4 * (if few then n else (if near then 3 + (n - 1) % 2 else 4 + (n - 2) % 2))
chosen at n true near f m = let small : n < 3 = grind (arith, nat_tests) in single_size n small
chosen at n false true f m = let odd : (n - 1) % 2 < 2 = omega arith in counted_size at ((n - 1) / 2) ((n - 1) % 2) odd
chosen at n false false f m = let odd : (n - 2) % 2 < 2 = omega arith in far_size at ((n - 2) / 2) ((n - 2) % 2) odd

pub work_bytes : (at n : ℕ) → length (code_of (work_code at n)) ≡ 4 * work_size n
work_bytes at n = chosen at n (nat_lt n 3) (nat_le n 131072) refl refl

pub step_bytes : (at : ℕ) (s : Step) → length (code_of (step_code at s)) ≡ 4 * step_size s
step_bytes at (step.Work n) = work_bytes at n
step_bytes at (step.Lock m) = refl
step_bytes at (step.Unlock m) = refl
step_bytes at (step.Slack n) = refl
step_bytes at (step.Put n) = refl
step_bytes at step.Wait = refl

pub all_bytes : (at : ℕ) (steps : List Step) → length (steps_bytes at steps) ≡ 4 * sum_by step_size steps
all_bytes at [] = refl
all_bytes at (s ∷ steps) =
    omega (arith, length-append (code_of (step_code at s)) (steps_bytes (at + step_size s) steps), step_bytes at s, all_bytes (at + step_size s) steps, sum_by-cons step_size s steps)

lap_more : (at back : ℕ) (s : Step) (steps : List Step) → length (lap_bytes (at + step_size s) back steps) ≡ 4 * lap_size steps
    → length (code_of (step_code at s) ++ lap_bytes (at + step_size s) back steps) ≡ 4 * (step_size s + lap_size steps)
lap_more at back s steps h =
    omega (arith, length-append (code_of (step_code at s)) (lap_bytes (at + step_size s) back steps), step_bytes at s, h)

lap_whole : (at back : ℕ) (steps : List Step) → length (lap_bytes at back steps) ≡ 4 * lap_size steps
lap_whole at back [] = refl
lap_whole at back (step.Work n ∷ steps) =
    omega (arith, length-append (code_of (work_code at (n - 1))) (code_of (Instr.Jmp back ∷ [])), work_bytes at (n - 1))
lap_whole at back (step.Lock m ∷ steps) = lap_more at back (step.Lock m) steps (lap_whole (at + 2) back steps)
lap_whole at back (step.Unlock m ∷ steps) = lap_more at back (step.Unlock m) steps (lap_whole (at + 2) back steps)
lap_whole at back (step.Slack n ∷ steps) = lap_more at back (step.Slack n) steps (lap_whole (at + 2) back steps)
lap_whole at back (step.Put n ∷ steps) = lap_more at back (step.Put n) steps (lap_whole (at + 2) back steps)
lap_whole at back (step.Wait ∷ steps) = lap_more at back step.Wait steps (lap_whole (at + 1) back steps)

pub program_bytes : (steps : List Step) → length (program_of steps) ≡ 4 * program_size steps
program_bytes steps =
    let laps = lap_bytes (sum_by step_size steps) (behind_work steps) steps in
    omega (arith, length-append (steps_bytes 0 steps) laps, all_bytes 0 steps, lap_whole (sum_by step_size steps) (behind_work steps) steps)
