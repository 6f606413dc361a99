-- The program of a profile.
use Rattle.std.specs.Prelude.{ℕ, ◌+◌, ◌-◌, ◌/◌, ◌%◌, ◌==◌, Bool, nat_lt, nat_le, if◌then◌else◌, List, [], ◌∷◌, ◌++◌, flat_map, sum_by}
use Rattle.dk_isa.specs.declared.Instr.{Instr}
use Rattle.dk_isa.specs.Table.{bytes_of}
use Rattle.dk_profile.specs.declared.steps.Step.{Step}
use Rattle.dk_profile.specs.Steps.{step_size, work_size}

abbrev pub code_of : List Instr → List ℕ
code_of instrs = flat_map bytes_of instrs

-- fewer than three ticks
abbrev pub single : ℕ → List Instr
single n = if n == 0 then [] else (if n == 1 then Instr.Nop ∷ [] else Instr.Nop ∷ Instr.Nop ∷ [])

-- a tick to count, two ticks a round, and one more where it is odd; the round begins at the second instruction
abbrev pub counted : ℕ → ℕ → Bool → List Instr
counted at rounds odd =
    if odd
    then Instr.Li 1 rounds ∷ Instr.Addi 1 65535 ∷ Instr.Jnz 1 (at + 1) ∷ Instr.Nop ∷ []
    else Instr.Li 1 rounds ∷ Instr.Addi 1 65535 ∷ Instr.Jnz 1 (at + 1) ∷ []

-- the same with two ticks to count, where there are more rounds than one instruction can load
abbrev pub counted_far : ℕ → ℕ → Bool → List Instr
counted_far at rounds odd =
    if odd
    then Instr.Li 1 (rounds % 65536) ∷ Instr.Lih 1 (rounds / 65536) ∷ Instr.Addi 1 65535 ∷ Instr.Jnz 1 (at + 2)
    ∷ Instr.Nop ∷ []
    else Instr.Li 1 (rounds % 65536) ∷ Instr.Lih 1 (rounds / 65536) ∷ Instr.Addi 1 65535 ∷ Instr.Jnz 1 (at + 2) ∷ []

-- so many ticks of work, by the instructions from this place on
abbrev pub work_code : ℕ → ℕ → List Instr
work_code at n =
    if nat_lt n 3 then single n else (
    if nat_le n 131072 then counted at ((n - 1) / 2) ((n - 1) % 2 == 1)
    else counted_far at ((n - 2) / 2) ((n - 2) % 2 == 1))

-- a call with a number
abbrev pub call_code : ℕ → ℕ → List Instr
call_code number value = Instr.Li 1 value ∷ Instr.Trap number ∷ []

abbrev pub step_code : ℕ → Step → List Instr
step_code at (Step.Work n) = work_code at n
step_code at (Step.Lock m) = call_code 5 m
step_code at (Step.Unlock m) = call_code 6 m
step_code at (Step.Slack n) = call_code 7 n
step_code at (Step.Put n) = call_code 8 n
step_code at Step.Wait = Instr.Trap 1 ∷ []

-- the bytes of steps, from this place on
abbrev pub steps_bytes : ℕ → List Step → List ℕ
steps_bytes at [] = []
steps_bytes at (step ∷ steps) = code_of (step_code at step) ++ steps_bytes (at + step_size step) steps

-- the place behind the first work
abbrev pub behind_work : List Step → ℕ
behind_work [] = 0
behind_work (Step.Work n ∷ steps) = work_size n
behind_work (step ∷ steps) = step_size step + behind_work steps

-- The bytes that lead from behind the last step to behind the first work, at the place back: the steps before it, the work
-- less one tick, and a jump, which is that tick.
abbrev pub lap_bytes : ℕ → ℕ → List Step → List ℕ
lap_bytes at back [] = []
lap_bytes at back (Step.Work n ∷ steps) = code_of (work_code at (n - 1)) ++ code_of (Instr.Jmp back ∷ [])
lap_bytes at back (step ∷ steps) = code_of (step_code at step) ++ lap_bytes (at + step_size step) back steps

-- the program of steps, which begins anew behind the last one
abbrev pub program_of : List Step → List ℕ
program_of steps = steps_bytes 0 steps ++ lap_bytes (sum_by step_size steps) (behind_work steps) steps
