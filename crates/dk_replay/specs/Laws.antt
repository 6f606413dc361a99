-- The ticks that the instructions of a program take.
use Rattle.std.specs.Prelude.{ℕ, zero, suc, ◌≡◌, ◌⊎◌, ◌+◌, ◌-◌, ◌*◌, ◌^◌, ◌<◌, ◌≤◌, ◌==◌, if◌then◌else◌, List, [], ◌∷◌, ◌++◌, flat_map, length, slice_range, sum_by, Option, Some, None}
use Rattle.dk_isa.specs.declared.Instr.{Instr}
use Rattle.dk_isa.specs.Table.{instruction_of}
use Rattle.dk_cpu.specs.declared.Context.{Context}
use Rattle.dk_cpu.specs.declared.Outcome.{Outcome}
use Rattle.dk_cpu.specs.declared.kernel_call.KernelCall.{KernelCall}
use Rattle.dk_cpu.specs.Machine.{Tick, body_tick, call_of, ran, reg}
use Rattle.dk_cpu.specs.State.{RunsFor, replied}
use Rattle.dk_profile.specs.declared.steps.Step.{Step}
use Rattle.dk_profile.specs.Steps.{step_size, step_ticks, steps_of, work_size}
use Rattle.dk_times.specs.Table.{job_of, table_readings, times_of}
use Rattle.dk_replay.specs.Code.{program_of, step_code, work_code}

-- the instruction at a place of a program
pub record IsAt (code : List ℕ) (at : ℕ) (i : Instr) : Type 0 where
  pub within : 4 * at + 4 ≤ length code
  pub reads : instruction_of (slice_range code (4 * at) (4 * at + 4)) ≡ Some i

-- the instructions from a place on
abbrev pub HasCode : List ℕ → ℕ → List Instr → Type 0
HasCode code at [] = Unit {0}
HasCode code at (i ∷ instrs) = IsAt code at i × HasCode code (at + 1) instrs

-- so many ticks, none of a call's and no fault, lead from one context to another and leave the memory as it is
abbrev pub Runs : ℕ → List ℕ → List ℕ → ℕ → Context → Context → Type 0
Runs cost code memory n x y = RunsFor cost code n x memory y memory

-- the context at this place, with eight registers and no call begun
pub record StandsAt (at : ℕ) (x : Context) : Type 0 where
  pub place : x.pc ≡ at
  pub registers : length x.regs ≡ 8
  pub left : x.left ≡ 0

-- From its first instruction the code of n ticks of work takes exactly n ticks, none of them a call's and none a fault, and
-- then stands behind its last instruction. No word of the memory changes.
abbrev pub WorkTakes : Type 0
WorkTakes =
    (cost : ℕ) (code memory : List ℕ) (at n : ℕ) (x : Context) → HasCode code at (work_code at n) → n < 2 ^ 32 → StandsAt at x
    → (y : Context) × Runs cost code memory n x y × StandsAt (at + work_size n) y

-- the context with these registers at a place, with so many ticks of its call left
abbrev pub standing : List ℕ → ℕ → ℕ → Context
standing regs at left = record { regs = regs; pc = at; left = left }

-- the ticks of a call that are left behind its first j; before the first it hasn't begun
abbrev pub left_behind : ℕ → ℕ → ℕ
left_behind cost zero = 0
left_behind cost (suc j) = cost - suc j

-- what comes of the tick of a call behind j others
abbrev pub call_tick_behind : ℕ → KernelCall → List ℕ → List ℕ → ℕ → ℕ → Tick
call_tick_behind cost call regs memory at j =
    if suc j == cost
    then record { outcome = Outcome.CallDone call; context = standing regs (at + 1) 0; memory = memory }
    else record { outcome = Outcome.InCall; context = standing regs at (left_behind cost (suc j)); memory = memory }

-- A call takes as many ticks as it costs and is done in the last of them, whatever the registers are. No word of the memory
-- changes.
abbrev pub CallTakes : Type 0
CallTakes =
    (cost : ℕ) (code memory regs : List ℕ) (at k j : ℕ) (call : KernelCall) → IsAt code at (Instr.Trap k) → call_of k ≡ Some call
    → j < cost
    → body_tick cost code (standing regs at (left_behind cost j)) memory ≡ call_tick_behind cost call regs memory at j

-- The program of steps has the code of each of them at its place, behind the instructions of those in front.
abbrev pub HasSteps : Type 0
HasSteps =
    (front back : List Step) (step : Step)
    → HasCode (program_of (front ++ step ∷ back)) (sum_by step_size front) (step_code (sum_by step_size front) step)

-- So each work of a profile takes in its program exactly its ticks, from its place to that of the next step.
abbrev pub WorkIsDone : Type 0
WorkIsDone =
    (cost n : ℕ) (memory : List ℕ) (front back : List Step) (x : Context) → n < 2 ^ 32
    → StandsAt (sum_by step_size front) x
    → (y : Context) × Runs cost (program_of (front ++ Step.Work n ∷ back)) memory n x y
    × StandsAt (sum_by step_size (front ++ Step.Work n ∷ [])) y

-- the number that a step loads for its call
abbrev pub loads : Step → Option ℕ
loads (Step.Work n) = None
loads (Step.Lock m) = Some m
loads (Step.Unlock m) = Some m
loads (Step.Slack n) = Some n
loads (Step.Put n) = Some n
loads Step.Wait = None

-- the number of the kernel call that a step makes
abbrev pub call_number : Step → Option ℕ
call_number (Step.Work n) = None
call_number (Step.Lock m) = Some 5
call_number (Step.Unlock m) = Some 6
call_number (Step.Slack n) = Some 7
call_number (Step.Put n) = Some 8
call_number Step.Wait = Some 1

-- A step with a number loads it in one tick, and then stands at its call.
abbrev pub LoadsItsNumber : Type 0
LoadsItsNumber =
    (cost k v : ℕ) (memory : List ℕ) (front back : List Step) (step : Step) (x : Context) → loads step ≡ Some v
    → call_number step ≡ Some k → StandsAt (sum_by step_size front) x
    → (y : Context) × Runs cost (program_of (front ++ step ∷ back)) memory 1 x y × StandsAt (sum_by step_size front + 1) y
    × (reg y 1 ≡ v) × IsAt (program_of (front ++ step ∷ back)) (sum_by step_size front + 1) (Instr.Trap k)

-- A wait stands at its call.
abbrev pub WaitsAtOnce : Type 0
WaitsAtOnce =
    (front back : List Step)
    → IsAt (program_of (front ++ Step.Wait ∷ back)) (sum_by step_size front) (Instr.Trap 1)

-- the tick leads to this context and memory: by an instruction that is no call, in a call that isn't done, or by a call that
-- is done and answered with 0, as the kernel answers one that it grants
abbrev pub IsGranted : Tick → Context → List ℕ → Type 0
IsGranted tick last left =
    (tick ≡ ran last left)
    ⊎ ((tick ≡ record { outcome = Outcome.InCall; context = last; memory = left })
    ⊎ ((call : KernelCall) × (z : Context) × (tick ≡ record { outcome = Outcome.CallDone call; context = z; memory = left })
    × (last ≡ replied z 0 None)))

-- so do so many ticks
abbrev pub GrantedFor : ℕ → List ℕ → ℕ → Context → List ℕ → Context → List ℕ → Type 0
GrantedFor cost code zero x memory last left = (x ≡ last) × (memory ≡ left)
GrantedFor cost code (suc n) x memory last left =
    (y : Context) × (words : List ℕ) × GrantedFor cost code n x memory y words
    × IsGranted (body_tick cost code y words) last left

-- its work is no more than a word counts
abbrev pub IsShort : Step → Type 0
IsShort (Step.Work n) = n < 2 ^ 32
IsShort _ = Unit {0}

abbrev pub AreShort : List Step → Type 0
AreShort [] = Unit {0}
AreShort (step ∷ steps) = IsShort step × AreShort steps

-- Where each of its calls is granted, a job takes in the program of its profile exactly the ticks that its steps say, each of
-- them a tick of work or of a call, from the place of its first step to that behind its last.
abbrev pub StepsTake : Type 0
StepsTake =
    (cost : ℕ) (memory : List ℕ) (front job back : List Step) (x : Context) → 0 < cost → AreShort job
    → StandsAt (sum_by step_size front) x
    → (y : Context) × GrantedFor cost (program_of (front ++ (job ++ back))) (sum_by (step_ticks cost) job) x memory y memory
    × StandsAt (sum_by step_size (front ++ job)) y

-- none of the steps is work
abbrev pub HaveNoWork : List Step → Type 0
HaveNoWork [] = Unit {0}
HaveNoWork (Step.Work n ∷ steps) = ⊥
HaveNoWork (step ∷ steps) = HaveNoWork steps

-- Where each of its calls is granted, the way round takes, from behind the last step to behind the first work, exactly the
-- ticks that the steps up to that work say: as many as they take the first time, and none of its own.
abbrev pub LapTakes : Type 0
LapTakes =
    (cost n : ℕ) (memory : List ℕ) (front back : List Step) (x : Context) → 0 < cost → 0 < n → n < 2 ^ 32 → HaveNoWork front
    → StandsAt (sum_by step_size (front ++ Step.Work n ∷ back)) x
    → (y : Context)
    × GrantedFor cost (program_of (front ++ Step.Work n ∷ back)) (sum_by (step_ticks cost) (front ++ Step.Work n ∷ [])) x memory y memory
    × StandsAt (sum_by step_size (front ++ Step.Work n ∷ [])) y

-- So each round of a profile, from behind its first work to there again, takes exactly the ticks of all its steps, for ever.
abbrev pub RoundTakes : Type 0
RoundTakes =
    (cost n : ℕ) (memory : List ℕ) (front back : List Step) (x : Context) → 0 < cost → 0 < n → n < 2 ^ 32 → HaveNoWork front
    → AreShort back → StandsAt (sum_by step_size (front ++ Step.Work n ∷ [])) x
    → (y : Context)
    × GrantedFor cost (program_of (front ++ Step.Work n ∷ back)) (sum_by (step_ticks cost) (front ++ Step.Work n ∷ back)) x memory y memory
    × StandsAt (sum_by step_size (front ++ Step.Work n ∷ [])) y

-- Where its wait is granted, a job of a table takes in the program of the table exactly the ticks of its cell, from the place
-- behind the jobs above it to that behind its own wait.
abbrev pub TableTakes : Type 0
TableTakes =
    (cost ticks : ℕ) (name table memory above below : List ℕ) (x : Context) → 0 < cost
    → times_of cost name table ≡ above ++ ticks ∷ below
    → StandsAt (sum_by step_size (flat_map (job_of cost) above)) x
    → (y : Context)
    × GrantedFor cost (program_of (steps_of (table_readings cost name table))) ticks x memory y memory
    × StandsAt (sum_by step_size (flat_map (job_of cost) (above ++ ticks ∷ []))) y
