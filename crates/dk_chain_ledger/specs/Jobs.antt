-- What a ledger has of a job of a main, its ticks on its budget in one window of its level. Entries go on from tick 0.
use Rattle.std.specs.Prelude.{ℕ, suc, ◌+◌, ◌*◌, ◌/◌, Bool, ◌||◌, ◌==◌, nat_lt, min, if◌then◌else◌, List, [], ◌∷◌, length, take, drop, position, Option, None, option_map}
use Rattle.dk_config.specs.Configuration.{Configuration}
use Rattle.dk_config.specs.Windows.{period, main_level}
use Rattle.dk_trace.specs.declared.ThreadId.{ThreadId}
use Rattle.dk_trace.specs.declared.Entry.{Entry}
use Rattle.dk_trace.specs.Entries.{does, is_budget_of, is_end, is_wait}
use Rattle.dk_chain_ledger.specs.declared.jobs.Job.{Job}

abbrev pub main_of_process : ℕ → ThreadId
main_of_process p = record { process = p; serial = 0 }

-- the main waited or was stopped in the entry
abbrev pub closes : ThreadId → Entry → Bool
closes main e = does is_wait main e || does is_end main e

-- after how many entries the last that passes is over; 0 where none passes
abbrev pub last_in : (Entry → Bool) → List Entry → ℕ
last_in test [] = 0
last_in test (e ∷ es) =
    let more = last_in test es in
    if more == 0 then (if test e then 1 else 0) else suc more

-- after how many entries the first that passes is over; their number where none passes
abbrev pub first_in : (Entry → Bool) → List Entry → ℕ
first_in test [] = 0
first_in test (e ∷ es) = if test e then 1 else suc (first_in test es)

-- After how many ticks of the window the job is over: the main had the last of its ticks on its budget, or waited or was
-- stopped before.
abbrev pub over_in : ThreadId → List Entry → ℕ
over_in main window = min (last_in (is_budget_of main) window) (first_in (closes main) window)

-- The job of the main in the window that starts at the tick: None where it had no tick on its budget.
abbrev pub job_in : ThreadId → List Entry → ℕ → Option Job
job_in main window start =
    option_map (λ k. record { begun = start + k; over = start + over_in main window }) (position (is_budget_of main) window)

-- window k of a level with this period
abbrev pub window_of : List Entry → ℕ → ℕ → List Entry
window_of es ticks k = take ticks (drop (k * ticks) es)

-- The job of p in window k of its level, where the ledger has the whole window.
abbrev pub job_of : Configuration → List Entry → ℕ → ℕ → Option Job
job_of c es p k =
    let ticks = period c (main_level c p) in
    if nat_lt k (length es / ticks) then job_in (main_of_process p) (window_of es ticks k) (k * ticks) else None
