-- Levels, their windows, and what the rows of a configuration say of them.
use Rattle.std.specs.Prelude.{ℕ, ◌+◌, ◌-◌, ◌%◌, Bool, false, List, [], slice_get}
use Rattle.std.specs.Option.{option_map_or}
use Rattle.dk_config.specs.Configuration.{Configuration}
use Rattle.dk_config.specs.Mutex.{Mutex}
use Rattle.dk_config.specs.declared.rows.LevelRow.{LevelRow}
use Rattle.dk_config.specs.declared.rows.ProcessRow.{ProcessRow}

-- a number of a row, and 0 where there is no such row
abbrev pub of_level : (LevelRow → ℕ) → Configuration → ℕ → ℕ
of_level f c i = option_map_or f (slice_get c.levels i) 0

abbrev pub of_process : (ProcessRow → ℕ) → Configuration → ℕ → ℕ
of_process f c p = option_map_or f (slice_get c.processes p) 0

abbrev pub of_mutex : (Mutex → ℕ) → Configuration → ℕ → ℕ
of_mutex f c m = option_map_or f (slice_get c.mutexes m) 0

abbrev pub period : Configuration → ℕ → ℕ
period c i = of_level (λ row. row.period) c i

-- the ticks that the kernel itself needs in each window of the level
abbrev pub release : Configuration → ℕ → ℕ
release c i = of_level (λ row. row.release) c i

abbrev pub main_level : Configuration → ℕ → ℕ
main_level c p = of_process (λ row. row.level) c p

-- the slowest level that a child of the process may have
abbrev pub max_level : Configuration → ℕ → ℕ
max_level c p = of_process (λ row. row.max_level) c p

-- how many children the process may have at a time
abbrev pub slots : Configuration → ℕ → ℕ
slots c p = of_process (λ row. row.threads) c p

-- whether the process has the right to slack
abbrev pub may_ask : Configuration → ℕ → Bool
may_ask c p = option_map_or (λ row. row.slack) (slice_get c.processes p) false

-- the words of the process's memory
abbrev pub memory : Configuration → ℕ → ℕ
memory c p = of_process (λ row. row.memory) c p

-- the name of the process, and no bytes where there is no such row
abbrev pub process_name : Configuration → ℕ → List ℕ
process_name c p = option_map_or (λ row. row.name) (slice_get c.processes p) []

abbrev pub budget : Configuration → ℕ → ℕ
budget c p = of_process (λ row. row.budget) c p

abbrev pub ceiling : Configuration → ℕ → ℕ
ceiling c m = of_mutex (λ row. row.ceiling) c m

abbrev pub longest_hold : Configuration → ℕ → ℕ
longest_hold c m = of_mutex (λ row. row.hold) c m

-- the window of level i that tick u lies in
abbrev pub window_start : Configuration → ℕ → ℕ → ℕ
window_start c i u = u - u % period c i

abbrev pub window_end : Configuration → ℕ → ℕ → ℕ
window_end c i u = window_start c i u + period c i
