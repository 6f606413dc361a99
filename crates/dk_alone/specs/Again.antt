-- Where a process stands as it stood before.
use Rattle.std.specs.Prelude.{ℕ, ◌+◌, ◌%◌, ◌≡◌, ◌<◌, Bool, not, ◌&&◌, ◌||◌, nat_lt, List, take, count_by, is_some}
use Rattle.std.specs.List.{list_any}
use Rattle.dk_config.specs.Configuration.{Configuration}
use Rattle.dk_config.specs.Windows.{period, main_level}
use Rattle.dk_trace.specs.declared.ThreadId.{ThreadId}
use Rattle.dk_trace.specs.declared.Entry.{Entry}
use Rattle.dk_trace.specs.Entries.{is_budget_of, does, is_wait, stops}
use Rattle.dk_world.specs.Run.{World, thread_at, world, trace}
use Rattle.dk_alone.specs.Alone.{alone, entries_of}

-- a window of the process's main begins at the tick
abbrev pub WindowBegins : Configuration → ℕ → ℕ → Type 0
WindowBegins c p tick = tick % period c (main_level c p) ≡ 0

-- the process's main was stopped
abbrev pub main_is_stopped : Configuration → ℕ → List Entry → Bool
main_is_stopped c p past = is_some (thread_at c past (record { process = p; serial = 0 })).stop

-- the process stands alike in two worlds: its memory, and its main, in its context and in whether it was stopped
pub record ProcessStandsAlike (c : Configuration) (p : ℕ) (one other : World) : Type 0 where
  pub memory : (one.images p).memory ≡ (other.images p).memory
  pub context : (one.images p).contexts 0 ≡ (other.images p).contexts 0
  pub stopped : main_is_stopped c p one.past ≡ main_is_stopped c p other.past

-- with the processor to itself the process stands at tick s + k as it stood at tick s, and a window of its main begins at both
pub record StandsAgainAlone (c : Configuration) (p : ℕ) (program : List ℕ) (s k : ℕ) : Type 0 where
  pub later : 0 < k
  pub begins : WindowBegins c p s
  pub begins_later : WindowBegins c p (s + k)
  pub alike : ProcessStandsAlike c p (alone c p program s) (alone c p program (s + k))

-- the same in a run, among others
pub record ProcessStandsAgain (c : Configuration) (programs : List (List ℕ)) (p s k : ℕ) : Type 0 where
  pub later : 0 < k
  pub begins : WindowBegins c p s
  pub begins_later : WindowBegins c p (s + k)
  pub alike : ProcessStandsAlike c p (world c programs s) (world c programs (s + k))

-- all entries of the window of the process's main that starts at the tick
abbrev pub window_from : Configuration → List (List ℕ) → ℕ → ℕ → List Entry
window_from c programs p tick = take (period c (main_level c p)) (trace c programs (tick + period c (main_level c p)))

-- those of the process
abbrev pub own_window : Configuration → List (List ℕ) → ℕ → ℕ → List Entry
own_window c programs p tick = entries_of p (window_from c programs p tick)

-- in the window the main had ticks of its budget, and it neither waited nor was stopped
abbrev pub overruns : ℕ → List Entry → Bool
overruns p window =
    let main : ThreadId = record { process = p; serial = 0 } in
    nat_lt 0 (count_by (is_budget_of main) window)
    && not (list_any (does is_wait main) window || list_any (stops main) window)
