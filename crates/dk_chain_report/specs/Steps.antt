-- What is said of each process of a chain, in ticks after an event.
use Rattle.std.specs.Prelude.{ℕ, zero, suc, ◌≡◌, ◌+◌, ◌-◌, max, ◌==◌, if◌then◌else◌, List, ◌∷◌, ◌++◌, codes, decimal, slice_index_or}
use Rattle.dk_config.specs.Configuration.{Configuration}
use Rattle.dk_config.specs.Windows.{budget, main_level, period, process_name}
use Rattle.dk_config.specs.Ahead.{IsEnough}
use Rattle.dk_chain.specs.Chain.{AreDone, free_from, next_start}
use Rattle.dk_config_report.specs.Pages.{IsLeast}
use Rattle.dk_chain_report.specs.declared.steps.Step.{Step}
use Rattle.dk_chain_report.specs.declared.steps.Turn.{Turn}
use Rattle.dk_chain_report.specs.declared.steps.Turn.TheVariants as turn

-- the process at this place of the chain
abbrev pub process_at : ℕ → List ℕ → ℕ → ℕ
process_at first rest place = slice_index_or (first ∷ rest) place 0

-- The start of its window in which the process at this place answers the event: the first that starts at the event or after, and
-- of each next process the first in which its job begins only when the one before is over.
abbrev pub window_at : Configuration → (ℕ → ℕ) → ℕ → List ℕ → ℕ → ℕ → ℕ
window_at c done first rest event zero = next_start c first event
window_at c done first rest event (suc place) =
    next_start c (process_at first rest (suc place))
    (free_from c done (process_at first rest place) (process_at first rest (suc place)) (window_at c done first rest event place))

-- whether its window starts when that of the process before it does
abbrev pub turn_at : Configuration → (ℕ → ℕ) → ℕ → List ℕ → ℕ → ℕ → Turn
turn_at c done first rest event zero = turn.First
turn_at c done first rest event (suc place) =
    if window_at c done first rest event place == window_at c done first rest event (suc place) then turn.Same else turn.Later

-- by when the process before this place is done, counted from the event; the event itself for the first one
abbrev pub IsOverBy : Configuration → ℕ → List ℕ → ℕ → ℕ → ℕ → Type 0
IsOverBy c first rest event zero before = before ≡ 0
IsOverBy c first rest event (suc place) before =
    (ticks : ℕ) × IsLeast (IsEnough c (process_at first rest place) (budget c (process_at first rest place))) ticks
    × ((done : ℕ → ℕ) → AreDone c done → window_at c done first rest event place + ticks ≡ event + before)

-- the numbers of the line of the process at this place
pub record IsStep (c : Configuration) (first : ℕ) (rest : List ℕ) (event place : ℕ) (s : Step) : Type 0 where
  pub level : s.level ≡ main_level c (process_at first rest place)
  pub window : s.period ≡ period c (main_level c (process_at first rest place))
  pub turn : (done : ℕ → ℕ) → AreDone c done → s.turn ≡ turn_at c done first rest event place
  pub starts : (done : ℕ → ℕ) → AreDone c done → window_at c done first rest event place ≡ event + s.starts
  -- so many ticks of its window are enough for one tick of the main, and no fewer
  pub begins : (ticks : ℕ) × IsLeast (IsEnough c (process_at first rest place) 1) ticks × (s.begins ≡ s.starts + ticks)
  -- so many are enough for its whole budget
  pub done : (ticks : ℕ) × IsLeast (IsEnough c (process_at first rest place) (budget c (process_at first rest place))) ticks
      × (s.done ≡ s.starts + ticks)
  -- what is behind the process before it: the wait for the window, and the rest
  pub split : (before : ℕ) × IsOverBy c first rest event place before × (s.waits ≡ s.starts - before)
      × (s.takes ≡ s.done - max s.starts before)

abbrev pub turn_word : Turn → List ℕ
turn_word turn.First = codes "first"
turn_word turn.Same = codes "same"
turn_word turn.Later = codes "later"

abbrev pub place_part : List ℕ → Step → List ℕ
place_part name s = codes "process "
    ++ (name ++ (codes " level " ++ (decimal s.level ++ (codes " period " ++ decimal s.period))))

abbrev pub times_part : Step → List ℕ
times_part s = codes " window "
    ++ (turn_word s.turn
    ++ (codes " starts "
    ++ (decimal s.starts
    ++ (codes " begins by " ++ (decimal s.begins ++ (codes " done by " ++ decimal s.done))))))

abbrev pub split_part : Step → List ℕ
split_part s = codes " waits " ++ (decimal s.waits ++ (codes " takes " ++ (decimal s.takes ++ codes "\n")))

abbrev pub step_line : List ℕ → Step → List ℕ
step_line name s = place_part name s ++ (times_part s ++ split_part s)

abbrev pub IsStepLine : Configuration → ℕ → List ℕ → ℕ → ℕ → List ℕ → Type 0
IsStepLine c first rest event place line =
    (s : Step) × IsStep c first rest event place s × (line ≡ step_line (process_name c (process_at first rest place)) s)
