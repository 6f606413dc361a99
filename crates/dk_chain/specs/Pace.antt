-- The pace of a chain: when the window of a process of it starts, seen from an event.
use Rattle.std.specs.Prelude.{ℕ, ◌≡◌, ◌+◌, ◌*◌, ◌<◌, ◌≤◌, List, ◌∷◌, length}
use Rattle.dk_config.specs.declared.TheConstants.{MAX_PROCESSES, MAX_SPAN}
use Rattle.dk_config.specs.Configuration.{Configuration}
use Rattle.dk_config.specs.Windows.{main_level, period}
use Rattle.dk_chain.specs.declared.reacting.Pace.{Pace}
use Rattle.dk_chain.specs.declared.reacting.Course.{Course}
use Rattle.dk_chain.specs.Age.{last_of}
use Rattle.dk_chain.specs.Chain.{AreDone, answered}
use Rattle.dk_chain.specs.Rounding.{round_up}

-- the start of the window after an event at tick t
abbrev pub start_by : Configuration → Pace → ℕ → ℕ
start_by c pace t = round_up (t + pace.before) (period c pace.level) + pace.lag

-- a chain waits for its windows at most so long, in ticks
abbrev pub most_wait : ℕ
most_wait = MAX_PROCESSES * (2 * MAX_SPAN)

-- the pace of the whole chain, and its last process
pub record IsCourse (c : Configuration) (first : ℕ) (rest : List ℕ) (course : Course) : Type 0 where
  pub level : course.pace.level < length c.levels
  pub few : course.pace.before + course.pace.lag ≤ most_wait
  pub last : course.last ≡ last_of first rest
  -- no process of the chain is of a slower level than the pace
  pub within : main_level c course.last ≤ course.pace.level
  pub answers : (done : ℕ → ℕ) → AreDone c done → (t : ℕ)
      → answered c done (first ∷ rest) t ≡ start_by c course.pace t + done course.last
