-- What may come before the main of a process in its window, and how many ticks of the window are enough for it.
use Rattle.std.specs.Prelude.{ℕ, ◌≡◌, ◌+◌, ◌-◌, ◌*◌, ◌/◌, ◌<◌, ◌≤◌, ◌⊎◌, Bool, false, not, ◌&&◌, ◌||◌, ◌==◌, nat_lt, nat_le, min, if◌then◌else◌, length, Option, Some, None}
use Rattle.std.specs.Option.{option_map_or}
use Rattle.dk_config.specs.Configuration.{Configuration}
use Rattle.dk_config.specs.Sums.{sum_from, sum_up_to}
use Rattle.dk_config.specs.Windows.{period, release, main_level, max_level, slots, budget, may_ask}
use Rattle.dk_config.specs.Certification.{level_blocking}

-- how many windows of level i begin in the first f ticks of a window of a level that is not faster
abbrev pub windows_begun : Configuration → ℕ → ℕ → ℕ
windows_begun c i f = (f + (period c i - 1)) / period c i

-- whether process q is of a slower level than p, or of the same and not before it: then none of its threads comes before p's main
abbrev pub stands_after : Configuration → ℕ → ℕ → Bool
stands_after c p q = nat_lt (main_level c p) (main_level c q)
    || ((main_level c q == main_level c p) && nat_le p q)

-- whether p comes before q where windows of both start: it is of a faster level, or of the same and an earlier process
abbrev pub comes_before : Configuration → ℕ → ℕ → Bool
comes_before c p q = stands_after c p q && not (p == q)

-- the slowest level of which a thread of q comes before p's main: p's own where q stands before p, else the one before it
abbrev pub slowest_before : Configuration → ℕ → ℕ → ℕ
slowest_before c p q = if nat_lt q p then main_level c p else main_level c p - 1

-- the slowest level of a thread of process q that may come before the main of p, if any may
abbrev pub may_come_before : Configuration → ℕ → ℕ → Option ℕ
may_come_before c p q =
    if stands_after c p q then None
    else if slots c q == 0 then Some (main_level c q)
    else Some (min (max_level c q) (slowest_before c p q))

-- what process q gets at its levels up to b in the windows of level b that begin in f ticks
abbrev pub budgets_begun : Configuration → ℕ → ℕ → ℕ → ℕ
budgets_begun c q f b = budget c q * (period c b / period c (main_level c q)) * windows_begun c b f

-- what of process q may come before the main of p in the first f ticks of p's window
abbrev pub process_ahead : Configuration → ℕ → ℕ → ℕ → ℕ
process_ahead c p f q = option_map_or (budgets_begun c q f) (may_come_before c p q) 0

-- all that may come before the main of p in the first f ticks of its window: a slower level's hold, the kernel, and others
abbrev pub ahead : Configuration → ℕ → ℕ → ℕ
ahead c p f =
    level_blocking c (main_level c p)
    + sum_up_to (main_level c p) (λ i. release c i * windows_begun c i f)
    + sum_from 0 (length c.processes) (process_ahead c p f)

-- no process of a level faster than this one has the right to slack
abbrev pub NoFasterSlack : Configuration → ℕ → Type 0
NoFasterSlack c m = (q : ℕ) → q < length c.processes → main_level c q < m → may_ask c q ≡ false

-- The first f ticks of its window are enough for k ticks of the main of p: all of them, or so many that what may come before
-- leaves room for k, where nobody faster has slack.
pub record IsEnough (c : Configuration) (p k f : ℕ) : Type 0 where
  pub within : f ≤ period c (main_level c p)
  pub room : (f ≡ period c (main_level c p)) ⊎ (NoFasterSlack c (main_level c p) × (ahead c p f + k ≤ f))

-- the slowest level up to m of a thread of process q, if it may have one
abbrev pub slowest_up_to : Configuration → ℕ → ℕ → Option ℕ
slowest_up_to c m q =
    if nat_lt m (main_level c q) then None
    else if slots c q == 0 then Some (main_level c q)
    else Some (min (max_level c q) m)

-- what may have to be done before all threads of level m are through, in the first f ticks of its window
abbrev pub level_ahead : Configuration → ℕ → ℕ → ℕ
level_ahead c m f =
    level_blocking c m
    + sum_up_to m (λ i. release c i * windows_begun c i f)
    + sum_from 0 (length c.processes) (λ q. option_map_or (budgets_begun c q f) (slowest_up_to c m q) 0)

-- the first f ticks of its window are enough for all threads of level m
pub record IsEnoughForAll (c : Configuration) (m f : ℕ) : Type 0 where
  pub some : 0 < f
  pub within : f ≤ period c m
  pub room : (f ≡ period c m) ⊎ (NoFasterSlack c m × (level_ahead c m f ≤ f))
