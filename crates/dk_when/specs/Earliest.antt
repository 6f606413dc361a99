-- How soon in its window the main of a process can have had so many ticks of its share.
use Rattle.std.specs.Prelude.{ℕ, ◌+◌, ◌*◌, ◌/◌, ◌≤◌, ◌≡◌, ◌⊎◌, Bool, false, ◌&&◌, nat_lt, max, if◌then◌else◌, slice_get}
use Rattle.std.specs.List.{list_any}
use Rattle.std.specs.Option.{option_map_or}
use Rattle.dk_config.specs.Configuration.{Configuration}
use Rattle.dk_config.specs.Sums.{sum_up_to}
use Rattle.dk_config.specs.Windows.{period, release, main_level}
use Rattle.dk_config.specs.Certification.{uses}
use Rattle.dk_config.specs.Ahead.{windows_begun}

-- whether a thread of process p may hold a mutex of a level faster than i: then it runs before the kernel's own work of level i
abbrev pub may_hold_off : Configuration → ℕ → ℕ → Bool
may_hold_off c p i =
    list_any (λ mutex. nat_lt mutex.ceiling i && option_map_or (uses mutex) (slice_get c.processes p) false) c.mutexes

-- In how many windows of level i the kernel's own work is over, at least, where the first f ticks of p's window end with a tick of
-- its main: in each that has begun; where p may hold it off, in each that has ended, and in the first.
abbrev pub windows_over : Configuration → ℕ → ℕ → ℕ → ℕ
windows_over c p i f = if may_hold_off c p i then max 1 (f / period c i) else windows_begun c i f

-- the kernel's own work that always comes before a main in the first f ticks of its window
abbrev pub always_ahead : Configuration → ℕ → ℕ → ℕ
always_ahead c p f = sum_up_to (main_level c p) (λ i. release c i * windows_over c p i f)

-- The first f ticks of its window have room for k ticks of the main of p, the last of them at the end, and for what always comes
-- before them.
abbrev pub HasRoom : Configuration → ℕ → ℕ → ℕ → Type 0
HasRoom c p k f = always_ahead c p f + k ≤ f

-- The main of p may have had k ticks of its window once f of its ticks are over: all of them, or so many that there is room.
pub record MayHave (c : Configuration) (p k f : ℕ) : Type 0 where
  pub within : f ≤ period c (main_level c p)
  pub room : (f ≡ period c (main_level c p)) ⊎ HasRoom c p k f
