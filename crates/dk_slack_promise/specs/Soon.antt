-- By when in its window a process has had its allotment.
use Rattle.std.specs.Prelude.{ℕ, ◌≡◌, ◌+◌, ◌*◌, ◌%◌, ◌<◌, ◌≤◌, ◌⊎◌, nat_le, if◌then◌else◌, List, length, count_by}
use Rattle.dk_config.specs.Configuration.{Configuration}
use Rattle.dk_config.specs.Sums.{sum_from}
use Rattle.dk_config.specs.Windows.{period, main_level}
use Rattle.dk_config.specs.Ahead.{windows_begun, level_ahead}
use Rattle.dk_trace.specs.declared.Entry.{Entry}
use Rattle.dk_trace.specs.Entries.{window}
use Rattle.dk_trace.specs.Guarantees.{past_at}
use Rattle.dk_slack_promise.specs.Long.{IsOpen, is_lent_to}
use Rattle.dk_slack_promise.specs.Allotted.{IsAllotted, KeepsTo, own_lent}

-- the allotments of the processes of the levels up to m in their windows that begin in f ticks
abbrev pub allotted_begun : Configuration → (ℕ → ℕ) → ℕ → ℕ → ℕ
allotted_begun c s m f =
    sum_from 0 (length c.processes)
    (λ q. if nat_le (main_level c q) m then s q * windows_begun c (main_level c q) f else 0)

-- the first f ticks of a window of level m are enough for all threads of the levels up to it, and for these allotments
pub record IsSoon (c : Configuration) (s : ℕ → ℕ) (m f : ℕ) : Type 0 where
  pub some : 0 < f
  pub within : f ≤ period c m
  pub room : level_ahead c m f + allotted_begun c s m f ≤ f

-- Then a process of the level that goes on asking has had its allotment once they are over.
abbrev pub AllottedByWhen : Configuration → List Entry → Type 0
AllottedByWhen c past =
    (s : ℕ → ℕ) (p r f : ℕ) → p < length c.processes → IsAllotted c s → KeepsTo c s past
    → r % period c (main_level c p) ≡ 0 → IsSoon c s (main_level c p) f → r + f ≤ length past
    → ((u : ℕ) → r ≤ u → u < r + f → IsOpen c (past_at past u) p ⊎ (s p ≤ own_lent c u (past_at past u) p))
    → s p ≤ count_by (is_lent_to p) (window c r (past_at past (r + f)) (main_level c p))
