-- After how many ticks of a window allotments are had.
use Rattle.std.specs.Prelude.{ℕ, ◌≡◌, ◌+◌, ◌*◌, ◌%◌, ◌<◌, ◌≤◌, ◌⊎◌, List, length, count_by}
use Rattle.dk_config.specs.Configuration.{Configuration}
use Rattle.dk_config.specs.Windows.{period, main_level}
use Rattle.dk_config.specs.Ahead.{level_ahead}
use Rattle.dk_trace.specs.declared.Entry.{Entry}
use Rattle.dk_trace.specs.Entries.{window}
use Rattle.dk_trace.specs.Guarantees.{past_at}
use Rattle.dk_slack_promise.specs.Long.{IsOpen, is_lent_to}
use Rattle.dk_slack_promise.specs.Allotted.{IsAllotted, KeepsTo, own_lent}
use Rattle.dk_slack_promise.specs.Soon.{allotted_begun}

-- The first f ticks of a window of level m are enough for all threads of the levels up to it and for these allotments: all of
-- them, or so many that there is room.
pub record IsEnoughSlack (c : Configuration) (s : ℕ → ℕ) (m f : ℕ) : Type 0 where
  pub some : 0 < f
  pub within : f ≤ period c m
  pub room : (f ≡ period c m) ⊎ (level_ahead c m f + allotted_begun c s m f ≤ f)

-- Then a process of the level that goes on asking until it was lent its allotment has had it once they are over.
abbrev pub AllottedIn : Configuration → List Entry → Type 0
AllottedIn c past =
    (s : ℕ → ℕ) (p r f : ℕ) → p < length c.processes → IsAllotted c s → KeepsTo c s past
    → r % period c (main_level c p) ≡ 0 → IsEnoughSlack c s (main_level c p) f → r + f ≤ length past
    → ((u : ℕ) → r ≤ u → u < r + f → IsOpen c (past_at past u) p ⊎ (s p ≤ own_lent c u (past_at past u) p))
    → s p ≤ count_by (is_lent_to p) (window c r (past_at past (r + f)) (main_level c p))
