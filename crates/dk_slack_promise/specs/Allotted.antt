-- Allotments of slack: so many ticks for each process in each window of its own.
use Rattle.std.specs.Prelude.{ℕ, ◌≡◌, ◌+◌, ◌*◌, ◌/◌, ◌%◌, ◌<◌, ◌≤◌, ◌⊎◌, true, nat_le, if◌then◌else◌, List, [], ◌∷◌, length, count_by}
use Rattle.dk_config.specs.Configuration.{Configuration}
use Rattle.dk_config.specs.Sums.{sum_from}
use Rattle.dk_config.specs.Windows.{period, main_level}
use Rattle.dk_config.specs.Certification.{spare}
use Rattle.dk_trace.specs.declared.Entry.{Entry}
use Rattle.dk_trace.specs.Entries.{window}
use Rattle.dk_trace.specs.Guarantees.{past_at}
use Rattle.dk_trace.specs.Demand.{own_demand, fits}
use Rattle.dk_slack_promise.specs.Long.{IsOpen, is_lent_to, counted_from}

-- what the allotments of the processes of the levels up to j come to in a window of level j
abbrev pub allotted : Configuration → (ℕ → ℕ) → ℕ → ℕ
allotted c s j =
    sum_from 0 (length c.processes)
    (λ q. if nat_le (main_level c q) j then s q * (period c j / period c (main_level c q)) else 0)

-- It is within the spare of each level: the configuration is accepted also where each budget is greater by the allotment.
abbrev pub IsAllotted : Configuration → (ℕ → ℕ) → Type 0
IsAllotted c s = (j : ℕ) → j < length c.levels → allotted c s j ≤ spare c j

-- the ticks lent to process q in the window of its level, to whichever thread of it
abbrev pub own_lent : Configuration → ℕ → List Entry → ℕ → ℕ
own_lent c now past q = count_by (is_lent_to q) (window c now past (main_level c q))

-- in no window of its level a process was lent more than its allotment
abbrev pub KeepsTo : Configuration → (ℕ → ℕ) → List Entry → Type 0
KeepsTo c s [] = Unit {0}
KeepsTo c s (e ∷ past) =
    KeepsTo c s past
    × ((q : ℕ) → q < length c.processes → own_lent c (length past) (e ∷ past) q ≤ s q)

-- Then slack fits wherever no level faster than that of a process has work that was lent less in its present window.
abbrev pub AllottedFits : Configuration → List Entry → Type 0
AllottedFits c past =
    (s : ℕ → ℕ) (p : ℕ) → p < length c.processes → IsAllotted c s → KeepsTo c s past
    → ((j : ℕ) → j < main_level c p → own_demand c (length past) past j ≡ 0) → own_lent c (length past) past p < s p
    → fits c (length past) past ≡ true

-- at each tick of the window of its level that starts at r process p is open, until it was lent its allotment
abbrev pub IsOpenUntil : Configuration → List Entry → (ℕ → ℕ) → ℕ → ℕ → Type 0
IsOpenUntil c past s p r =
    (u : ℕ) → r ≤ u → u < r + period c (main_level c p)
    → IsOpen c (past_at past u) p ⊎ (s p ≤ own_lent c u (past_at past u) p)

-- And each process that goes on asking until it was lent its allotment gets it, in each window of its level.
abbrev pub AllottedLends : Configuration → List Entry → Type 0
AllottedLends c past =
    (s : ℕ → ℕ) (p r : ℕ) → p < length c.processes → IsAllotted c s → KeepsTo c s past
    → r % period c (main_level c p) ≡ 0 → r + period c (main_level c p) ≤ length past → IsOpenUntil c past s p r
    → s p ≤ counted_from (is_lent_to p) c past (main_level c p) r
