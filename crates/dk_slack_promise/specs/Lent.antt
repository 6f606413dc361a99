-- How many ticks of a window were lent, and what of the spare is still there.
use Rattle.std.specs.Prelude.{ℕ, ◌≡◌, ◌+◌, ◌-◌, ◌<◌, ◌≤◌, Bool, true, List, length, count_by, is_some}
use Rattle.dk_config.specs.Configuration.{Configuration}
use Rattle.dk_config.specs.Windows.{window_end}
use Rattle.dk_config.specs.Certification.{spare}
use Rattle.dk_trace.specs.declared.Entry.{Entry}
use Rattle.dk_trace.specs.Entries.{borrower, window}
use Rattle.dk_trace.specs.Holds.{blocking}
use Rattle.dk_trace.specs.Demand.{own_demand, remaining_demand, fits}

-- whether the tick was one of slack, whose ever
abbrev pub is_lent : Entry → Bool
is_lent e = is_some (borrower e.label)

-- the ticks of slack in the window of level j so far, whose ever
abbrev pub ticks_lent : Configuration → ℕ → List Entry → ℕ → ℕ
ticks_lent c now past j = count_by is_lent (window c now past j)

-- Of each level with unfinished work the spare is still free, but for what was lent in its window.
abbrev pub SpareStays : Configuration → List Entry → Type 0
SpareStays c past =
    (j : ℕ) → j < length c.levels → 0 < own_demand c (length past) past j
    → remaining_demand c (length past) past j + blocking c past j + spare c j
    ≤ (window_end c j (length past) - length past) + ticks_lent c (length past) past j

-- So slack fits while of each level with unfinished work less than its spare was lent in its window.
abbrev pub LentFits : Configuration → List Entry → Type 0
LentFits c past =
    ((j : ℕ) → j < length c.levels → 0 < own_demand c (length past) past j → ticks_lent c (length past) past j < spare c j)
    → fits c (length past) past ≡ true
