-- Which windows a thread overran. A past is the list of the entries so far, the newest first.
use Rattle.std.specs.Prelude.{ℕ, suc, ◌-◌, ◌++◌, nat_lt, if◌then◌else◌, List, [], ◌∷◌, length, reverse, take}
use Rattle.dk_trace.specs.declared.Entry.{Entry}
use Rattle.dk_window_report.specs.declared.row.WindowCounts.{WindowCounts}
use Rattle.dk_window_report.specs.declared.row.Row.{Row}
use Rattle.dk_window_report.specs.Owners.{Owner, numbers_of}

-- The tick with which the window of so many ticks began that ends with tick now, where the number of overruns grows with it.
abbrev pub grown : ℕ → ℕ → WindowCounts → WindowCounts → List ℕ
grown period now before after = if nat_lt before.overran after.overran then (suc now - period) ∷ [] else []

-- The ticks with which the windows began that the thread overran, in their order: one for each entry by which the number of
-- its overruns grows.
abbrev pub overran_at : Owner → List Entry → List ℕ
overran_at o [] = []
overran_at o (e ∷ past) = overran_at o past ++ grown o.period (length past) (numbers_of past o) (numbers_of (e ∷ past) o)

-- ---- of the rows that are reported

abbrev pub owner_of : Row → Owner
owner_of r = record { id = r.thread; period = r.period; since = r.since }

-- as many of its windows as its row says, in the order of a ledger's entries
abbrev pub found_of : List Entry → Row → List ℕ
found_of es r = take r.counts.overran (overran_at (owner_of r) (reverse es))
