-- Which window a thread overran first, and what its process has in one.
use Rattle.std.specs.Prelude.{ℕ, ◌+◌, ◌-◌, ◌*◌, ◌/◌, min, slice_get}
use Rattle.std.specs.Option.{option_map_or}
use Rattle.dk_ledger.specs.Heading.{Heading}
use Rattle.dk_window_report.specs.declared.row.Row.{Row}

abbrev pub budget_at : Heading → ℕ → ℕ
budget_at h p = option_map_or (λ line. line.budget) (slice_get h.processes p) 0

-- the tick with which the first window began that the thread overran, up to the last value of 32 bits
abbrev pub first_tick : Row → ℕ
first_tick r = min (r.since + (r.counts.first_overran - 1) * r.period) 4294967295

-- the number of that window among those of its level, from 0
abbrev pub first_window : Row → ℕ
first_window r = first_tick r / r.period
