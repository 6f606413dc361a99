-- What may come before a main is at most this, in ticks: no sum passes 64 bits.
use Rattle.std.specs.Prelude.{ℕ, ◌+◌, ◌*◌, ◌^◌}
use Rattle.dk_config.specs.declared.TheConstants.{MAX_LEVELS, MAX_PROCESSES, MAX_SPAN}

-- the work of one level's kernel or of one process in a window that is begun as often as may be
abbrev pub most_work : ℕ
most_work = MAX_SPAN * (2 * MAX_SPAN)

-- all of it, with a hold
abbrev pub most_ahead : ℕ
most_ahead = 2 ^ 32 + MAX_LEVELS * most_work + MAX_PROCESSES * most_work
