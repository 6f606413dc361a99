-- The seats and the kernel's own parts at tick 0: each main sits on the first node of its process with its whole
-- budget.
use Rattle.std.specs.Prelude.{ℕ, zero, suc, ◌*◌, List, length, map}
use Rattle.dk_config.specs.declared.TheConstants.{MAX_THREADS}
use Rattle.dk_config.specs.Configuration.{Configuration}
use Rattle.dk_config.specs.Windows.{main_level, budget}
use Rattle.dk_trace.specs.Jobs.{Job}
use Rattle.dk_ready.specs.declared.seat.Seat.{Seat}
use Rattle.dk_ready.specs.Roster.{Roster, new_job, at_start, released}

-- where the main of a process sits
abbrev pub main_seat : Configuration → ℕ → Seat
main_seat c p =
    record { thread = record { process = p; serial = 0 }; level = main_level c p; job = new_job (budget c p) }

-- the roster once the mains of the first processes have sat down
abbrev pub seated : Configuration → ℕ → Roster
seated c zero = at_start c.costs.switch (MAX_THREADS * length c.processes) (length c.levels)
seated c (suc p) = released (MAX_THREADS * p) (main_seat c p) (seated c p)

abbrev pub first_parts : Configuration → List Job
first_parts c = map (λ row. new_job row.release) c.levels
