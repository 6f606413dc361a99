-- What a run promises its threads.
use Rattle.std.specs.Prelude.{ℕ}
use Rattle.dk_trace.specs.Guarantees.{Received, Bounded, Granted}
use Rattle.dk_bound.specs.ByWhen.{AllByWhen, ByWhen}
use Rattle.dk_world.specs.Run.{trace}
use Rattle.dk_kernel.specs.Laws.{HasOwnTime}
use Rattle.dk_loader.specs.Workload.{Workload}
use Rattle.dk_inputs.specs.Jobs.{Job, run}

-- Of the defined run of so many ticks: in each window that has ended each thread had its whole share, unless it waited or was
-- stopped; none had more; once so many ticks of a window are over as are enough for k ticks of a main, it has had k ticks,
-- unless its share is less or it waited or was stopped, and once so many are over as are enough for all threads of a level,
-- children too, each has had its whole share, unless it waited or was stopped; whatever else it had was slack, granted exactly
-- where a thread asked for it and it fitted; and a process that keeps to itself had its own time whatever programs the others
-- have.
pub record KeepsPromises (w : Workload) (ticks : ℕ) : Type 0 where
  pub received : Received w.config (trace w.config w.programs ticks)
  pub bounded : Bounded w.config (trace w.config w.programs ticks)
  pub by_when : ByWhen w.config (trace w.config w.programs ticks)
  pub all_by_when : AllByWhen w.config (trace w.config w.programs ticks)
  pub granted : Granted w.config (trace w.config w.programs ticks)
  pub own_time : HasOwnTime (record { config = w.config; programs = w.programs; ticks = ticks })

-- a job that is a run keeps what it promises
abbrev pub Keeps : Job → Type 0
Keeps (run w ticks output) = KeepsPromises w ticks
Keeps _ = Unit {0}
