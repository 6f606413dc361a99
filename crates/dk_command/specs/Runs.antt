-- The entries of a run.
use Rattle.std.specs.Prelude.{ℕ, ◌≡◌, List, reverse}
use Rattle.dk_trace.specs.declared.Entry.{Entry}
use Rattle.dk_loader.specs.Workload.{Workload}
use Rattle.dk_world.specs.Run.{trace}
use Rattle.dk_kernel.specs.Running.{Running}

-- these are the entries of the first n ticks, the oldest first
unfoldable pub AreEntries : Workload → ℕ → List Entry → Type 0
AreEntries w n es = es ≡ reverse (trace w.config w.programs n)

-- what the kernel runs
abbrev pub workload_of : Running → Workload
workload_of k = record { config = k.config; programs = k.programs }
