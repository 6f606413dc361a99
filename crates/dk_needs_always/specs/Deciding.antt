-- The rows of needs, with those that ask of all ticks decided.
use Rattle.std.specs.Prelude.{◌≡◌, Bool, true, false, List, map}
use Rattle.dk_config.specs.Configuration.{Configuration}
use Rattle.dk_cycle.specs.declared.told.RunTold.{RunTold}
use Rattle.dk_loader.specs.Workload.{Workload}
use Rattle.dk_slack_promise.specs.Allotted.{IsAllotted}
use Rattle.dk_allotment.specs.Given.{given}
use Rattle.dk_needs.specs.declared.needs.Need.{Need}
use Rattle.dk_needs_check.specs.declared.row.Row.{Row}
use Rattle.dk_needs_check.specs.Meaning.{asked_allotments}
use Rattle.dk_repeat_search.specs.Always.{IsAlways}
use Rattle.dk_repeat_search.specs.Repeats.{searched_ticks}
use Rattle.dk_repeat_search.specs.declared.always.Always.{Always}
use Rattle.dk_needs_always.specs.declared.TheConstants.{ALWAYS_TICKS}
use Rattle.dk_needs_always.specs.Lending.{KeepForEver, TakesMoreIn}
use Rattle.dk_needs_always.specs.Asking.{asked_row}
use Rattle.dk_needs_always.specs.Telling.{decided_row, has_if_kept, kept_row}

-- a row that asks of all ticks is decided, and each other one stays
abbrev pub decided_by : Configuration → List Need → Always → Row → Row
decided_by c needs a row = decided_row a (asked_row c needs row)

-- the allotments of slack that the needs ask for hold together, and in the run of these programs no process ever takes more
pub record AreKept (w : Workload) (needs : List Need) : Type 0 where
  pub fit : IsAllotted w.config (given (asked_allotments w.config needs))
  pub keep : KeepForEver w.config w.programs (given (asked_allotments w.config needs))

-- Where these allotments hold together, and a cycle of the run is told whose second start is at most as many ticks as are
-- searched, some process takes more in a window before that start.
abbrev pub AreNotKept : Workload → List Need → RunTold → Type 0
AreNotKept w needs run =
    IsAllotted w.config (given (asked_allotments w.config needs))
    → TakesMoreIn w.config w.programs (given (asked_allotments w.config needs)) run.cycle

-- By what is so for ever in the run of this configuration with these programs the first rows come to the second: a bound that
-- holds where each process keeps to its slack is tested where each does; where there is such a bound and it isn't tested, the
-- allotments don't hold together, or no cycle is told so early, or some process takes more.
pub record AreDecided (w : Workload) (needs : List Need) (before after : List Row) : Type 0 where
  pub always : Always
  pub is : IsAlways w (searched_ticks ALWAYS_TICKS) always
  pub kept : Bool
  pub keeps : kept ≡ true → AreKept w needs
  pub lost : kept ≡ false → has_if_kept before ≡ true → AreNotKept w needs always.run
  pub whole : after ≡ map (kept_row kept) (map (decided_by w.config needs always) before)
