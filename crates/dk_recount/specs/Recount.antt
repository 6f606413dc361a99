-- When the dispatcher's tables are the recount of a past, in each of the four stages of a tick.
use Rattle.std.specs.Prelude.{ℕ, suc, ◌≡◌, ◌<◌, Bool, List, ◌∷◌, length, map}
use Rattle.dk_config.specs.declared.TheConstants.{MAX_TICKS}
use Rattle.dk_config.specs.Configuration.{Configuration}
use Rattle.dk_config.specs.Checked.{IsChecked, IsWithinLimits, IsAccepted}
use Rattle.dk_trace.specs.declared.Label.{Label}
use Rattle.dk_trace.specs.declared.Entry.{Entry}
use Rattle.dk_trace.specs.Entries.{quiet}
use Rattle.dk_trace.specs.Choices.{chosen}
use Rattle.dk_trace.specs.Audit.{Audited, HasChosenLabel}
use Rattle.dk_threads.specs.Recount.{has_row}
use Rattle.dk_threads.specs.Recount.{IsRecount as AreThreads}
use Rattle.dk_budget.specs.Recount.{IsRecount as AreLoans}
use Rattle.dk_mutex.specs.Recount.{HasLevels}
use Rattle.dk_mutex.specs.Recount.{IsRecount as AreHolders}
use Rattle.dk_demand.specs.Recount.{IsRecount as AreCells}
use Rattle.dk_slack.specs.Recount.{spares_of}
use Rattle.dk_slack.specs.Recount.{IsRecount as AreWishes}
pub use Rattle.dk_ready.specs.Recount.{seat_of, kernel_part, is_ready, ready_nodes}
use Rattle.dk_ready.specs.Recount.{AreParts}
use Rattle.dk_ready.specs.Recount.{IsRecount as AreJobs}
use Rattle.dk_recount.specs.Tables.{Tables, node_in}

-- the past follows the rules, under a configuration that certification accepts
pub record IsRuled (c : Configuration) (past : List Entry) : Type 0 where
  pub checked : IsChecked c
  pub limits : IsWithinLimits c
  pub accepted : IsAccepted c
  pub audited : Audited c past

abbrev pub releases_of : Configuration → List ℕ
releases_of c = map (λ row. row.release) c.levels

abbrev pub rights_of : Configuration → List Bool
rights_of c = map (λ row. row.slack) c.processes

-- Each table is the recount of the past at the tick, and each thread that has a row sits on its node.
pub record IsRecount (c : Configuration) (now : ℕ) (past : List Entry) (d : Tables) : Type 0 where
  pub tick : d.demand.windows.tick ≡ now
  pub rows : AreThreads c now past d.threads
  pub loans : AreLoans c now past d.loans
  pub holders : AreHolders c past d.mutexes
  pub own_levels : HasLevels c past d.mutexes
  pub cells : AreCells c past d.demand
  pub wishes : AreWishes (node_in d.threads) (spares_of c) c now past d.slack
  pub jobs : AreJobs (node_in d.threads) (has_row c now) c now past d.jobs
  pub kernel : AreParts c now past d.kernel
  pub releases : d.releases ≡ releases_of c
  pub rights : d.rights ≡ rights_of c

-- between two ticks
pub record IsReady (c : Configuration) (past : List Entry) (d : Tables) : Type 0 where
  pub ruled : IsRuled c past
  pub recount : IsRecount c (length past) past d

-- the tick is charged to this label, and its event is open; there was room for it
pub record IsCharged (c : Configuration) (label : Label) (past : List Entry) (d : Tables) : Type 0 where
  pub ruled : IsRuled c past
  pub chose : HasChosenLabel (chosen c past) label
  pub room : length past < MAX_TICKS
  pub recount : IsRecount c (length past) (quiet label ∷ past) d

-- the tick's entry is booked whole; the clock stands at its tick
pub record IsBooked (c : Configuration) (e : Entry) (past : List Entry) (d : Tables) : Type 0 where
  pub ruled : IsRuled c past
  pub chose : HasChosenLabel (chosen c past) e.label
  pub recount : IsRecount c (length past) (e ∷ past) d

-- the tables with their clock at another tick
abbrev pub clocked : ℕ → Tables → Tables
clocked tick d = record d { demand = record d.demand { windows = record d.demand.windows { tick = tick } } }

-- the clock has moved on; the ends, starts and releases of the next tick are still to come
pub record IsClosed (c : Configuration) (e : Entry) (past : List Entry) (d : Tables) : Type 0 where
  pub ruled : IsRuled c past
  pub clock : d.demand.windows.tick ≡ suc (length past)
  pub recount : IsRecount c (length past) (e ∷ past) (clocked (length past) d)
