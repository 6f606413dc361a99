-- The line of the run, and that of each process.
use Rattle.std.specs.Prelude.{ℕ, ◌≡◌, ◌-◌, ◌/◌, nat_le, if◌then◌else◌, List, [], ◌++◌, length, map, flat_map, codes, decimal, Option, Some, None, All, slice_get}
use Rattle.std.specs.List.{range_with_len}
use Rattle.std.specs.Option.{option_map_or}
use Rattle.dk_config.specs.Configuration.{Configuration}
use Rattle.dk_window_report.specs.declared.row.WindowCounts.{WindowCounts}
use Rattle.dk_cycle_counts.specs.declared.begins.BeginTicks.{BeginTicks}
use Rattle.dk_cycle_counts.specs.declared.process.ProcessUse.{ProcessUse}
use Rattle.dk_cycle_counts.specs.declared.totals.CycleTotals.{CycleTotals}
use Rattle.dk_cycle_counts.specs.declared.counts.CycleCounts.{CycleCounts}
use Rattle.dk_cycle.specs.declared.Cycle.{Cycle}
use Rattle.dk_cycle.specs.declared.made.Made.{Made}
use Rattle.dk_cycle.specs.declared.keeping.Keeping.{Keeping}
use Rattle.dk_cycle.specs.declared.keeping.Keeping.TheVariants as kind
use Rattle.dk_cycle.specs.declared.told.OwnTold.{OwnTold}
use Rattle.dk_cycle.specs.declared.told.RunTold.{RunTold}
use Rattle.dk_cycle.specs.Told.{IsRunTold}
use Rattle.dk_repeat_report.specs.declared.own.OwnFound.{OwnFound}
use Rattle.dk_repeat_report.specs.Cycles.{IsEachCounted}
use Rattle.dk_repeat_report.specs.OwnUses.{IsOwnFound}

abbrev pub name_at : List (List ℕ) → ℕ → List ℕ
name_at names p = option_map_or (λ name. name) (slice_get names p) []

abbrev pub cycle_line : ℕ → Option Cycle → List ℕ
cycle_line ticks (Some y) = codes "repeats from " ++ (decimal y.start ++ (codes " every " ++ (decimal y.length ++ codes "\n")))
cycle_line ticks None = codes "repeats not within " ++ (decimal ticks ++ codes "\n")

abbrev pub run_line_by : List (List ℕ) → ℕ → Option ℕ → Option Cycle → List ℕ
run_line_by names ticks (Some p) cycle = codes "repeats unknown " ++ (name_at names p ++ codes " reads the tick\n")
run_line_by names ticks None cycle = cycle_line ticks cycle

abbrev pub run_line : List (List ℕ) → ℕ → RunTold → List ℕ
run_line names ticks told = run_line_by names ticks told.reader told.cycle

abbrev pub child_line : List ℕ → Made → List ℕ
child_line name m =
    codes "child " ++ (decimal m.serial ++ (codes " of " ++ (name ++ (codes " is new at " ++ (decimal m.tick ++ codes "\n")))))

-- the child that was made last, where half of the ticks had gone by then
abbrev pub made_line : List (List ℕ) → ℕ → Option Made → List ℕ
made_line names ticks None = []
made_line names ticks (Some m) = if nat_le (ticks / 2) m.tick then child_line (name_at names m.process) m else []

-- the lines of the run
abbrev pub run_lines : List (List ℕ) → ℕ → RunTold → List ℕ
run_lines names ticks told = run_line names ticks told ++ made_line names ticks told.made

abbrev pub of_process : List ℕ → List ℕ → List ℕ
of_process name what = codes "process " ++ (name ++ what)

abbrev pub own_cycle_line : List ℕ → ℕ → Option Cycle → List ℕ
own_cycle_line name ticks (Some y) =
    of_process name (codes " from "
    ++ (decimal y.start ++ (codes " every " ++ (decimal y.length ++ codes " whatever the others do\n"))))
own_cycle_line name ticks None = of_process name (codes " not within " ++ (decimal ticks ++ codes "\n"))

abbrev pub own_line_by : List ℕ → ℕ → Keeping → Option Cycle → List ℕ
own_line_by name ticks kind.Keeps cycle = own_cycle_line name ticks cycle
own_line_by name ticks kind.ReadsTick cycle = of_process name (codes " reads the tick\n")
own_line_by name ticks kind.HasThreads cycle = of_process name (codes " has threads\n")
own_line_by name ticks kind.HasSlack cycle = of_process name (codes " has slack\n")

abbrev pub own_line : List (List ℕ) → ℕ → OwnTold → List ℕ
own_line names ticks told = own_line_by (name_at names told.process) ticks told.keeping told.cycle

-- the ticks of threads on their budgets
abbrev pub budget_part : CycleTotals → List ℕ
budget_part t =
    codes "cycle in " ++ (decimal t.ins ++ (codes " run " ++ (decimal t.runs ++ (codes " call "
    ++ (decimal t.calls ++ (codes " out " ++ decimal t.outs))))))

-- whose the ticks of a cycle are
abbrev pub totals_line : CycleTotals → List ℕ
totals_line t =
    budget_part t ++ (codes " slack " ++ (decimal t.slack ++ (codes " kernel " ++ (decimal t.kernel ++ (codes " idle "
    ++ (decimal t.idle ++ codes "\n"))))))

abbrev pub cycle_totals_line : Option CycleCounts → List ℕ
cycle_totals_line None = []
cycle_totals_line (Some k) = totals_line k.totals

abbrev pub waited_part : WindowCounts → List ℕ
waited_part n =
    codes " windows " ++ (decimal n.windows ++ (codes " waited " ++ (decimal n.waited ++ (codes " overran " ++ decimal n.overran))))

-- the least and the most that was used in a window
abbrev pub used_part : WindowCounts → ℕ → List ℕ
used_part n budget =
    codes " used " ++ (decimal n.least_used ++ (codes " to " ++ (decimal n.most_used ++ (codes " of " ++ decimal budget))))

-- the earliest and the latest tick of a window at which it began
abbrev pub begins_part : BeginTicks → List ℕ
begins_part b = codes " begins " ++ (decimal b.first ++ (codes " to " ++ decimal b.last))

-- the earliest and the latest tick of a window at which it was done
abbrev pub done_part : WindowCounts → List ℕ
done_part n = codes " done " ++ (decimal n.first_done ++ (codes " to " ++ decimal n.last_done))

-- by how much these ticks vary from window to window
abbrev pub jitter_part : BeginTicks → WindowCounts → List ℕ
jitter_part b n = codes " jitter " ++ (decimal (b.last - b.first) ++ (codes " " ++ decimal (n.last_done - n.first_done)))

-- when in its windows it began and was done
abbrev pub timing_part : ProcessUse → List ℕ
timing_part u = begins_part u.begins ++ (done_part u.main.counts ++ jitter_part u.begins u.main.counts)

abbrev pub events_part : ProcessUse → List ℕ
events_part u =
    codes " slack " ++ (decimal u.slack ++ (codes " refused " ++ (decimal u.refused ++ (codes " faults " ++ decimal u.faults))))

-- what a process did in a cycle: its main in its windows, and all its threads
abbrev pub use_line : List ℕ → ProcessUse → List ℕ
use_line name u =
    codes "  " ++ (name ++ (waited_part u.main.counts ++ (used_part u.main.counts u.budget ++ (timing_part u
    ++ (events_part u ++ codes "\n")))))

-- the same of the process p, where a cycle is counted
abbrev pub cycle_use_line : List ℕ → Option CycleCounts → ℕ → List ℕ
cycle_use_line name None p = []
cycle_use_line name (Some k) p = option_map_or (use_line name) (slice_get k.processes.items p) []

abbrev pub refused_part : ℕ → List ℕ
refused_part n = codes " refused " ++ (decimal n ++ codes "\n")

-- what a process does in each of its cycles by itself
abbrev pub own_use_line : List ℕ → ProcessUse → List ℕ
own_use_line name u =
    codes "  " ++ (name ++ (codes " by itself" ++ (waited_part u.main.counts ++ (used_part u.main.counts u.budget ++ refused_part u.refused))))

-- the lines of a process
abbrev pub process_lines : List (List ℕ) → ℕ → Option CycleCounts → OwnFound → List ℕ
process_lines names ticks counts found =
    own_line names ticks found.told
    ++ (cycle_use_line (name_at names found.told.process) counts found.told.process
    ++ option_map_or (own_use_line (name_at names found.told.process)) found.done [])

-- the names of the processes
abbrev pub names_of : Configuration → List (List ℕ)
names_of c = map (λ row. row.name) c.processes

-- the lines of the run, those of the processes, and the last
abbrev pub repeats_text : Configuration → ℕ → RunTold → Option CycleCounts → List OwnFound → List ℕ
repeats_text c ticks run counts own =
    run_lines (names_of c) ticks run
    ++ (cycle_totals_line counts ++ (flat_map (process_lines (names_of c) ticks counts) own ++ codes "end\n"))

abbrev pub process_of : OwnFound → ℕ
process_of found = found.told.process

-- the text tells what holds of every tick, with a line for each process, and what is counted of each cycle of the run and of
-- each process by itself
pub record IsRepeats (c : Configuration) (programs : List (List ℕ)) (ticks : ℕ) (text : List ℕ) : Type 0 where
  pub run : RunTold
  pub counts : Option CycleCounts
  pub own : List OwnFound
  pub searched : ℕ
  pub run_is : IsRunTold c programs searched run
  pub counts_are : IsEachCounted c programs run.cycle counts
  pub own_are : All (IsOwnFound c programs) own
  pub processes : map process_of own ≡ range_with_len 0 (length c.processes)
  pub text_is : text ≡ repeats_text c ticks run counts own
