-- What was found, as text.
use Rattle.std.specs.Prelude.{ℕ, ◌≡◌, Option, List, ◌++◌, length, map, flat_map, codes, All, IfSome}
use Rattle.std.specs.List.{range_with_len}
use Rattle.dk_config.specs.Configuration.{Configuration}
use Rattle.dk_config.specs.Checked.{IsChecked, IsAccepted}
use Rattle.dk_cycle.specs.declared.run.RunSearch.{RunSearch}
use Rattle.dk_cycle.specs.Run.{IsRunSearch}
use Rattle.dk_cycle.specs.Start.{StartsFirst}
use Rattle.dk_cycle.specs.Told.{run_told}
use Rattle.dk_cycle_counts.specs.declared.counts.CycleCounts.{CycleCounts}
use Rattle.dk_repeat_report.specs.declared.own.OwnFound.{OwnFound}
use Rattle.dk_repeat_report.specs.Cycles.{IsOneCounted}
use Rattle.dk_repeat_report.specs.OwnUses.{IsOneFound}
use Rattle.dk_repeat_report.specs.Lines.{IsRepeats, cycle_totals_line, names_of, process_lines, process_of, run_lines}

abbrev pub found_text : List (List ℕ) → ℕ → RunSearch → Option CycleCounts → List OwnFound → List ℕ
found_text names ticks run counts own =
    run_lines names ticks (run_told run)
    ++ (cycle_totals_line counts ++ (flat_map (process_lines names ticks counts) own ++ codes "end\n"))

-- the search of a run, whose cycle starts at its first tick, with what is counted of the cycle that was found, and what was found of each of its processes, in the
-- order of the rows
pub record AreOf (c : Configuration) (programs : List (List ℕ)) (run : RunSearch) (counts : Option CycleCounts) (own : List OwnFound) : Type 0 where
  pub tick : ℕ
  pub run_is : IsRunSearch c programs tick run
  pub first : IfSome run.cycle (StartsFirst c programs)
  pub counts_are : IsOneCounted c programs run.cycle counts
  pub own_are : All (IsOneFound c programs) own
  pub processes : map process_of own ≡ range_with_len 0 (length c.processes)

-- of what was found in a run of a certified configuration the text tells what repeats for ever
abbrev pub Tells : List (List ℕ) → ℕ → RunSearch → Option CycleCounts → List OwnFound → List ℕ → Type 0
Tells names ticks run counts own text =
    (c : Configuration) (programs : List (List ℕ)) → IsChecked c → IsAccepted c → AreOf c programs run counts own → names ≡ names_of c
    → IsRepeats c programs ticks text
