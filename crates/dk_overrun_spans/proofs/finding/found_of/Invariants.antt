use Rattle.std.proofs.Common.{◌-◌, ◌≤◌, length}
use Rattle.dk_overrun_spans.specs.Found.{owner_of}
use Rattle.dk_overrun_spans.proofs.Searching.{IsSearched}
use Rattle.dk_overrun_spans.proofs.finding.found_of.Given as goal

-- what was found in the entries so far
abbrev pub invariant-loop-own : goal.invariant-loop-own
invariant-loop-own l = record {
  searched : IsSearched (owner_of l.row) l.entries l.now l.own l.ticks.items;
  most : length l.ticks.items ≤ l.row.counts.overran;
}

abbrev pub decreases-loop-own : goal.decreases-loop-own
decreases-loop-own l = length l.entries - l.now
