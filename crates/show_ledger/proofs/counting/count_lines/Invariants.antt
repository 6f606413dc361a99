use Rattle.std.proofs.Common.{List, ◌≡◌, ◌+◌, length}
use Rattle.std.specs.Option.{option_map_or}
use Rattle.dk_trace.specs.declared.Entry.{Entry}
use Rattle.dk_ledger.specs.ReadSoFar.{ComesNext}
use Rattle.dk_report.specs.Counts.{StandsFor}
use Rattle.show_ledger.proofs.counting.count_lines.Given as goal

-- the totals stand for the entries before the next line
abbrev pub invariant-loop-next : goal.invariant-loop-next
invariant-loop-next l = record {
  counted : (es : List Entry) × StandsFor l.totals es × ComesNext l.fn.bytes es l.next l.reader;
  heading : l.reader.kept.heading ≡ l.fn.reader.kept.heading;
  levels : length l.totals.levels ≡ length l.fn.totals.levels;
  processes : length l.totals.processes ≡ length l.fn.totals.processes;
}

abbrev pub decreases-loop-next : goal.decreases-loop-next
decreases-loop-next l = option_map_or (λ _. 1 + length l.reader.rest) l.next 0
