use Rattle.std.proofs.Common.{List, ◌≡◌, ◌+◌, length, reverse}
use Rattle.std.specs.Option.{option_map_or}
use Rattle.dk_trace.specs.declared.Entry.{Entry}
use Rattle.dk_window_report.specs.Rows.{IsKeptOf}
use Rattle.dk_window_report.specs.Touched.{IsPlaced}
use Rattle.dk_window_report.specs.Report.{ComesNext}
use Rattle.dk_window_report.proofs.report.take_lines.Given as goal

-- the table is that of the entries before the next line
abbrev pub invariant-loop-next : goal.invariant-loop-next
invariant-loop-next l = record {
  kept : (es : List Entry) × IsKeptOf l.reader.kept.heading (reverse es) l.table.kept × ComesNext l.fn.bytes es l.next l.reader;
  placed : IsPlaced l.table;
  heading : l.reader.kept.heading ≡ l.fn.reader.kept.heading;
}

abbrev pub decreases-loop-next : goal.decreases-loop-next
decreases-loop-next l = option_map_or (λ _. 1 + length l.reader.rest) l.next 0
