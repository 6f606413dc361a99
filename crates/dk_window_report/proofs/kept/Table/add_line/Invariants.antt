use Rattle.std.proofs.Common.{List, ◌≡◌, ◌+◌, ◌-◌, ◌++◌, reverse}
use Rattle.std.specs.Prelude.{replicate}
use Rattle.dk_trace.specs.declared.Entry.{Entry}
use Rattle.dk_trace.specs.Entries.{quiet}
use Rattle.dk_window_report.specs.Rows.{IsKeptOf}
use Rattle.dk_window_report.specs.Touched.{IsPlaced}
use Rattle.dk_window_report.proofs.kept.Table.add_line.Given as goal

abbrev pub invariant-loop-turn : goal.invariant-loop-turn
invariant-loop-turn l = record {
  after : (es : List Entry) → IsKeptOf l.header (reverse es) l.fn.self.kept → IsKeptOf l.header (reverse (es ++ replicate (l._turn - 1) (quiet l.line.label))) l.self.kept;
  ticks : l.self.kept.ticks ≡ l.fn.self.kept.ticks + (l._turn - 1);
  placed : IsPlaced l.self;
}
