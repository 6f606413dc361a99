use Rattle.std.proofs.Common.{List, ◌≡◌, ◌+◌, length, reverse}
use Rattle.std.specs.Option.{option_map_or}
use Rattle.dk_trace.specs.declared.Entry.{Entry}
use Rattle.dk_ledger.specs.ReadSoFar.{ComesNext}
use Rattle.show_ledger.specs.Told.{AreTold}
use Rattle.show_ledger.proofs.tenths.take_lines.Given as goal

-- the mains are told of the entries before the next line
abbrev pub invariant-loop-next : goal.invariant-loop-next
invariant-loop-next l = record {
  told : (es : List Entry) × AreTold l.reader.kept.heading (reverse es) l.mains.items × (l.ticks ≡ length es) × ComesNext l.fn.bytes es l.next l.reader;
  heading : l.reader.kept.heading ≡ l.fn.reader.kept.heading;
}

abbrev pub decreases-loop-next : goal.decreases-loop-next
decreases-loop-next l = option_map_or (λ _. 1 + length l.reader.rest) l.next 0
