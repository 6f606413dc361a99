use Rattle.std.proofs.Common.{List, ◌≡◌, ◌≤◌, length}
use Rattle.dk_ledger.specs.declared.line.LedgerLine.{LedgerLine as Line}
use Rattle.dk_ledger.specs.Readable.{Journal, IsReadable}
use Rattle.dk_groups.specs.Cutting.{HasGiven, IsCutting}
use Rattle.dk_groups.proofs.group_reader.GroupReader.next.Given as goal

abbrev pub invariant-loop-line : goal.invariant-loop-line
invariant-loop-line l = record {
  cutting : IsCutting l.self;
  given : (j : Journal) (gs : List Line) → IsReadable j → HasGiven j gs l.fn.self → HasGiven j gs l.self;
  from : l.self.from ≡ l.fn.self.from;
  to : l.self.to ≡ l.fn.self.to;
  shorter : length l.self.reading.rest ≤ length l.fn.self.reading.rest;
}

abbrev pub decreases-loop-line : goal.decreases-loop-line
decreases-loop-line l = length l.self.reading.rest
