use Rattle.dk_picture.proofs.Names.{◌≡◌, List, [], length, LedgerLine, Journal, IsReadable, HasGiven, IsCutting, makings}
use Rattle.dk_picture.proofs.makings.all_makings.Given as goal

abbrev pub invariant-loop-makings : goal.invariant-loop-makings
invariant-loop-makings l = record {
  cutting : IsCutting l.reader;
  given : (j : Journal) → IsReadable j → HasGiven j [] l.fn.reader → (gs : List LedgerLine) × HasGiven j gs l.reader × (l.makings.items ≡ makings gs);
  from : l.reader.from ≡ l.fn.reader.from;
  to : l.reader.to ≡ l.fn.reader.to;
}

abbrev pub decreases-loop-makings : goal.decreases-loop-makings
decreases-loop-makings l = length l.reader.reading.rest
