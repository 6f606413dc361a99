use Rattle.dk_picture.proofs.Names.{◌≡◌, ◌≤◌, [], length, Journal, IsReadable, HasGiven, IsCutting}
use Rattle.dk_picture.proofs.reading.read_groups.Given as goal

abbrev pub invariant-loop-groups : goal.invariant-loop-groups
invariant-loop-groups l = record {
  cutting : IsCutting l.reader;
  given : (j : Journal) → IsReadable j → HasGiven j [] l.fn.reader → HasGiven j l.groups.items l.reader;
  few : length l.groups.items ≤ 4000;
  from : l.reader.from ≡ l.fn.reader.from;
  to : l.reader.to ≡ l.fn.reader.to;
}

abbrev pub decreases-loop-groups : goal.decreases-loop-groups
decreases-loop-groups l = length l.reader.reading.rest
