use Rattle.dk_ledger.proofs.Names.{length, HasRead}
use Rattle.dk_ledger.proofs.reading.read_entries.Given as goal

abbrev pub invariant-loop-line : goal.invariant-loop-line
invariant-loop-line l = HasRead l.fn.bytes l.entries.items l.reader

abbrev pub decreases-loop-line : goal.decreases-loop-line
decreases-loop-line l = length l.reader.rest
