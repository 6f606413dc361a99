use Rattle.dk_ledger.proofs.Names.{List, length, Entry, HasRead}
use Rattle.dk_ledger.proofs.reading.pass_lines.Given as goal

abbrev pub invariant-loop-line : goal.invariant-loop-line
invariant-loop-line l = (es : List Entry) × HasRead l.fn.bytes es l.reader

abbrev pub decreases-loop-line : goal.decreases-loop-line
decreases-loop-line l = length l.reader.rest
