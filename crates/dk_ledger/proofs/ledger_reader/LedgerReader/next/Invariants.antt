use Rattle.dk_ledger.proofs.Names.{ℕ, List, ◌≡◌, ◌<◌, ◌≤◌, length, Entry, HasRead, IsReading}
use Rattle.dk_ledger.proofs.ledger_reader.LedgerReader.next.Given as goal

-- no entry has been read yet
abbrev pub invariant-loop-self : goal.invariant-loop-self
invariant-loop-self l = record {
  reading : IsReading l.self;
  read : (bytes : List ℕ) (es : List Entry) → HasRead bytes es l.fn.self → HasRead bytes es l.self;
  shorter : length l.self.rest ≤ length l.fn.self.rest;
  heading : 0 < l.fn.self.kept.ticks → l.self.kept.heading ≡ l.fn.self.kept.heading;
}

abbrev pub decreases-loop-self : goal.decreases-loop-self
decreases-loop-self l = length l.self.rest
