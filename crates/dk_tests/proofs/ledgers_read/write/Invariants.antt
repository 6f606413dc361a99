use Rattle.std.proofs.Common.{◌≡◌, ◌+◌, IfSome}
use Rattle.dk_ledger.specs.LineText.{IsNamed}
use Rattle.dk_tests.proofs.ledgers_read.write.Given as goal

abbrev pub invariant-loop-entry : goal.invariant-loop-entry
invariant-loop-entry l = record {
  last_named : IfSome l.writer.last (λ last. IsNamed l.initial.header last.label);
  few : l.writer.entries ≡ l.initial.writer.entries + l.entry-index;
}
