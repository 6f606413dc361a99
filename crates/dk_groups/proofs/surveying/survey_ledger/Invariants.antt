use Rattle.std.proofs.Common.{List, ◌≡◌, length}
use Rattle.dk_trace.specs.declared.Entry.{Entry}
use Rattle.dk_ledger.specs.ReadSoFar.{HasRead}
use Rattle.dk_groups.proofs.surveying.survey_ledger.Given as goal

abbrev pub invariant-loop-reader : goal.invariant-loop-reader
invariant-loop-reader l = record {
  entries : List Entry;
  read : HasRead l.bytes entries l.reader;
  ticks : l.ticks ≡ length entries;
}

abbrev pub decreases-loop-reader : goal.decreases-loop-reader
decreases-loop-reader l = length l.reader.rest
