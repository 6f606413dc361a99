use Rattle.std.proofs.Common.{◌≡◌, ◌+◌}
use Rattle.dk_trace.specs.Entries.{quiet}
use Rattle.show_ledger.specs.Told.{told_many}
use Rattle.show_ledger.proofs.told.told_many.Given as goal

-- the main with the entries so far
abbrev pub invariant-loop-turn : goal.invariant-loop-turn
invariant-loop-turn l = record {
  same : l.more ≡ told_many (quiet l.fn.label) l._turn l.fn.told;
  tick : l.more.tick ≡ l.fn.told.tick + l._turn;
}
