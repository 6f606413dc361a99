use Rattle.dk_slack.proofs.Names.{ℕ, ◌≡◌, ◌+◌, ◌%◌, ◌^◌, ◌<◌, length, drop, sum, None, unclaimed_by, counted_for}
use Rattle.dk_slack.proofs.Counts.{source_from, source_named}
use Rattle.dk_slack.proofs.unclaimed.foreseen.Given as goal

abbrev pub invariant-loop-level : goal.invariant-loop-level
invariant-loop-level l = record {
  run : l.run ≡ (l.nobodys + sum (drop l.level l.counters)) % 2 ^ 32;
  first : (k : ℕ) → k < l.ticks → source_named l.first (length l.spares)
      ≡ source_from (counted_for k None (unclaimed_by l.nobodys l.counters l.marks)) l.spares l.level;
}
