use Rattle.dk_slack.proofs.Names.{◌≡◌, ◌+◌, ◌%◌, ◌^◌, length, drop, sum, unclaimed_by}
use Rattle.dk_slack.proofs.Counts.{source_from, source_named}
use Rattle.dk_slack.proofs.unclaimed.source.Given as goal

abbrev pub invariant-loop-level : goal.invariant-loop-level
invariant-loop-level l = record {
  run : l.run ≡ (l.nobodys + sum (drop l.level l.counters)) % 2 ^ 32;
  first : source_named l.first (length l.spares) ≡ source_from (unclaimed_by l.nobodys l.counters l.marks) l.spares l.level;
}
