use Rattle.dk_dispatch.proofs.Names.{◌≡◌, ◌-◌, length, below, numbers, counts_begun}
use Rattle.dk_dispatch.proofs.levels.begin_counts.Given as goal

abbrev pub invariant-loop-level : goal.invariant-loop-level
invariant-loop-level l = record {
  many : length l.slack.unclaimed ≡ l.levels;
  slack : record l.slack { unclaimed = counts_begun l.windows (numbers l.level (l.levels - l.level)) l.slack.unclaimed }
      ≡ record l.fn.slack { unclaimed = counts_begun l.windows (below l.levels) l.fn.slack.unclaimed };
}
