use Rattle.dk_cycle_start.proofs.Names.{◌≡◌, ◌+◌, IsSearch}
use Rattle.dk_cycle_start.proofs.walk.lead.Given as goal

abbrev pub invariant-loop-left : goal.invariant-loop-left
invariant-loop-left g l = record {
  same : l.late ≡ record l.initial.late { ticks = l.late.ticks };
  count : l.late.ticks + l.left ≡ l.initial.late.ticks + l.ticks;
  is : IsSearch l.late l.search;
}

abbrev pub decreases-loop-left : goal.decreases-loop-left
decreases-loop-left g l = l.left
