use Rattle.std.proofs.Common.{refl, arith}
use Rattle.dk_rail.proofs.Linked.{IsFresh, lists_fresh}
use Rattle.dk_rail.proofs.rail.Rail.new.Goals as goal

fresh : (c : goal.After-loop-end) → IsFresh c.loop-end.block c.args.nodes c.args.queues
fresh c = let at_end = c.loop-end.invariant in record {
  covers = at_end.covers;
  closed = λ i low high. at_end.closed i low (omega (arith, c.loop-end-test.false));
  free = at_end.free;
}

pub invariant_of-result : goal.invariant_of-result
invariant_of-result c = record {
  nodes = omega (arith, c.ranges.nodes.fits);
  queues = omega (arith, c.ranges.queues.fits);
  linked = (lists_fresh c.loop-end.block c.args.nodes c.args.queues (fresh c)).0;
}

pub returns : goal.returns
returns c = (refl, (lists_fresh c.loop-end.block c.args.nodes c.args.queues (fresh c)).1)
