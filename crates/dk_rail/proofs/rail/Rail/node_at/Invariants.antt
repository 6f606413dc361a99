use Rattle.dk_rail.proofs.Names.{◌+◌, ◌<◌, ◌≤◌, drop, IsPath, list_at}
use Rattle.dk_rail.proofs.rail.Rail.node_at.Given as goal

abbrev pub invariant-loop-passed : goal.invariant-loop-passed
invariant-loop-passed g l = let f = l.self-inside in record {
  inside : l.end < f.nodes + f.queues;
  ahead : IsPath f.block f.nodes (f.nodes + f.queues) l.queue l.end (drop l._passed (list_at f.block f.nodes l.queue)) (f.nodes + l.queue);
  steps : l.steps ≤ l.fn.steps + l._passed + 1;
}
