use Rattle.dk_dispatch.proofs.Names.{◌≡◌, ◌+◌, ◌*◌, ◌≤◌, length, drop, filter, is_running, children_at, shut_all, MayShutAll}
use Rattle.dk_dispatch.proofs.tables.AllTables.shut_children.Given as goal

abbrev pub invariant-loop-index : goal.invariant-loop-index
invariant-loop-index g l = record {
  threads : l.self.threads ≡ l.fn.self.threads;
  kernel : l.self.kernel ≡ l.fn.self.kernel;
  may : MayShutAll (filter is_running (drop l.index (children_at l.fn.self.threads l.process))) l.self;
  tables : shut_all (filter is_running (drop l.index (children_at l.fn.self.threads l.process))) l.self
      ≡ shut_all (filter is_running (children_at l.fn.self.threads l.process)) l.fn.self;
  steps : l.steps + (5 + length l.fn.self.kernel) * length (filter is_running (drop l.index (children_at l.fn.self.threads l.process)))
      ≤ l.fn.steps + (5 + length l.fn.self.kernel) * length (filter is_running (children_at l.fn.self.threads l.process));
}
