use Rattle.dk_kernel.proofs.laws.bound_laws.Goals as goal

pub returns : goal.returns
returns c = λ k past ruled. record {
  rules = ruled.audited;
  demand = c.window_demand_law.ensures k past ruled.checked ruled.accepted ruled.audited;
  received = c.received_law.ensures k past ruled.checked ruled.accepted ruled.audited;
  bounded = c.bounded_law.ensures k past ruled.checked ruled.accepted ruled.audited;
  by_when = c.by_when_law.ensures k past ruled.checked ruled.accepted ruled.audited;
  all_by_when = c.all_by_when_law.ensures k past ruled.checked ruled.accepted ruled.audited;
  granted = c.granted_law.ensures k past ruled.audited;
  locks = c.lock_law.ensures k past ruled.checked ruled.accepted ruled.audited;
  one_blocks = c.one_blocker_law.ensures k past ruled.checked ruled.accepted ruled.audited;
  blocking = c.blocking_law.ensures k past ruled.checked ruled.accepted ruled.audited;
  tight = c.denial_law.ensures k past ruled.checked ruled.accepted ruled.audited;
  timeline = c.timeline_law.ensures k past ruled.checked ruled.accepted ruled.audited;
}
