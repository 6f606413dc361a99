use Rattle.dk_recount.proofs.needed.hold_laws.Goals as goal

pub returns : goal.returns
returns c = record {
  caller = c.caller_laws.ensures;
  nest = c.nesting_law.ensures;
  known = c.known_holders_law.ensures;
  differ = c.levels_law.ensures;
  most = c.blocking_law.ensures;
  free = c.lock_law.ensures;
  tick = c.holds_move_blocking_law.ensures.tick;
  lowers = c.holds_move_blocking_law.ensures.unlock;
  cells = c.call_keeps_the_recount-2.ensures;
  locks = c.call_keeps_the_recount.ensures.lock;
  unlocks = c.call_keeps_the_recount.ensures.unlock;
  level = c.levels_are_the_pasts.ensures.level;
  held = c.holds_are_the_pasts.ensures.held;
  left = c.holds_are_the_pasts.ensures.left;
  nobody = c.free_mutexes_are_the_pasts.ensures.free;
  lock_refusals = c.refusals_are_the_pasts.ensures.lock;
  unlock_refusals = c.refusals_are_the_pasts.ensures.unlock;
}
