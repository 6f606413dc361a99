use Rattle.dk_picture.proofs.Names.{◌≡◌, drop, list_any, holds_at}
use Rattle.dk_picture.proofs.waits.is_holder.Given as goal

-- none so far
abbrev pub invariant-loop-hold : goal.invariant-loop-hold
invariant-loop-hold l = list_any (holds_at l.thread l.tick) (drop l.hold-index l.holds) ≡ list_any (holds_at l.thread l.tick) l.holds
