use Rattle.dk_picture.proofs.Names.{◌≡◌, drop, list_any, is_of_mutex}
use Rattle.dk_picture.proofs.hold_bars.is_held.Given as goal

-- none so far
abbrev pub invariant-loop-hold : goal.invariant-loop-hold
invariant-loop-hold l = list_any (is_of_mutex l.mutex) (drop l.hold-index l.holds) ≡ list_any (is_of_mutex l.mutex) l.holds
