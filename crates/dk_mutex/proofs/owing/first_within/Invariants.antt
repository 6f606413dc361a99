use Rattle.dk_mutex.proofs.Names.{◌≡◌, drop, position_from, is_within_owed}
use Rattle.dk_mutex.proofs.owing.first_within.Given as goal

abbrev pub invariant-loop-mutex : goal.invariant-loop-mutex
invariant-loop-mutex l =
    position_from (is_within_owed l.id l.most l.owed) 0 l.rows.items ≡ position_from (is_within_owed l.id l.most l.owed) l.mutex (drop l.mutex l.rows.items)
