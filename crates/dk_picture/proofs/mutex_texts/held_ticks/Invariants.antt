use Rattle.dk_picture.proofs.Names.{◌≡◌, ◌≤◌, ◌*◌, take, sum_by, held_weight}
use Rattle.dk_picture.proofs.mutex_texts.held_ticks.Given as goal

abbrev pub invariant-loop-hold : goal.invariant-loop-hold
invariant-loop-hold l = record {
  so_far : l.sum ≡ sum_by (held_weight l.mutex) (take l.hold-index l.holds);
  small : l.sum ≤ l.hold-index * 4294967296;
}
