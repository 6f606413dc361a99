use Rattle.dk_picture.proofs.Names.{◌≡◌, ◌++◌, drop, flat_map, string_bytes, hold_label}
use Rattle.dk_picture.proofs.labels.add_hold_labels.Given as goal

-- the words so far, before those of the holds that are left
abbrev pub invariant-loop-hold : goal.invariant-loop-hold
invariant-loop-hold l = string_bytes l.text ++ flat_map (hold_label l.header l.frame l.span l.mutexes) (drop l.hold-index l.holds) ≡ string_bytes l.initial.text ++ flat_map (hold_label l.header l.frame l.span l.mutexes) l.holds
