use Rattle.dk_picture.proofs.Names.{◌≡◌, ◌++◌, drop, flat_map, string_bytes, hold_edge_of}
use Rattle.dk_picture.proofs.edges.add_hold_edges.Given as goal

-- the lines so far, before those of the holds that are left
abbrev pub invariant-loop-hold : goal.invariant-loop-hold
invariant-loop-hold l =
    string_bytes l.text ++ flat_map (hold_edge_of l.frame l.span l.mutexes) (drop l.hold-index l.holds)
    ≡ string_bytes l.initial.text ++ flat_map (hold_edge_of l.frame l.span l.mutexes) l.holds
