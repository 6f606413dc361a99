use Rattle.dk_picture.proofs.Names.{◌≡◌, ◌+◌, ◌*◌, ◌++◌, flat_map, string_bytes, below, tick_text}
use Rattle.dk_picture.proofs.axis.add_ticks.Given as goal

-- the numbers so far are added
abbrev pub invariant-loop-number : goal.invariant-loop-number
invariant-loop-number l =
    string_bytes l.text ≡ string_bytes l.initial.text ++ flat_map (λ i. tick_text l.span l.frame ((l.first + i) * l.step)) (below l.number)
