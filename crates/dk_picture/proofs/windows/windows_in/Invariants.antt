use Rattle.dk_picture.proofs.Names.{◌≡◌, ◌+◌, ◌≤◌, ◌∷◌, [], All, flat_map, below, window_at}
use Rattle.std.specs.Prelude.{◌^◌}
use Rattle.dk_picture.proofs.windows.windows_in.Given as goal

-- the windows so far
abbrev pub invariant-loop-number : goal.invariant-loop-number
invariant-loop-number l =
    (l.windows.items ≡ flat_map (λ i. window_at l.level l.period (l.first + i) ∷ []) (below l.number))
    × All (λ w. w.first + 2 ^ 32 ≤ 2 ^ 64) l.windows.items
