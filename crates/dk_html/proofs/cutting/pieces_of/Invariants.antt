use Rattle.std.proofs.Common.{◌≡◌, ◌++◌, length, map}
use Rattle.dk_html.specs.Pieces.{pieces}
use Rattle.dk_html.proofs.cutting.pieces_of.Given as goal

-- the pieces so far, before those of what is left
abbrev pub invariant-loop-piece : goal.invariant-loop-piece
invariant-loop-piece l = map (λ p. p.now) l.found.items ++ pieces l.fn.byte l.rest ≡ pieces l.fn.byte l.fn.text

abbrev pub decreases-loop-piece : goal.decreases-loop-piece
decreases-loop-piece l = length l.rest
