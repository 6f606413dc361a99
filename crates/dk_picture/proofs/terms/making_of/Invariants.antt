use Rattle.dk_picture.proofs.Names.{◌≡◌, drop, find, makes}
use Rattle.dk_picture.proofs.terms.making_of.Given as goal

-- none so far
abbrev pub invariant-loop-line : goal.invariant-loop-line
invariant-loop-line l = find (makes l.child) (drop l.line-index l.makings) ≡ find (makes l.child) l.makings
