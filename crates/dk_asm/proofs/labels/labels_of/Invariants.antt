use Rattle.dk_asm.proofs.Imports.{◌≡◌, take, ArePlaces, seen_lines, instructions}
use Rattle.dk_asm.proofs.labels.labels_of.Given as goal

abbrev pub invariant-loop-i : goal.invariant-loop-i
invariant-loop-i l = record {
  places : ArePlaces l.labels.places (take l.i (seen_lines l.lines));
  count : l.labels.instructions ≡ instructions (take l.i (seen_lines l.lines));
}
