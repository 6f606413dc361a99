use Rattle.dk_cycle_start.proofs.Names.{◌≡◌, take}
use Rattle.dk_cycle_start.proofs.copies.texts_of.Given as goal

abbrev pub invariant-loop-text : goal.invariant-loop-text
invariant-loop-text l = l.copies.items ≡ take l.text-index l.texts
