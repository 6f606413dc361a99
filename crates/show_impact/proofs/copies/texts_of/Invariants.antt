use Rattle.std.specs.Prelude.{◌≡◌, take}
use Rattle.show_impact.proofs.copies.texts_of.Given as goal

abbrev pub invariant-loop-text : goal.invariant-loop-text
invariant-loop-text l = l.copies.items ≡ take l.text-index l.texts
