use Rattle.dk_ledger.proofs.Names.{◌≡◌, ◌∙◌, ap, refl, true, false, Option, Some, None, not, is_some, nat_tests, arith}
use Rattle.std.specs.Prelude.{Bool}
use Rattle.dk_ledger.proofs.NextItem.{unnamed, no_name, none_passes, no_place}
use Rattle.dk_ledger.proofs.reader.header_lines.is_new.Goals as goal

is_nothing : {A : Type 0} (o : Option A) (b : Bool) → is_some o ≡ not b → b ≡ true → o ≡ None
is_nothing None b is e = refl
is_nothing (Some x) b is e = absurd (let both = is ∙ ap not e in cc)

is_true : (b : Bool) → false ≡ not b → b ≡ true
is_true true e = refl
is_true false e = absurd cc

pub returns : goal.returns
returns c = grind (arith, nat_tests, unnamed, none_passes, is_nothing, is_true, no_place, no_name)
