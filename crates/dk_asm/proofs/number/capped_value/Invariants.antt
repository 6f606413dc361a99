use Rattle.dk_asm.proofs.Imports.{◌≡◌, min, take, digits_value}
use Rattle.dk_asm.proofs.number.capped_value.Given as goal

abbrev pub invariant-loop-digit : goal.invariant-loop-digit
invariant-loop-digit l = l.n ≡ min (digits_value 10 (take l.digit-index l.digits)) 65536
