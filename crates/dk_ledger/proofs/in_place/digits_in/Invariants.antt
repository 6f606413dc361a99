use Rattle.dk_ledger.proofs.Names.{◌≡◌, ◌<◌, ◌+◌, ◌++◌, ◌∷◌, ◌^◌, length}
use Rattle.std.proofs.Common.{decimal}
use Rattle.dk_ledger.proofs.in_place.digits_in.Given as goal

-- the digits so far are those of the number
abbrev pub invariant-loop-digit : goal.invariant-loop-digit
invariant-loop-digit l = record {
  some : 0 < l.number;
  fits : l.number < 2 ^ 32;
  text : (48 + l.fn.first) ∷ l.fn.bytes ≡ decimal l.number ++ l.rest;
}

abbrev pub decreases-loop-digit : goal.decreases-loop-digit
decreases-loop-digit l = length l.rest
