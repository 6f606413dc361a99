use Rattle.dk_asm.proofs.Imports.{◌≡◌, ◌++◌, length, listing}
use Rattle.dk_asm.proofs.listing.disassemble.Given as goal

abbrev pub invariant-loop-rest : goal.invariant-loop-rest
invariant-loop-rest l = l.text.items ++ listing l.rest ≡ listing l.fn.code

abbrev pub decreases-loop-rest : goal.decreases-loop-rest
decreases-loop-rest l = length l.rest
