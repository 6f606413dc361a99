use Rattle.dk_cycle_start.proofs.Names.{◌≡◌, take}
use Rattle.dk_cycle_start.proofs.copies.programs_of.Given as goal

abbrev pub invariant-loop-program : goal.invariant-loop-program
invariant-loop-program l = l.copies.items ≡ take l.program-index l.programs
