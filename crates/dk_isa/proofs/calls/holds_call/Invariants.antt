use Rattle.std.proofs.Common.{ℕ, ◌≡◌, ◌<◌, ◌+◌, ◌*◌, Some}
use Rattle.std.specs.Prelude.{slice_range}
use Rattle.dk_isa.specs.declared.Instr.{Instr}
use Rattle.dk_isa.specs.Table.{instruction_of}
use Rattle.dk_isa.proofs.calls.holds_call.Given as goal

abbrev pub invariant-loop-place : goal.invariant-loop-place
invariant-loop-place l = (k : ℕ) → k < l.place → instruction_of (slice_range l.program (4 * k) (4 * k + 4)) ≡ Some (Instr.Trap l.n) → ⊥
