use Rattle.dk_asm.proofs.Imports.{◌≡◌, ◌<◌, ℕ, None, take, seen_lines, instructions, cause_at}
use Rattle.dk_asm.proofs.checking.first_fault.Given as goal

abbrev pub invariant-loop-i : goal.invariant-loop-i
invariant-loop-i l = record {
  count : l.before ≡ instructions (take l.i (seen_lines l.lines));
  none : (j : ℕ) → j < l.i → cause_at (seen_lines l.lines) j ≡ None;
}
