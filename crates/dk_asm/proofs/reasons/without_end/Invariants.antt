use Rattle.dk_asm.proofs.Imports.{◌≡◌, ◌≤◌, true, drop, length, list_all, is_blank}
use Rattle.dk_asm.proofs.reasons.without_end.Given as goal

abbrev pub invariant-loop-end : goal.invariant-loop-end
invariant-loop-end l = record {
  within : l.end ≤ length l.bytes;
  blank : list_all is_blank (drop l.end l.bytes) ≡ true;
}

abbrev pub decreases-loop-end : goal.decreases-loop-end
decreases-loop-end l = l.end
