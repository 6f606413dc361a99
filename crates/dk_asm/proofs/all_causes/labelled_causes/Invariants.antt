use Rattle.dk_asm.proofs.Imports.{◌≡◌, ◌++◌, take, drop, causes_from, seen_lines, instructions}
use Rattle.dk_asm.proofs.all_causes.labelled_causes.Given as goal

-- the causes so far, before those of the lines that are left
abbrev pub invariant-loop-i : goal.invariant-loop-i
invariant-loop-i l = record {
  count : l.before ≡ instructions (take l.i (seen_lines l.lines));
  found : l.causes.items ++ causes_from (seen_lines l.lines) l.i (drop l.i (seen_lines l.lines)) ≡ causes_from (seen_lines l.lines) 0 (seen_lines l.lines);
}
