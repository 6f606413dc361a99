use Rattle.std.proofs.Common.{append_assoc}
use Rattle.dk_asm.proofs.source.read_lines.Goals as goal

pub loop-rest-preserved : goal.loop-rest-preserved
loop-rest-preserved c = rw (c.in_ok-push_line.ensures, append_assoc) (rw c.first_line.ensures.lines at c.loop-rest.invariant)
