use Rattle.std.proofs.Common.{arith}
use Rattle.dk_mutex.proofs.Marking.{marked-row, unmarked-row}
use Rattle.dk_mutex.proofs.marks.mark.Goals as goal

pub returns-then-row-lt-MAX_PROCESSES : goal.returns-then-row-lt-MAX_PROCESSES
returns-then-row-lt-MAX_PROCESSES c = marked-row c.args.marks.now c.args.process c.args.marked

pub returns-else-row-lt-MAX_PROCESSES : goal.returns-else-row-lt-MAX_PROCESSES
returns-else-row-lt-MAX_PROCESSES c = unmarked-row c.args.marks.now c.args.process c.args.marked (omega arith)
