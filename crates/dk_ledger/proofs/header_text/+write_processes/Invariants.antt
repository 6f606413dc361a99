use Rattle.dk_ledger.proofs.Names.{length}
use Rattle.dk_ledger.proofs.header_text.+write_processes.Given as goal

abbrev pub decreases-write_processes : goal.decreases-write_processes
decreases-write_processes g l = length l.processes.now
