use Rattle.dk_audit.proofs.Names.{IsAfter, past_of}
use Rattle.dk_audit.proofs.auditing.first_breach.Given as goal

abbrev pub invariant-loop-tick : goal.invariant-loop-tick
invariant-loop-tick g l = IsAfter l.config (past_of l.entries l.tick) l.tables
