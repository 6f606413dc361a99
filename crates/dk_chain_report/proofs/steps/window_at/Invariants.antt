use Rattle.dk_chain_report.proofs.Windows.{IsWindow}
use Rattle.dk_chain_report.proofs.steps.window_at.Given as goal

abbrev pub invariant-loop-before : goal.invariant-loop-before
invariant-loop-before l = IsWindow l.config l.first l.rest l.event l.before l.start
