use Rattle.dk_dispatch.proofs.Telling.{telling-ready}
use Rattle.dk_checks.proofs.printing.line_of.Goals as goal

pub rem-requires : goal.rem-requires
rem-requires g c = telling-ready c.args.tables.now.past c.requires

pub phase-requires : goal.phase-requires
phase-requires g c = telling-ready c.args.tables.now.past c.requires
