use Rattle.dk_dispatch.proofs.Telling.{telling-ready}
use Rattle.dk_checks.proofs.printing.row_at.Goals as goal

pub find-requires : goal.find-requires
find-requires c = telling-ready c.args.tables.now.past c.requires

pub child-requires : goal.child-requires
child-requires c = telling-ready c.args.tables.now.past c.requires
