use Rattle.dk_dispatch.proofs.Telling.{telling-ready}
use Rattle.dk_checks.proofs.printing.print_tables.Goals as goal

pub now-requires : goal.now-requires
now-requires g c = telling-ready c.args.tables.now.past c.requires
