use Rattle.dk_show.proofs.Names.{arith}
use Rattle.dk_show.proofs.Asks.{asks_read}
use Rattle.dk_show.proofs.files.file_at.Goals as goal

pub returns-then-len-most-clause-asks : goal.returns-then-len-most-clause-asks
returns-then-len-most-clause-asks g c =
    asks_read c.args.name.now c.args.most (g.D.Depot.seen c.args.depot.now) (g.D.Depot.seen c.read.new.self) _
    (g.D.Depot.seen c.args.depot.now).files c.in-Ok.bytes.items c.in-Ok.ensures.held (let rose = c.in-Ok.ensures.given_ok in let len = c.in-Ok.bytes.ok in omega (arith, rose, len)) c.in-Ok.ensures.stray

pub returns-else-len-most-clause-asks : goal.returns-else-len-most-clause-asks
returns-else-len-most-clause-asks g c =
    asks_read c.args.name.now c.args.most (g.D.Depot.seen c.args.depot.now) (g.D.Depot.seen c.read.new.self) _
    (g.D.Depot.seen c.args.depot.now).files c.in-Ok.bytes.items c.in-Ok.ensures.held (let rose = c.in-Ok.ensures.given_ok in let len = c.in-Ok.bytes.ok in omega (arith, rose, len)) c.in-Ok.ensures.stray
