use Rattle.dk_repeat_search.proofs.Told.{has-settled, search-of}
use Rattle.dk_repeat_search.proofs.search.Searches.settle.Goals as goal

pub settle-requires-clause-is : goal.settle-requires-clause-is
settle-requires-clause-is g c =
    search-of c.args.kernel.now c.args.pass.early c.args.self.now.run c.now-reached.result c.requires.of c.now-reached.ensures.ticks c.requires.is.run

pub returns : goal.returns
returns g c =
    has-settled c.args.kernel.now c.args.pass.early c.args.self.now c.settle.new.search c.now-reached.result c.requires.of c.now-reached.ensures.ticks c.requires.is
    c.in_ok-settle.ensures
