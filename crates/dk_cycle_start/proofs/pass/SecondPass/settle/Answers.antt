use Rattle.dk_cycle_start.proofs.Walking.{settled}
use Rattle.dk_cycle_start.proofs.pass.SecondPass.settle.Goals as goal

pub returns : goal.returns
returns g c =
    settled c.args.self.early c.args.ticks c.args.search.now c.start_at.new.self c.in-Some.cycle c.in_ok-start.start c.requires.pass.loaded c.requires.is c.in-Some.is
    c.in_ok-start.ensures c.start_at.ensures.run c.start_at.ensures.cycle
