use Rattle.dk_holds.proofs.Counted.{in_trace}
use Rattle.dk_holds.proofs.laws.holder_in_trace.Goals as goal

pub returns : goal.returns
returns c = in_trace
