use Rattle.dk_request.proofs.AskLemmas.{same_test}
use Rattle.dk_request.proofs.asks.are_fit.Goals as goal

pub returns : goal.returns
returns c = same_test c.are_asks.result c.args.hi c.args.asks.now c.are_asks.ensures
