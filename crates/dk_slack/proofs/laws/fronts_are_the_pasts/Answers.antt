use Rattle.dk_slack.proofs.Recounts.{front-oldest}
use Rattle.dk_slack.proofs.laws.fronts_are_the_pasts.Goals as goal

pub returns : goal.returns
returns c = λ node_of spares configuration now past t k recount inside. front-oldest node_of configuration now past k _ (recount.wishes k inside)
