use Rattle.dk_slack.proofs.Recounts.{source-past}
use Rattle.dk_slack.proofs.laws.source_is_the_pasts.Goals as goal

pub returns : goal.returns
returns c = λ node_of k now past t recount. source-past k now past t.unclaimed t.spares recount.unclaimed recount.spares
