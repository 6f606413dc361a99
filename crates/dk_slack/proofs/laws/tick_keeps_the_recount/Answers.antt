use Rattle.dk_slack.proofs.Spending.{wishes-spent}
use Rattle.dk_slack.proofs.Ticks.{wishes-keep}
use Rattle.dk_slack.proofs.Claims.{tick-counted}
use Rattle.dk_slack.proofs.laws.tick_keeps_the_recount.Goals as goal

pub returns-clause-slack : goal.returns-clause-slack
returns-clause-slack c = λ node_of spares k past t x source work j level recount own at asks inside. wishes-spent k past x source work node_of spares t recount own j at asks level inside

pub returns-clause-others : goal.returns-clause-others
returns-clause-others c = λ node_of k past label level wishes nobody counted. wishes-keep label node_of k past level wishes nobody counted

pub returns-clause-unclaimed : goal.returns-clause-unclaimed
returns-clause-unclaimed c = tick-counted
