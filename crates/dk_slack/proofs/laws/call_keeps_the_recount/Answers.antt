use Rattle.dk_slack.proofs.Calling.{wishes-asked}
use Rattle.dk_slack.proofs.laws.call_keeps_the_recount.Goals as goal

pub returns : goal.returns
returns c = λ node_of spares k past t x label amount level recount own there inside who open_is some low. wishes-asked k past x label amount who open_is node_of own some there inside spares t recount level low
