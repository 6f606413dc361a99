use Rattle.dk_slack.proofs.Shutting.{wishes-dropped, wishes-left}
use Rattle.dk_slack.proofs.laws.stops_keep_the_recount.Goals as goal

pub returns : goal.returns
returns c = record {
  left = λ node_of next_of k past e shut gone level wishes shuts counted tells same. wishes-left k e past shut shuts node_of next_of gone level wishes counted tells same;
  dropped = wishes-dropped;
}
