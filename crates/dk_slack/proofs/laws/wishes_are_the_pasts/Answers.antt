use Rattle.dk_slack.proofs.Asked.{want-counted, switch-counted, nothing-counted}
use Rattle.dk_slack.proofs.laws.wishes_are_the_pasts.Goals as goal

pub returns-clause-amount : goal.returns-clause-amount
returns-clause-amount c = λ node_of spares k now past t level x recount own inside asks. want-counted node_of k now past spares t recount level x own inside asks

pub returns-clause-switch : goal.returns-clause-switch
returns-clause-switch c = λ node_of spares k now past t level x recount own inside asks. switch-counted node_of k now past spares t recount level x own inside asks

pub returns-clause-nothing : goal.returns-clause-nothing
returns-clause-nothing c = λ node_of spares k now past t node recount none. nothing-counted node_of k now past spares t recount node none
