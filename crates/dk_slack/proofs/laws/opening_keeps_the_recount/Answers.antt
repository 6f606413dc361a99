use Rattle.dk_slack.proofs.Ticks.{wishes-stay, wishes-end}
use Rattle.dk_slack.proofs.Claims.{window-begun, window-stays}
use Rattle.dk_slack.proofs.laws.opening_keeps_the_recount.Goals as goal

pub returns-clause-wishes_stay : goal.returns-clause-wishes_stay
returns-clause-wishes_stay c = wishes-stay

pub returns-clause-wishes_begin : goal.returns-clause-wishes_begin
returns-clause-wishes_begin c = wishes-end

pub returns-clause-unclaimed_stay : goal.returns-clause-unclaimed_stay
returns-clause-unclaimed_stay c = window-stays

pub returns-clause-unclaimed_begin : goal.returns-clause-unclaimed_begin
returns-clause-unclaimed_begin c = window-begun
