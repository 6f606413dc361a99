use Rattle.dk_groups.proofs.NextLine.{groups_in_order}
use Rattle.dk_groups.proofs.laws.given_in_order.Goals as goal

pub returns : goal.returns
returns c = groups_in_order
