use Rattle.dk_hold_spans.proofs.Covering.{covered}
use Rattle.dk_hold_spans.proofs.laws.holds_are_the_holders.Goals as goal

pub returns : goal.returns
returns c = λ m from to t es few in_range before within. covered m from t few to es in_range before within
