use Rattle.dk_budget.proofs.Recounts.{refusal-same}
use Rattle.dk_budget.proofs.laws.refusals_are_the_pasts.Goals as goal

pub returns : goal.returns
returns c = refusal-same
