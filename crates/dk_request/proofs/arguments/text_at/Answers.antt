use Rattle.dk_request.proofs.Names.{◌∙◌, IfOk-weaker}
use Rattle.dk_request.proofs.arguments.text_at.Goals as goal

pub returns : goal.returns
returns c = IfOk-weaker c.text_of.result _ _ (λ t is. is ∙ c.word_at.ensures) c.text_of.ensures
