use Rattle.dk_needs_text.proofs.Escapes.{case_plain}
use Rattle.dk_needs_text.proofs.laws.cases_need_no_escapes.Goals as goal

pub returns : goal.returns
returns c = case_plain
