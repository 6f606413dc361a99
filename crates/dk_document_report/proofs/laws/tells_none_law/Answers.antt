use Rattle.dk_document_report.proofs.NoFault.{tells_none}
use Rattle.dk_document_report.proofs.laws.tells_none_law.Goals as goal

pub returns : goal.returns
returns c = tells_none
