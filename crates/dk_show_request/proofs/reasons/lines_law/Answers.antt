use Rattle.dk_show_request.proofs.OneLine.{wrong_lines}
use Rattle.dk_show_request.proofs.reasons.lines_law.Goals as goal

pub returns : goal.returns
returns c = wrong_lines
