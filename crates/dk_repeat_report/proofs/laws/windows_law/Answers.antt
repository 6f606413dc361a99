use Rattle.dk_repeat_report.proofs.Cycles.{windows-repeat}
use Rattle.dk_repeat_report.proofs.laws.windows_law.Goals as goal

pub returns : goal.returns
returns c = windows-repeat
