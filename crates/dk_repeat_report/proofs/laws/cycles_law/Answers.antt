use Rattle.dk_repeat_report.proofs.Cycles.{cycles-alike}
use Rattle.dk_repeat_report.proofs.laws.cycles_law.Goals as goal

pub returns : goal.returns
returns c = cycles-alike
