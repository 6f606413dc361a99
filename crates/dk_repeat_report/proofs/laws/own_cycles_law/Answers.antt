use Rattle.dk_repeat_report.proofs.OwnUses.{own-cycles-alike}
use Rattle.dk_repeat_report.proofs.laws.own_cycles_law.Goals as goal

pub returns : goal.returns
returns c = own-cycles-alike c.length_law.ensures
