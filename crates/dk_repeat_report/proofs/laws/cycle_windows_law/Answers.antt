use Rattle.dk_repeat_report.proofs.Windows.{cycles-are-windows}
use Rattle.dk_repeat_report.proofs.laws.cycle_windows_law.Goals as goal

pub returns : goal.returns
returns c = cycles-are-windows c.length_law.ensures
