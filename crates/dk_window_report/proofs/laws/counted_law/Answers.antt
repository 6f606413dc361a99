use Rattle.dk_window_report.proofs.Overruns.{all_counted}
use Rattle.dk_window_report.proofs.laws.counted_law.Goals as goal

pub returns : goal.returns
returns c = all_counted
