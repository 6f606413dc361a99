use Rattle.dk_window_report.proofs.Overruns.{all_waited}
use Rattle.dk_window_report.proofs.laws.no_overrun_law.Goals as goal

pub returns : goal.returns
returns c = all_waited
