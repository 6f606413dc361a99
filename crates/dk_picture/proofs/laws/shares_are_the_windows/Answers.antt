use Rattle.dk_picture.proofs.Names.{groups}
use Rattle.dk_picture.proofs.Overrun.{overrun_is}
use Rattle.dk_picture.proofs.Shared.{main_in_rows, used_is_job, window_told}
use Rattle.dk_picture.proofs.laws.shares_are_the_windows.Goals as goal

pub returns-clause-told : goal.returns-clause-told
returns-clause-told c = window_told

pub returns-clause-used : goal.returns-clause-used
returns-clause-used c = used_is_job

pub returns-clause-overran : goal.returns-clause-overran
returns-clause-overran c = overrun_is

pub returns-clause-row : goal.returns-clause-row
returns-clause-row c = λ h from to p es readable inside seen. main_in_rows h (groups from to es) p readable.heading inside seen
