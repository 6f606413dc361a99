use Rattle.dk_replay_run.proofs.InTurn.{window-entries}
use Rattle.dk_replay_run.proofs.parts_law.Goals as goal

pub returns : goal.returns
returns c config p k j jobs limits checked accepted known works fits few =
    window-entries config p jobs limits checked accepted known works fits k j few
