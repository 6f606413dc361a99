use Rattle.dk_alone.proofs.Cycles.{again-alone}
use Rattle.dk_alone.proofs.again_law.Goals as goal

pub returns : goal.returns
returns c config programs p s k checked accepted keeps again =
    again-alone config programs p checked accepted c.audited_law.ensures c.cause_law.ensures c.spent_law.ensures c.begin_law.ensures keeps s k again
