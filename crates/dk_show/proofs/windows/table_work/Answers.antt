use Rattle.dk_show.proofs.Names.{◌∙◌, refl}
use Rattle.dk_show.proofs.windows.table_work.Goals as goal

pub returns-clause-comes : goal.returns-clause-comes
returns-clause-comes c = λ past is text has. (has ∙ c.in_ok-table.ensures past is, refl)
