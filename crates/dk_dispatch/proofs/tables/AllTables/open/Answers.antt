use Rattle.dk_dispatch.proofs.Names.{◌∙◌, arith}
use Rattle.dk_dispatch.proofs.tables.AllTables.open.Goals as goal

pub returns-clause-tables : goal.returns-clause-tables
returns-clause-tables g c = c.settle.ensures.same ∙ c.begin_due.ensures.tables

pub returns-clause-steps : goal.returns-clause-steps
returns-clause-steps g c =
    let spent = c.begin_due.ensures.steps in
    let settled = c.settle.ensures.steps in
    omega (arith, spent, settled)
