use Rattle.dk_loader.proofs.Names.{◌∙◌, sym, table_view, nat_tests, arith}
use Rattle.dk_loader.proofs.Shapes.{unknown_decides, missing_decides, wrong_decides}
use Rattle.dk_loader.proofs.shape.shape_fault.Goals as goal

pub returns-in-Some : goal.returns-in-Some
returns-in-Some c = unknown_decides c.version_of-version.result (table_view c.args.table.now) c.version_of-version.ensures c.in-Some.f (sym c.in-Some.is ∙ c.rule_fault.ensures)

pub returns-in-Some-rule_fault : goal.returns-in-Some-rule_fault
returns-in-Some-rule_fault c = grind (arith, nat_tests, missing_decides)

pub returns : goal.returns
returns c = grind (arith, nat_tests, wrong_decides)
