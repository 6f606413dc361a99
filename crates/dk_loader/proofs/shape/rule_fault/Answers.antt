use Rattle.dk_loader.proofs.Names.{◌∙◌, sym, table_view}
use Rattle.dk_loader.proofs.Shapes.{top_decides, costs_decide, levels_decide, processes_decide, mutexes_decide}
use Rattle.dk_loader.proofs.shape.rule_fault.Goals as goal

pub returns-in-Some : goal.returns-in-Some
returns-in-Some c = top_decides c.args.rule c.args.version (table_view c.args.table.now) c.in-Some.f (sym c.in-Some.is ∙ c.section_fault.ensures)

pub returns-in-Some-section_fault : goal.returns-in-Some-section_fault
returns-in-Some-section_fault c = costs_decide c.args.rule c.args.version (table_view c.args.table.now) c.in-Some-section_fault.f (sym c.in_default.is ∙ c.section_fault.ensures) (sym c.in-Some-section_fault.is ∙ c.section_fault-2.ensures)

pub returns-in-Some-section_fault-2 : goal.returns-in-Some-section_fault-2
returns-in-Some-section_fault-2 c = levels_decide c.args.rule c.args.version (table_view c.args.table.now) c.in-Some-section_fault-2.f (sym c.in_default.is ∙ c.section_fault.ensures) (sym c.in_default-section_fault.is ∙ c.section_fault-2.ensures) (sym c.in-Some-section_fault-2.is ∙ c.section_fault-3.ensures)

pub returns-in-Some-section_fault-3 : goal.returns-in-Some-section_fault-3
returns-in-Some-section_fault-3 c = processes_decide c.args.rule c.args.version (table_view c.args.table.now) c.in-Some-section_fault-3.f (sym c.in_default.is ∙ c.section_fault.ensures) (sym c.in_default-section_fault.is ∙ c.section_fault-2.ensures) (sym c.in_default-section_fault-2.is ∙ c.section_fault-3.ensures) (sym c.in-Some-section_fault-3.is ∙ c.section_fault-4.ensures)

pub returns : goal.returns
returns c = mutexes_decide c.args.rule c.args.version (table_view c.args.table.now) c.section_fault-5.result (sym c.in_default.is ∙ c.section_fault.ensures) (sym c.in_default-section_fault.is ∙ c.section_fault-2.ensures) (sym c.in_default-section_fault-2.is ∙ c.section_fault-3.ensures) (sym c.in_default-section_fault-3.is ∙ c.section_fault-4.ensures) c.section_fault-5.ensures
