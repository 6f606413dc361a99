use Rattle.dk_loader.proofs.Names.{◌∙◌, sym, table_view, nat_tests, arith}
use Rattle.dk_loader.proofs.ReadingLemmas.{faulty_reading, checked_reading}
use Rattle.dk_loader.proofs.reading.read_table.Goals as goal

pub config_of-requires : goal.config_of-requires
config_of-requires c = c.requires.levels

pub returns-in-Some-clause-reading : goal.returns-in-Some-clause-reading
returns-in-Some-clause-reading c _ = faulty_reading (table_view c.args.table.now) c.in-Some.f (sym c.in-Some.is ∙ c.shape_fault.ensures)

pub returns-clause-reading : goal.returns-clause-reading
returns-clause-reading c _ = grind (arith, nat_tests, checked_reading)
