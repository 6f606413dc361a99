use Rattle.dk_loader.proofs.Names.{◌∙◌, sym, table_view, nat_tests, arith}
use Rattle.dk_loader.proofs.ReadingLemmas.{counted, faulty_shape, whole_shape}
use Rattle.dk_loader.proofs.reading.shaped_table.Goals as goal

pub config_of-requires : goal.config_of-requires
config_of-requires c = c.requires.levels

pub returns-in-Some-clause-shaped : goal.returns-in-Some-clause-shaped
returns-in-Some-clause-shaped c _ = faulty_shape (table_view c.args.table.now) c.in-Some.f (sym c.in-Some.is ∙ c.shape_fault.ensures)

pub returns-clause-shaped : goal.returns-clause-shaped
returns-clause-shaped c _ = grind (arith, nat_tests, whole_shape)

pub returns-clause-few : goal.returns-clause-few
returns-clause-few c =
    counted (table_view c.args.table.now) c.in_ok-config_of.field-0 c.in_ok-config_of.ensures c.requires.levels c.requires.processes c.requires.mutexes
