use Rattle.toml.specs.View.{table_view}
use Rattle.dk_needs.proofs.Fit.{read_fit}
use Rattle.dk_needs.proofs.reading.read_needs.Goals as goal

pub returns-clause-fit : goal.returns-clause-fit
returns-clause-fit c = read_fit (table_view c.in_ok-table.table) c.read_table.result c.read_table.ensures
