use Rattle.toml.proofs.Views.{table_get}
use Rattle.dk_needs.proofs.look.find.Goals as goal

pub returns : goal.returns
returns c = rw (← c.key_name.ensures) (table_get c.get.result c.key_name.result.now c.args.table.now.entries c.get.ensures.value)
