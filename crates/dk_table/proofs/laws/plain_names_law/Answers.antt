use Rattle.dk_table.proofs.Names.{plain_names, process_is_plain}
use Rattle.dk_table.proofs.laws.plain_names_law.Goals as goal

pub returns : goal.returns
returns c = record { names = plain_names; processes = process_is_plain }
