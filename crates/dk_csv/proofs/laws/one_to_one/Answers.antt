use Rattle.dk_csv.proofs.ReadBack.{one_to_one, tables_same}
use Rattle.dk_csv.proofs.laws.one_to_one.Goals as goal

pub returns-clause-ranges : goal.returns-clause-ranges
returns-clause-ranges c = tables_same

pub returns-clause-whole : goal.returns-clause-whole
returns-clause-whole c = one_to_one
