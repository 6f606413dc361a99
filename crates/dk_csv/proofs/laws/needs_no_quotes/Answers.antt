use Rattle.dk_csv.proofs.Bare.{all_joined, all_records}
use Rattle.dk_csv.proofs.laws.needs_no_quotes.Goals as goal

pub returns-clause-records : goal.returns-clause-records
returns-clause-records c = all_records

pub returns-clause-text : goal.returns-clause-text
returns-clause-text c = all_joined
