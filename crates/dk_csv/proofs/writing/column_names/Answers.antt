use Rattle.std.proofs.Common.{rules}
use Rattle.csv.specs.Writing.{fields_text, is_blank}
use Rattle.dk_csv.proofs.writing.column_names.Goals as goal

pub returns-clause-text : goal.returns-clause-text
unfolding fields_text is_blank
returns-clause-text c = search rules
