use Rattle.dk_picture.proofs.InRows.{holds_in_rows}
use Rattle.dk_picture.proofs.laws.each_hold_has_its_row.Goals as goal

pub returns : goal.returns
returns c = holds_in_rows
