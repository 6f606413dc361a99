use Rattle.dk_vcd.proofs.Lines.{is_dump}
use Rattle.dk_vcd.proofs.laws.values_have_no_blank.Goals as goal

pub returns : goal.returns
returns c = is_dump
