use Rattle.dk_vcd.proofs.ReadBack.{dumps_same, one_to_one}
use Rattle.dk_vcd.proofs.laws.one_to_one.Goals as goal

pub returns-clause-ranges : goal.returns-clause-ranges
returns-clause-ranges c = dumps_same

pub returns-clause-whole : goal.returns-clause-whole
returns-clause-whole c = one_to_one
