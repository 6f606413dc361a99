use Rattle.dk_margins.proofs.Names.{LimitsSwitch}
use Rattle.dk_margins.proofs.switches.most_switch.Given as goal

abbrev pub invariant-loop-row : goal.invariant-loop-row
invariant-loop-row l = LimitsSwitch l.processes l.row-index l.most
