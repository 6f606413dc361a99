use Rattle.dk_cycle.proofs.Quietly.{searches-stay, starts-stay}
use Rattle.dk_cycle.proofs.stretching.stretch_law.Goals as goal

pub returns : goal.returns
returns c = record {
  run = searches-stay c.kept_law.ensures c.reads_law.ensures;
  start = starts-stay c.kept_law.ensures c.reads_law.ensures;
}
