use Rattle.dk_cycle.proofs.Telling.{own-is-told, run-is-told}
use Rattle.dk_cycle.proofs.told.told_law.Goals as goal

pub returns : goal.returns
returns c = record {
  run = run-is-told c.audited_law.ensures c.forever_law.ensures;
  own = own-is-told c.again_law.ensures c.own_repeat_law.ensures;
}
