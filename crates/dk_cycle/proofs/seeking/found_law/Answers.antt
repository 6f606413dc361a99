use Rattle.dk_cycle.proofs.Finding.{looks-later, looks-past, own-is-found}
use Rattle.dk_cycle.proofs.FindingRun.{looks-later-at-run, looks-past-process, looks-past-run, run-is-found}
use Rattle.dk_cycle.proofs.seeking.found_law.Goals as goal

pub returns : goal.returns
returns c = record {
  run = run-is-found c.forever_law.ensures c.stand_on_law.ensures;
  own = own-is-found c.again_law.ensures c.own_stand_law.ensures;
  past = looks-past;
  later = looks-later;
  run_past = looks-past-run c.forever_law.ensures c.stand_on_law.ensures;
  process_past = looks-past-process;
  run_later = looks-later-at-run;
}
