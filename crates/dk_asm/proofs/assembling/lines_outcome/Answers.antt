use Rattle.dk_asm.proofs.assembling.lines_outcome.Goals as goal

pub labelled_outcome-requires : goal.labelled_outcome-requires
labelled_outcome-requires c = record {
  few = c.requires.few;
  places = c.in_ok-labels.ensures.places;
  count = c.in_ok-labels.ensures.instructions;
  read = c.requires.read;
}

pub returns-clause-outcome : goal.returns-clause-outcome
returns-clause-outcome c = c.labelled_outcome.ensures.outcome
