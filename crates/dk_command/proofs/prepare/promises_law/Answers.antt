use Rattle.dk_command.proofs.prepare.promises_law.Goals as goal

pub returns : goal.returns
returns c = λ w ticks certified. record {
  received = c.runs_keep_the_laws.ensures.received w.config w.programs ticks certified.checked certified.accepted;
  bounded = c.runs_keep_the_laws.ensures.bounded w.config w.programs ticks certified.checked certified.accepted;
  by_when = c.runs_keep_the_laws.ensures.by_when w.config w.programs ticks certified.checked certified.accepted;
  all_by_when = c.runs_keep_the_laws.ensures.all_by_when w.config w.programs ticks certified.checked certified.accepted;
  granted = c.runs_keep_the_laws.ensures.granted w.config w.programs ticks certified.checked certified.accepted;
  own_time = λ p others keeps same begins. c.own_time_law.ensures w.config w.programs others p ticks certified.checked certified.accepted keeps same begins;
}
