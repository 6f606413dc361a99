use Rattle.dk_recount.proofs.needed.caller_laws.Goals as goal

pub returns : goal.returns
returns c = record {
  callers = c.callers_law.ensures.stand;
  named = c.rows_law.ensures.named;
  places = c.threads_law.ensures;
  absent = c.rows_law.ensures.absent;
  askers = c.standing_law.ensures;
}
