use Rattle.dk_recount.proofs.needed.stopping_laws.Goals as goal

pub returns : goal.returns
returns c = record {
  spends = c.tick_spends_law.ensures.job;
  lowers = c.tick_spends_law.ensures.rem;
  absent = c.rows_law.ensures.absent;
  job = c.event_closes_law.ensures.job;
  rem = c.event_closes_law.ensures.rem;
  holds = c.event_moves_blocking_law.ensures.holds;
  callers = c.callers_law.ensures.run;
  families = c.rows_law.ensures.families;
  named = c.rows_law.ensures.named;
  places = c.threads_law.ensures;
  askers = c.standing_law.ensures;
  known = c.known_holders_law.ensures;
  loans_quiet = c.tick_keeps_the_recount.ensures;
  freed_holds = c.stops_keep_the_recount.ensures.holds;
  freed_rows = c.stops_keep_the_recount.ensures.mutexes;
  lefts = c.lefts_are_the_pasts.ensures;
  cells = c.cells_are_changed_by_level.ensures.recount;
  unclaimed = c.tick_keeps_the_recount-2.ensures.unclaimed;
  parts = c.call_keeps_the_recount.ensures.parts;
  queued = c.jobs_are_the_pasts.ensures.queued;
  shuts = c.stops_keep_the_recount-2.ensures.left;
  drops = c.stops_keep_the_recount-2.ensures.dropped;
}
