use Rattle.dk_recount.proofs.needed.choosing_laws.Goals as goal

pub returns : goal.returns
returns c = record {
  named = c.rows_law.ensures.named;
  places = c.threads_law.ensures;
  absent = c.rows_law.ensures.absent;
  askers = c.standing_law.ensures;
  known = c.known_holders_law.ensures;
  stand = c.holders_law.ensures;
  differ = c.levels_law.ensures;
  holder = c.levels_are_the_pasts.ensures.holder;
  fit = c.first_unfit_is_the_pasts.ensures.fits;
  source = c.source_is_the_pasts.ensures;
  switch = c.wishes_are_the_pasts.ensures.switch;
}
