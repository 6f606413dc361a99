use Rattle.dk_cycle.proofs.Names.{refl}
use Rattle.dk_cycle.proofs.own.OwnSearch.ends.Goals as goal

pub returns-then-same_main-clause-found : goal.returns-then-same_main-clause-found
returns-then-same_main-clause-found c = record {
  before = c.in-Some.saved;
  is = c.in-Some.is;
  later = c.if-saved-now.true;
  start = refl;
  lasts = refl;
  same = c.same_main.ensures.same c.if-same_main.true;
}
