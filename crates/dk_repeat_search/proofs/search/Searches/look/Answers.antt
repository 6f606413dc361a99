use Rattle.dk_repeat_search.proofs.Names.{List, All, sym, subst, arith, OwnSearch, HasLookedBefore}
use Rattle.dk_repeat_search.proofs.search.Searches.look.Goals as goal

pub look_all-requires-clause-looked : goal.look_all-requires-clause-looked
look_all-requires-clause-looked c =
    let k = c.args.kernel.now in
    subst (λ (own : List OwnSearch). All (HasLookedBefore k k.ticks) own) (sym c.in_ok-run.ensures.own) c.requires.looked.own

pub returns-clause-looked : goal.returns-clause-looked
returns-clause-looked c = λ w some few.
    let one = c.lesser.ensures.one in
    let other = c.lesser.ensures.other in
    record {
      run = c.in_ok-run.ensures.looked w some (omega (arith, few, one));
      own = λ i d there. c.in_ok-own.ensures.looked i d there w some (omega (arith, few, other));
    }
