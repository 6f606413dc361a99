use Rattle.dk_repeat_search.proofs.Names.{◌∙◌, sym, ap, subst, IfOk, Workload, Running, loaded_of, HaveLooked, IsAlways, IsWatching}
use Rattle.dk_repeat_search.proofs.always.watched_by.Goals as goal

pub told_by-requires-clause-is : goal.told_by-requires-clause-is
told_by-requires-clause-is g c = subst (λ (r : Running). IsWatching r c.in_ok-watching.watching) (sym c.in-Ok.ensures.ok) c.in_ok-watching.ensures.is

pub told_by-requires-clause-looked : goal.told_by-requires-clause-looked
told_by-requires-clause-looked g c = subst (λ (r : Running). HaveLooked r 0 c.in_ok-watching.watching.searches) (sym c.in-Ok.ensures.ok) c.in_ok-watching.ensures.looked

pub told_by-requires-clause-of : goal.told_by-requires-clause-of
told_by-requires-clause-of g c = c.in_ok-pass.ensures.same ∙ sym (ap loaded_of c.in-Ok.ensures.ok)

pub returns-in-Ok : goal.returns-in-Ok
returns-in-Ok g c = subst (λ (w : Workload). IfOk c.told_by.result (IsAlways w c.args.ticks)) (ap loaded_of c.in-Ok.ensures.ok) c.told_by.ensures
