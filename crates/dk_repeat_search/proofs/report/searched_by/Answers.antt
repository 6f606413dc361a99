use Rattle.dk_repeat_search.proofs.Names.{◌∙◌, sym, ap, subst, IfOk, Workload, Running, shares_of, Found, IsSearching, loaded_of, IsFound, HaveLooked, KnowsLast, NoneWasToFind, RunHasNoneToFind}
use Rattle.dk_repeat_search.proofs.report.searched_by.Goals as goal

pub found_by-requires-clause-is : goal.found_by-requires-clause-is
found_by-requires-clause-is g c = subst (λ (r : Running). IsSearching r c.in_ok-searches.searches) (sym c.in-Ok.ensures.ok) c.in_ok-searches.ensures.is

pub found_by-requires-clause-of : goal.found_by-requires-clause-of
found_by-requires-clause-of g c = c.in_ok-pass.ensures.same ∙ sym (ap loaded_of c.in-Ok.ensures.ok)

pub found_by-requires-clause-shares : goal.found_by-requires-clause-shares
found_by-requires-clause-shares g c =
    c.as_slice.ensures.value ∙ c.in_ok-shares.ensures ∙ sym (ap (λ (r : Running). shares_of r.config) c.in-Ok.ensures.ok)

pub returns-in-Ok-clause-found : goal.returns-in-Ok-clause-found
returns-in-Ok-clause-found g c = subst (λ (w : Workload). IfOk c.found_by.result (IsFound w)) (ap loaded_of c.in-Ok.ensures.ok) c.found_by.ensures.found

pub returns-in-Ok-clause-last : goal.returns-in-Ok-clause-last
returns-in-Ok-clause-last g c =
    subst (λ (w : Workload). IfOk c.found_by.result (λ (f : Found). KnowsLast w c.args.ticks f.run)) (ap loaded_of c.in-Ok.ensures.ok) c.found_by.ensures.last

pub found_by-requires-clause-looked : goal.found_by-requires-clause-looked
found_by-requires-clause-looked g c = subst (λ (r : Running). HaveLooked r 0 c.in_ok-searches.searches) (sym c.in-Ok.ensures.ok) c.in_ok-searches.ensures.looked

pub returns-in-Ok-clause-none : goal.returns-in-Ok-clause-none
returns-in-Ok-clause-none g c =
    subst (λ (w : Workload). IfOk c.found_by.result (λ (f : Found). NoneWasToFind w c.args.ticks f.own.items)) (ap loaded_of c.in-Ok.ensures.ok) c.found_by.ensures.none

pub returns-in-Ok-clause-no_cycle : goal.returns-in-Ok-clause-no_cycle
returns-in-Ok-clause-no_cycle g c =
    subst (λ (w : Workload). IfOk c.found_by.result (λ (f : Found). RunHasNoneToFind w c.args.ticks f.run.cycle)) (ap loaded_of c.in-Ok.ensures.ok) c.found_by.ensures.no_cycle
