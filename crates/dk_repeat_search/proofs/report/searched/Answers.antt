use Rattle.dk_repeat_search.proofs.Names.{subst, IfOk, Found, KnowsLast, NoneWasToFind, RunHasNoneToFind}
use Rattle.dk_repeat_search.proofs.report.searched.Goals as goal

pub returns-clause-last : goal.returns-clause-last
returns-clause-last c =
    subst (λ n. IfOk c.searched_by.result (λ (f : Found). KnowsLast c.args.loaded n f.run)) c.searched_ticks.ensures.is c.searched_by.ensures.last

pub returns-clause-none : goal.returns-clause-none
returns-clause-none c =
    subst (λ n. IfOk c.searched_by.result (λ (f : Found). NoneWasToFind c.args.loaded n f.own.items)) c.searched_ticks.ensures.is c.searched_by.ensures.none

pub returns-clause-no_cycle : goal.returns-clause-no_cycle
returns-clause-no_cycle c =
    subst (λ n. IfOk c.searched_by.result (λ (f : Found). RunHasNoneToFind c.args.loaded n f.run.cycle)) c.searched_ticks.ensures.is c.searched_by.ensures.no_cycle
