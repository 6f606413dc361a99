use Rattle.std.proofs.Common.{◌<◌, length, subst, sym}
use Rattle.dk_config.specs.Configuration.{Configuration}
use Rattle.dk_plan.specs.Budget.{with_budget}
use Rattle.dk_margins.specs.Margins.{IsGreatest, Stands}
use Rattle.show_layout.proofs.Greatest.{is_greatest}
use Rattle.show_layout.proofs.reaches.most_budget.Goals as goal

pub returns-clause-greatest : goal.returns-clause-greatest
returns-clause-greatest c =
    let same = c.config.ensures.same in
    let process = c.args.process in
    let most = c.greatest_budget.ensures in
    let exists = subst (λ (k : Configuration). process < length k.processes) (sym same) c.requires.exists in
    subst (λ (k : Configuration). IsGreatest (λ n. Stands (with_budget k process n)) c.greatest_budget.result) same
    (is_greatest c.config.result.now process exists c.greatest_budget.result most.reached most.no_greater)
