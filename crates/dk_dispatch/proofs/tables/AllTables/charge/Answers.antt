use Rattle.dk_dispatch.proofs.Names.{◌∙◌, ap, sym, subst, Phase, Source, Choice, MayCharge, charged}
use Rattle.dk_dispatch.proofs.tables.AllTables.charge.Goals as goal

pub charge_kernel-requires : goal.charge_kernel-requires
charge_kernel-requires g c = subst (λ (z : Choice). MayCharge z c.args.self.now) c.in-Kernel.is c.requires

pub charge_budget-requires : goal.charge_budget-requires
charge_budget-requires g c = subst (λ (z : Choice). MayCharge z c.args.self.now) c.in-Budget.is c.requires

pub charge_slack-requires : goal.charge_slack-requires
charge_slack-requires g c = subst (λ (z : Choice). MayCharge z c.args.self.now) c.in-Slack.is c.requires

pub count-requires : goal.count-requires
count-requires g c = subst (λ (z : Choice). MayCharge z c.args.self.now) c.in-Idle.is c.requires

pub returns-in-Kernel-clause-tables : goal.returns-in-Kernel-clause-tables
returns-in-Kernel-clause-tables g c = c.charge_kernel.ensures.tables ∙ ap (λ (z : Choice). charged z c.args.self.now) (sym c.in-Kernel.is)

pub returns-in-Budget-clause-tables : goal.returns-in-Budget-clause-tables
returns-in-Budget-clause-tables g c = c.charge_budget.ensures.tables Phase.Body ∙ ap (λ (z : Choice). charged z c.args.self.now) (sym c.in-Budget.is)

pub returns-in-Slack-clause-tables : goal.returns-in-Slack-clause-tables
returns-in-Slack-clause-tables g c = c.charge_slack.ensures.tables Source.Timeline Phase.Body ∙ ap (λ (z : Choice). charged z c.args.self.now) (sym c.in-Slack.is)

pub returns-in-Idle-clause-tables : goal.returns-in-Idle-clause-tables
returns-in-Idle-clause-tables g c = c.count.ensures ∙ ap (λ (z : Choice). charged z c.args.self.now) (sym c.in-Idle.is)
