use Rattle.dk_slack.proofs.Names.{◌∙◌, sym, ap, row_of}
use Rattle.dk_slack.proofs.Tables.{amount-read, no_wish-read}
use Rattle.dk_slack.proofs.table.SlackTable.want.Goals as goal

pub returns-clause-amount : goal.returns-clause-amount
returns-clause-amount c =
    sym (amount-read _ _ _ _ _ _ c.self.invariant.0 c.self.view_is c.args.node c.row_of.result
    (c.row_of.ensures ∙ ap (λ rows. row_of rows c.args.node) c.deref.ensures.value))

pub returns-clause-none : goal.returns-clause-none
returns-clause-none c =
    no_wish-read _ _ _ _ _ _ c.self.invariant.0 c.self.view_is c.args.node c.row_of.result
    (c.row_of.ensures ∙ ap (λ rows. row_of rows c.args.node) c.deref.ensures.value)
