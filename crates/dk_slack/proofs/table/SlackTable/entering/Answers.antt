use Rattle.dk_slack.proofs.Names.{◌∙◌, ap, row_of}
use Rattle.dk_slack.proofs.Tables.{entering-read, nothing-read}
use Rattle.dk_slack.proofs.table.SlackTable.entering.Goals as goal

pub returns-then-row-gt0 : goal.returns-then-row-gt0
returns-then-row-gt0 c =
    entering-read _ _ _ _ _ _ c.self.invariant.0 c.self.view_is c.args.node c.row_of-row.result
    (c.row_of-row.ensures ∙ ap (λ rows. row_of rows c.args.node) c.deref.ensures.value) c.if-row-gt0.true

pub returns-else-row-gt0 : goal.returns-else-row-gt0
returns-else-row-gt0 c =
    nothing-read _ _ _ _ _ _ c.self.invariant.0 c.self.view_is c.args.node c.row_of-row.result
    (c.row_of-row.ensures ∙ ap (λ rows. row_of rows c.args.node) c.deref.ensures.value) c.if-row-gt0.false
