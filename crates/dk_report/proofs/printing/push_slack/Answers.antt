use Rattle.std.proofs.Common.{◌∙◌, ap, ◌++◌}
use Rattle.std.specs.Prelude.{codes, decimal}
use Rattle.dk_report.proofs.ReportLemmas.{ten_pieces}
use Rattle.dk_report.proofs.printing.push_slack.Goals as goal

pub returns-clause-bytes : goal.returns-clause-bytes
returns-clause-bytes c =
    (c.number-5.ensures.bytes ∙ ap (λ x. x ++ decimal c.args.totals.faults) (c.word-5.ensures.bytes ∙ ap (λ x. x ++ codes " faults ") (c.number-4.ensures.bytes ∙ ap (λ x. x ++ decimal c.args.totals.refused) (c.word-4.ensures.bytes ∙ ap (λ x. x ++ codes " refused ") (c.number-3.ensures.bytes ∙ ap (λ x. x ++ decimal c.args.totals.created) (c.word-3.ensures.bytes ∙ ap (λ x. x ++ codes " created ") (c.number-2.ensures.bytes ∙ ap (λ x. x ++ decimal c.args.totals.reclaimed) (c.word-2.ensures.bytes ∙ ap (λ x. x ++ codes " reclaimed ") (c.number.ensures.bytes ∙ ap (λ x. x ++ decimal c.args.totals.timeline) (c.word.ensures.bytes))))))))))
    ∙ ten_pieces c.args.text.now (codes " timeline ") (decimal c.args.totals.timeline) (codes " reclaimed ") (decimal c.args.totals.reclaimed) (codes " created ") (decimal c.args.totals.created) (codes " refused ") (decimal c.args.totals.refused) (codes " faults ") (decimal c.args.totals.faults)
