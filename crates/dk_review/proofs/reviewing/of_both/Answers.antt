use Rattle.std.proofs.Common.{sym, ◌∙◌}
use Rattle.dk_review.proofs.Verdicts.{by_verdict}
use Rattle.dk_review.proofs.reviewing.of_both.Goals as goal

pub returns-in-Accepted-clause-is : goal.returns-in-Accepted-clause-is
returns-in-Accepted-clause-is c =
    by_verdict _ _ c.args.config.now _ _ _ (sym c.certify.ensures.verdict ∙ c.in-Accepted.is) c.of_run.ensures.is
