use Rattle.std.proofs.Common.{sym, ◌∙◌}
use Rattle.dk_review.proofs.Verdicts.{by_verdict}
use Rattle.dk_review.proofs.reviewing.of_config.Goals as goal

pub returns-in-Accepted : goal.returns-in-Accepted
returns-in-Accepted c =
    by_verdict _ _ c.args.config.now _ _ _ (sym c.certify.ensures.verdict ∙ c.in-Accepted.is) c.of_certified.ensures

pub returns-in-Fails : goal.returns-in-Fails
returns-in-Fails c =
    by_verdict _ _ c.args.config.now _ _ _ (sym c.certify.ensures.verdict ∙ c.in-Fails.is) c.of_uncertified.ensures
