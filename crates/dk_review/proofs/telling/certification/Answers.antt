use Rattle.std.proofs.Common.{refl, sym, ◌∙◌}
use Rattle.dk_review.proofs.Verdicts.{same_fails, same_verdict}
use Rattle.dk_review.proofs.telling.certification.Goals as goal

pub returns-in-Accepted : goal.returns-in-Accepted
returns-in-Accepted c =
    same_verdict c.args.layout.now _ _ _ (sym c.verdict_for.ensures ∙ c.in-Accepted.is) c.certified.ensures

pub returns-in-Fails : goal.returns-in-Fails
returns-in-Fails c = same_fails c.args.layout.now _ _ _ (sym c.verdict_for.ensures ∙ c.in-Fails.is) refl
