use Rattle.dk_show.proofs.Names.{ℕ, ◌≡◌, ◌≤◌, ◌∙◌, List, length, ap, arith, subst, Result, Work, Refusal, Configuration, ComesTo}
use Rattle.std.specs.Prelude.{[], ◌∷◌}
use Rattle.dk_show_request.specs.declared.allotments.Allotment.{Allotment}
use Rattle.dk_show_request.specs.Slack.{SlackAsk}
use Rattle.show_rows.specs.declared.row.Form.{Form}
use Rattle.dk_show.specs.Slacks.{IsOfAllotments, IsOfFit, slack_form, ticks_by, unfit_text}
use Rattle.dk_show.proofs.slacks.of_slack.Goals as goal

of_some : (xs : List Allotment) (form : Form) (k : Configuration) (result : Result Work Refusal) → 1 ≤ length xs
    → ComesTo (IsOfFit (unfit_text k.processes xs) form k (ticks_by k.processes xs)) result → ComesTo (IsOfAllotments xs form k) result
of_some [] form k result some comes = absurd (omega (arith, some))
of_some (x ∷ xs) form k result some comes = comes

pub returns-clause-comes : goal.returns-clause-comes
returns-clause-comes c =
    let r = c.args.request.now in
    let result = c.of_allotments.result in
    let certified = c.in_ok-certified.certified in
    let xs = c.as_slice.ensures.value ∙ ap (λ (a : SlackAsk). a.allotments) c.request.view_is in
    let form = c.slack_form-form.ensures ∙ ap (λ (a : SlackAsk). slack_form a.as_csv) c.request.view_is in
    let here = of_some c.as_slice.result.now c.slack_form-form.result certified result c.in_default.len_at_least c.of_allotments.ensures.comes in
    subst (λ (k : Configuration). ComesTo (IsOfAllotments r.allotments (slack_form r.as_csv) k) result) c.in_ok-certified.ensures
    (subst (λ (f : Form). ComesTo (IsOfAllotments r.allotments f certified) result) form
    (subst (λ (ys : List Allotment). ComesTo (IsOfAllotments ys c.slack_form-form.result certified) result) xs here))
