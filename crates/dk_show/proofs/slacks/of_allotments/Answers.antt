use Rattle.dk_show.proofs.Names.{ℕ, ◌≡◌, ◌∙◌, List, sym, ap, subst, refl, Option, None, ComesTo}
use Rattle.dk_config.specs.declared.rows.ProcessRow.{ProcessRow}
use Rattle.dk_show.specs.declared.status.Status.TheVariants as status
use Rattle.dk_show.specs.Slacks.{IsOfFit, ticks_by, unfit_text}
use Rattle.dk_show.proofs.slacks.of_allotments.Goals as goal

pub returns-in-Some-clause-comes : goal.returns-in-Some-clause-comes
returns-in-Some-clause-comes c text is =
    let certified = c.args.certified.now in
    let xs = c.args.allotments.now in
    let unfit = sym c.in-Some.is ∙ c.in_ok-page.ensures ∙ ap (λ (rows : List ProcessRow). unfit_text rows xs) c.rows_of-rows.ensures in
    subst (λ (o : Option (List ℕ)). IsOfFit o c.args.form certified (ticks_by certified.processes xs) text status.Refused) unfit (is, refl)

pub returns-in_ok-ticks-in-None-clause-comes : goal.returns-in_ok-ticks-in-None-clause-comes
returns-in_ok-ticks-in-None-clause-comes c =
    let certified = c.args.certified.now in
    let xs = c.args.allotments.now in
    let unfit = sym c.in-None.is ∙ c.in_ok-page.ensures ∙ ap (λ (rows : List ProcessRow). unfit_text rows xs) c.rows_of-rows.ensures in
    let ticks = c.as_slice.ensures.value ∙ c.in_ok-ticks-in-None.ensures ∙ ap (λ (rows : List ProcessRow). ticks_by rows xs) c.rows_of-rows.ensures in
    subst (λ (o : Option (List ℕ)). ComesTo (IsOfFit o c.args.form certified (ticks_by certified.processes xs)) c.of_ticks.result) unfit
    (subst (λ (ns : List ℕ). ComesTo (IsOfFit None c.args.form certified ns) c.of_ticks.result) ticks c.of_ticks.ensures.comes)
