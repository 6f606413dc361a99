use Rattle.std.proofs.Common.{◌≡◌, ◌∙◌, true, false, ap, subst}
use Rattle.std.proofs.lemmas.Result.{IfOk-weaker}
use Rattle.dk_config.specs.Configuration.{Configuration}
use Rattle.dk_loader.specs.Workload.{Workload}
use Rattle.dk_slack_promise.specs.Allotted.{IsAllotted}
use Rattle.dk_allotment.specs.Given.{given}
use Rattle.dk_needs.specs.Wanted.{Wanted}
use Rattle.dk_needs_check.specs.Meaning.{asked_allotments}
use Rattle.dk_needs_always.specs.Deciding.{AreKept, AreNotKept}
use Rattle.dk_needs_always.specs.Lending.{KeepForEver, TakesMoreIn}
use Rattle.dk_needs_always.specs.Telling.{has_if_kept}
use Rattle.dk_needs_always.proofs.deciding.are_kept.Goals as goal

pub returns-clause-kept : goal.returns-clause-kept
returns-clause-kept c =
    let w = c.args.loaded.now in
    let needs = c.args.needs.now.rows in
    let config : c.loaded.inside.config ≡ w.config = ap (λ (v : Workload). v.config) c.loaded.view_is in
    let rows = c.deref.ensures.value ∙ ap (λ (v : Wanted). v.rows) c.needs.view_is in
    let is = c.in_ok-allotments.ensures.asked ∙ ap (asked_allotments c.loaded.inside.config) rows ∙ ap (λ (z : Configuration). asked_allotments z needs) config in
    let asked = c.as_slice-in-None.ensures.value ∙ is in
    let fit : IsAllotted w.config (given (asked_allotments w.config needs)) =
    subst (λ (z : Configuration). IsAllotted z (given (asked_allotments w.config needs))) config (subst (λ xs. IsAllotted c.loaded.inside.config (given xs)) (c.as_slice.ensures.value ∙ is) c.in-None.ensures) in
    IfOk-weaker c.keep_for_ever.result (λ kept. kept ≡ true → KeepForEver w.config w.programs (given c.as_slice-in-None.result.now)) (λ kept. kept ≡ true → AreKept w needs)
    (λ kept keep yes. record { fit = fit; keep = subst (λ xs. KeepForEver w.config w.programs (given xs)) asked (keep yes) }) c.keep_for_ever.ensures.kept

pub returns-clause-lost : goal.returns-clause-lost
returns-clause-lost c =
    let w = c.args.loaded.now in
    let needs = c.args.needs.now.rows in
    let config : c.loaded.inside.config ≡ w.config = ap (λ (v : Workload). v.config) c.loaded.view_is in
    let rows = c.deref.ensures.value ∙ ap (λ (v : Wanted). v.rows) c.needs.view_is in
    let is = c.in_ok-allotments.ensures.asked ∙ ap (asked_allotments c.loaded.inside.config) rows ∙ ap (λ (z : Configuration). asked_allotments z needs) config in
    let asked = c.as_slice-in-None.ensures.value ∙ is in
    IfOk-weaker c.keep_for_ever.result (λ kept. kept ≡ false → TakesMoreIn w.config w.programs (given c.as_slice-in-None.result.now) c.args.told.cycle)
    (λ kept. kept ≡ false → has_if_kept c.args.rows.now ≡ true → AreNotKept w needs c.args.told)
    (λ kept more no asks fit. subst (λ xs. TakesMoreIn w.config w.programs (given xs) c.args.told.cycle) asked (more no)) c.keep_for_ever.ensures.lost
