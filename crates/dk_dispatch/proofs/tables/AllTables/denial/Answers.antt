use Rattle.dk_dispatch.proofs.Names.{◌≡◌, ◌∙◌, Bool, Some, None, ap, false, true, if◌then◌else◌, first_unfit, Tables, claims_slack}
use Rattle.dk_dispatch.proofs.Looking.{is-claimed}
use Rattle.dk_dispatch.proofs.tables.AllTables.denial.Goals as goal

pub returns-in-Some-clause-told : goal.returns-in-Some-clause-told
returns-in-Some-clause-told g c =
    let d = c.args.self.now in
    let on : true ≡ claims_slack d = is-claimed d c.first_work-work.result (Some _) c.first_work-work.ensures.told c.in-Some.ensures.told in
    c.first_unfit.ensures ∙ ap (λ (t : Tables). first_unfit t.demand) c.self.view_is
    ∙ ap (λ (b : Bool). if b then first_unfit d.demand else None) on

pub returns-in-None-clause-told : goal.returns-in-None-clause-told
returns-in-None-clause-told g c =
    let d = c.args.self.now in
    let off : false ≡ claims_slack d = is-claimed d c.first_work-work.result None c.first_work-work.ensures.told c.in-None.ensures.told in
    ap (λ (b : Bool). if b then first_unfit d.demand else None) off
