use Rattle.dk_dispatch.proofs.Names.{◌≡◌, ◌∙◌, ap, false, not, sym, true, first_unfit, Tables, fits_in}
use Rattle.dk_dispatch.proofs.Looking.{fits-where-none, slack-is-chosen, unfit-where-some, work-is-chosen}
use Rattle.dk_dispatch.proofs.tables.AllTables.choose.Goals as goal

pub returns-then-is_none-clause-told : goal.returns-then-is_none-clause-told
returns-then-is_none-clause-told g c =
    let d = c.args.self.now in
    let unfit = c.first_unfit.ensures ∙ ap (λ (t : Tables). first_unfit t.demand) c.self.view_is in
    let fits : fits_in d ≡ true = fits-where-none d c.first_unfit.result unfit (c.is_none.ensures ∙ ap not c.if-is_none.true) in
    c.on_slack.ensures ∙ sym (slack-is-chosen d c.first_work-work.result c.in-Some.node c.first_work-work.ensures.told c.in-Some.ensures.told fits)

pub returns-else-is_none-clause-told : goal.returns-else-is_none-clause-told
returns-else-is_none-clause-told g c =
    let d = c.args.self.now in
    let unfit = c.first_unfit.ensures ∙ ap (λ (t : Tables). first_unfit t.demand) c.self.view_is in
    let off : fits_in d ≡ false = unfit-where-some d c.first_unfit.result unfit (c.is_none.ensures ∙ ap not c.if-is_none.false) in
    sym (work-is-chosen d c.first_work-work.result c.first_work-work.ensures.told (λ on. let no : true ≡ false = sym on ∙ off in absurd (cc)))

pub returns-in_default-clause-told : goal.returns-in_default-clause-told
returns-in_default-clause-told g c =
    sym (work-is-chosen c.args.self.now c.first_work-work.result c.first_work-work.ensures.told (λ on. c.in_default.ensures.told))
