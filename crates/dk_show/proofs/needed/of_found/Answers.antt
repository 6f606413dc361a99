use Rattle.dk_show.proofs.Names.{subst, sym, Checking, AreRowsTold, AreUnknownTold, IsTold, ComesTo}
use Rattle.dk_show.proofs.needed.of_found.Goals as goal

pub returns-in-Unknown-clause-comes : goal.returns-in-Unknown-clause-comes
returns-in-Unknown-clause-comes c =
    let f = c.args.form in
    let l = c.args.layout in
    let needs = c.args.needs.now in
    let result = c.of_unknown.result in
    subst (λ (x : Checking). ComesTo (IsTold f l needs x) result) (sym c.in-Unknown.is)
    (subst (λ items. ComesTo (AreUnknownTold needs items) result) c.as_slice.ensures.value c.of_unknown.ensures.comes)

pub returns-in-Decided-clause-comes : goal.returns-in-Decided-clause-comes
returns-in-Decided-clause-comes c =
    let f = c.args.form in
    let l = c.args.layout in
    let needs = c.args.needs.now in
    let result = c.of_decided.result in
    subst (λ (x : Checking). ComesTo (IsTold f l needs x) result) (sym c.in-Decided.is)
    (subst (λ items. ComesTo (AreRowsTold f l needs items) result) c.as_slice-in-Decided.ensures.value c.of_decided.ensures.comes)
