use Rattle.dk_show.proofs.Names.{inl, inr, refl, subst, sym, rules, Journal, Promised, nothing_promised, IsOfPicture, IsPicture, ComesTo}
use Rattle.dk_show.proofs.Coming.{comes_wider}
use Rattle.dk_show.proofs.pictures.of_bytes.Goals as goal

pub within-requires : goal.within-requires
within-requires c =
    let all = c.in-Ok.ensures.ok in
    let read = all.1 in
    let j : Journal = record { heading = c.in-Ok.survey.header; entries = all.0 } in
    (j, record { readable = read.readable; text = read.text; heading = refl; count = sym all.2 })

pub returns-in-Ok-clause-comes : goal.returns-in-Ok-clause-comes
returns-in-Ok-clause-comes c =
    let all = c.in-Ok.ensures.ok in
    let read = all.1 in
    let j : Journal = record { heading = c.in-Ok.survey.header; entries = all.0 } in
    let comes = c.within.ensures.comes j (record { readable = read.readable; text = read.text; heading = refl; count = sym all.2 }) in
    comes_wider (IsPicture nothing_promised c.args.range j) (IsOfPicture c.args.range c.args.bytes.now)
    (λ t s drawn. inr (record { ledger = j; readable = read.readable; bytes_are = read.text; drawn = drawn }))
    c.within.result (subst (λ (x : Promised). ComesTo (IsPicture x c.args.range j) c.within.result) c.none-promise.ensures comes)

pub returns-in-Err-Line-clause-comes : goal.returns-in-Err-Line-clause-comes
returns-in-Err-Line-clause-comes c = λ told.
    let n = c.in-Err-Line.line in
    let found = c.survey_ledger.ensures.line n (cc) in
    inl (record { line = n; wrong = found.0; none = found.1; says = search rules })
