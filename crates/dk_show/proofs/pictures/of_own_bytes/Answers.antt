use Rattle.dk_show.proofs.Names.{inl, inr, refl, sym, rules, Journal, IsOfOwnPicture, IsPictureUnder}
use Rattle.dk_show.proofs.Coming.{comes_wider}
use Rattle.dk_show.proofs.pictures.of_own_bytes.Goals as goal

pub of_own-requires-clause-ledger : goal.of_own-requires-clause-ledger
of_own-requires-clause-ledger c =
    let all = c.in-Ok.ensures.ok in
    let read = all.1 in
    let j : Journal = record { heading = c.in-Ok.survey.header; entries = all.0 } in
    (j, record { readable = read.readable; text = read.text; heading = refl; count = sym all.2 })

pub returns-in-Ok-clause-comes : goal.returns-in-Ok-clause-comes
returns-in-Ok-clause-comes c =
    let all = c.in-Ok.ensures.ok in
    let read = all.1 in
    let j : Journal = record { heading = c.in-Ok.survey.header; entries = all.0 } in
    comes_wider (IsPictureUnder c.args.config.now c.args.range j) (IsOfOwnPicture c.args.config.now c.args.range c.args.bytes.now)
    (λ t s drawn. inr (record { ledger = j; readable = read.readable; bytes_are = read.text; drawn = drawn }))
    c.of_own.result (c.of_own.ensures.comes j (record { readable = read.readable; text = read.text; heading = refl; count = sym all.2 }))

pub returns-in-Err-Line-clause-comes : goal.returns-in-Err-Line-clause-comes
returns-in-Err-Line-clause-comes c = λ told.
    let n = c.in-Err-Line.line in
    let found = c.survey_ledger.ensures.line n (cc) in
    inl (record { line = n; wrong = found.0; none = found.1; says = search rules })
