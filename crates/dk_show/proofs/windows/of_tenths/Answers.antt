use Rattle.dk_show.proofs.Names.{◌∙◌, inl, inr, refl, rules}
use Rattle.dk_show.proofs.windows.of_tenths.Goals as goal

pub returns-in-Ok-clause-comes : goal.returns-in-Ok-clause-comes
returns-in-Ok-clause-comes c = λ text has.
    let all = c.in-Ok.ensures.told in
    inr (record { ledger = all.0; readable = all.1; bytes_are = all.2; told = (has ∙ all.3, refl) })

pub returns-in-Err-Line-clause-comes : goal.returns-in-Err-Line-clause-comes
returns-in-Err-Line-clause-comes c = λ told.
    let n = c.in-Err-Line.line in
    let found = c.tenths_csv.ensures.line n (cc) in
    inl (record { line = n; wrong = found.0; none = found.1; says = search rules })
