use Rattle.dk_show.proofs.Names.{◌∙◌, inl, inr, refl, subst, Journal, IsNoText, IsWrongLine, IsOfBytes}
use Rattle.dk_show.proofs.Coming.{comes_wider}
use Rattle.dk_show.proofs.making.of_bytes.Goals as goal

pub returns-in-Ok-clause-comes : goal.returns-in-Ok-clause-comes
returns-in-Ok-clause-comes c =
    let all = c.in-Ok.ensures.ok in
    let read = all.1 in
    let j : Journal = record { heading = c.in-Ok.survey.header; entries = all.0 } in
    let text = read.text ∙ c.as_slice.ensures.value in
    comes_wider _ (IsOfBytes c.args.request.now c.args.bytes.items)
    (λ t s drawn. inr (record { ledger = j; readable = read.readable; bytes_are = text; drawn = drawn }))
    c.within.result (c.within.ensures.comes j read.readable text all.2)

pub returns-in-Err-Line-clause-comes : goal.returns-in-Err-Line-clause-comes
returns-in-Err-Line-clause-comes c = λ told.
    let n = c.in-Err-Line.line in
    let found = c.survey_ledger.ensures.line n (cc) in
    inl (record {
      line = n;
      wrong = subst (IsWrongLine n) c.as_slice.ensures.value found.0;
      none = subst IsNoText c.as_slice.ensures.value found.1;
      says = (refl, refl);
    })
