use Rattle.std.proofs.Common.{ℕ, refl, subst, sym}
use Rattle.dk_ledger.specs.Readable.{IsNoText, IsWrongLine, Journal}
use Rattle.dk_review.proofs.drawing.drawing_of.Goals as goal

pub within-requires : goal.within-requires
within-requires c =
    let all = c.in-Ok.ensures.ok in
    let read = all.1 in
    let j : Journal = record { heading = c.in-Ok.survey.header; entries = all.0 } in
    (j, record { readable = read.readable; text = read.text; heading = refl; count = sym all.2 })

pub returns-in-Err-Line-clause-fault : goal.returns-in-Err-Line-clause-fault
returns-in-Err-Line-clause-fault c =
    let bytes = c.args.bytes.now in
    subst (λ (n : ℕ). IsWrongLine n bytes × IsNoText bytes) (sym c.in-Err-Line.line-is) (c.survey_ledger.ensures.line c.in-Err-Line.line (cc))
