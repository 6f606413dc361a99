use Rattle.dk_document_report.proofs.Cutting.{all-cut}
use Rattle.dk_document_report.proofs.marks.ends_of_expressions.Goals as goal

pub returns : goal.returns
returns c =
    let cuts = c.loop-at.cuts in
    all-cut c.args.bytes.now cuts.ends.items cuts.start cuts.wait c.loop-at.at c.loop-at-test.false c.loop-at.auto.at-end c.loop-at.invariant
