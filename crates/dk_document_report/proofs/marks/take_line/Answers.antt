use Rattle.std.proofs.Common.{◌≡◌, ◌+◌, true, arith}
use Rattle.std.specs.Prelude.{slice_range}
use Rattle.std.proofs.lemmas.Grind.{common_steps}
use Rattle.dk_document_report.specs.Expressions.{is_document}
use Rattle.dk_document_report.proofs.Cutting.{cut-ended}
use Rattle.dk_document_report.proofs.marks.take_line.Goals as goal

pub returns : goal.returns
returns c =
    let cuts = c.args.cuts.now in
    let bytes = c.args.bytes.now in
    let itself : is_document (slice_range bytes cuts.start (c.args.at + 1)) ≡ true = grind (arith, common_steps, c.in_ok-is_document.ensures, c.if-not-branch.false) in
    rw (c.in_ok-push.ensures.items) (cut-ended bytes cuts.ends.items cuts.start cuts.wait c.args.at c.requires.cut c.requires.within c.requires.line itself)
