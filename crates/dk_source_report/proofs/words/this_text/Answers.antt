use Rattle.std.proofs.Common.{◌≡◌, ◌∙◌, sym, true}
use Rattle.dk_source_report.specs.Words.{is_printable}
use Rattle.dk_source_report.proofs.Plain.{printable_text}
use Rattle.dk_source_report.proofs.words.this_text.Goals as goal

pub returns-in-Err : goal.returns-in-Err
returns-in-Err c =
    let printable : is_printable c.args.text.now ≡ true = sym c.is_printable.ensures ∙ c.if-not-is_printable.false in
    absurd (c.in-Err.ensures.cases.0 (printable_text c.args.text.now printable))
