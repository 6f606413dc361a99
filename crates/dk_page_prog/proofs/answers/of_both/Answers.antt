use Rattle.std.proofs.Common.{inl, inr, refl}
use Rattle.std.specs.Prelude.{Some}
use Rattle.dk_review.specs.Files.{file_of}
use Rattle.dk_review.specs.Reviews.{IsOfOther}
use Rattle.dk_review.specs.declared.fault.RunFault.TheVariants as why
use Rattle.dk_page_prog.specs.Answers.{IsOfAll}
use Rattle.dk_page_prog.proofs.Faults.{fault_is}
use Rattle.dk_page_prog.proofs.Reading.{wider}
use Rattle.dk_page_prog.proofs.answers.of_both.Goals as goal

pub returns-in-Ok-clause-is : goal.returns-in-Ok-clause-is
returns-in-Ok-clause-is c =
    inl (record { review = c.in-Ok.review; is = c.in-Ok.ensures.is; bytes = refl; ends = c.ended_of.ensures })

pub returns-in-Err-Line-clause-is : goal.returns-in-Err-Line-clause-is
returns-in-Err-Line-clause-is c =
    let n = c.in-Err-Line.line in
    let document = c.args.file.bytes.now in
    let bytes = c.args.ledger.bytes.now in
    let range = c.args.range in
    let found = fault_is (IsOfOther document bytes) range bytes c.review_with.result c.in-Err-Line.field-0 (why.Line n) c.review_with.ensures.fault c.in-Err-Line.is c.in-Err-Line.field-0-is in
    wider _ (IsOfAll (file_of c.args.file) _ (Some (file_of c.args.ledger)) range c.args.more.now) c.line_answer.result
    (λ a says. inr (inl (n, found.0, found.1, says))) c.line_answer.ensures.is

pub returns-in-Err-Ends-clause-is : goal.returns-in-Err-Ends-clause-is
returns-in-Err-Ends-clause-is c =
    let n = c.in-Err-Ends.ticks in
    let document = c.args.file.bytes.now in
    let bytes = c.args.ledger.bytes.now in
    let range = c.args.range in
    let found = fault_is (IsOfOther document bytes) range bytes c.review_with.result c.in-Err-Ends.field-0 (why.Ends n) c.review_with.ensures.fault c.in-Err-Ends.is c.in-Err-Ends.field-0-is in
    wider _ (IsOfAll (file_of c.args.file) _ (Some (file_of c.args.ledger)) range c.args.more.now) c.ends_answer.result
    (λ a says. inr (inr (inr (n, found, says)))) c.ends_answer.ensures.is

pub returns-in-Err-Other-clause-is : goal.returns-in-Err-Other-clause-is
returns-in-Err-Other-clause-is c =
    let document = c.args.file.bytes.now in
    let bytes = c.args.ledger.bytes.now in
    let range = c.args.range in
    let found = fault_is (IsOfOther document bytes) range bytes c.review_with.result c.in-Err-Other.field-0 why.Other c.review_with.ensures.fault c.in-Err-Other.is c.in-Err-Other.field-0-is in
    wider _ (IsOfAll (file_of c.args.file) _ (Some (file_of c.args.ledger)) range c.args.more.now) c.words_answer.result
    (λ a says. inr (inr (inl (found, says)))) c.words_answer.ensures.is
