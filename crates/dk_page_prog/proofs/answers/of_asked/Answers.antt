use Rattle.std.proofs.Common.{subst}
use Rattle.std.specs.Prelude.{IfOk, IfSome}
use Rattle.dk_page_prog.specs.Answers.{IsOfFiles}
use Rattle.dk_page_prog.specs.Asking.{asking_of}
use Rattle.dk_page_prog.proofs.Reading.{of_read}
use Rattle.dk_page_prog.proofs.answers.of_asked.Goals as goal

pub returns-clause-is : goal.returns-clause-is
returns-clause-is g c =
    let k = asking_of c.args.asked in
    let h = c.in_ok-held.held in
    let r = c.of_files.result in
    of_read (g.D.Depot.seen c.args.depot.now).files k h r c.in_ok-held.ensures.held
    (subst (λ fs. IfSome fs (λ at. IfOk r (λ a. IsOfFiles at k a h.document.items h.needs.items h.ledger.items))) c.in_ok-held.ensures.same
    c.of_files.ensures.is)
