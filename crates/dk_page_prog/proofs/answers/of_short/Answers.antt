use Rattle.dk_page_prog.specs.Asking.{asking_of}
use Rattle.dk_page_prog.proofs.Reading.{more_told}
use Rattle.dk_page_prog.proofs.answers.of_short.Goals as goal

pub returns-in-Ok-clause-is : goal.returns-in-Ok-clause-is
returns-in-Ok-clause-is g c =
    let held = c.args.held.now in
    more_told (g.D.Depot.seen c.args.depot.now).files (asking_of c.args.asked) held.document.items held.needs.items held.ledger.items _
    c.in-Ok.more c.of_more.result c.as_slice.ensures.value c.in-Ok.ensures.comes c.of_more.ensures.is
