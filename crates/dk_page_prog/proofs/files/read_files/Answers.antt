use Rattle.std.proofs.Common.{◌∙◌}
use Rattle.dk_config.specs.declared.TheConstants.{MAX_CONFIG_BYTES, MAX_LEDGER_BYTES}
use Rattle.dk_page_prog.specs.Asking.{asking_of}
use Rattle.dk_page_prog.proofs.Reading.{all_read, read_later}
use Rattle.dk_page_prog.proofs.files.read_files.Goals as goal

pub returns-clause-held : goal.returns-clause-held
returns-clause-held g c =
    let files = (g.D.Depot.seen c.args.depot.now).files in
    let first = c.in_ok-document.ensures in
    let second = c.in_ok-needs.ensures in
    let third = c.in_ok-ledger.ensures in
    all_read files (asking_of c.args.asked)
    (record { document = c.in_ok-document.document; needs = c.in_ok-needs.needs; ledger = c.in_ok-ledger.ledger }) first.held
    (read_later _ files _ MAX_CONFIG_BYTES c.in_ok-needs.needs.items first.same second.held)
    (read_later _ files _ MAX_LEDGER_BYTES c.in_ok-ledger.ledger.items (second.same ∙ first.same) third.held)
