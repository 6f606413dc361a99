use Rattle.dk_command.proofs.Kept.{does_also}
use Rattle.dk_command.proofs.Names.{run}
use Rattle.dk_command.proofs.prepare.run_work.Goals as goal

pub returns-clause-does : goal.returns-clause-does
returns-clause-does c =
    does_also c.ledger_or_report.result (run c.args.loaded c.args.ticks c.args.output) c.ledger_or_report.ensures.does
    (c.promises_law.ensures c.args.loaded c.args.ticks c.requires.bootable.certified)
