use Rattle.dk_command.proofs.Inspected.{is_header}
use Rattle.dk_command.proofs.prepare.report_of_run.Goals as goal

pub totals_of_run-counted-requires-clause-header : goal.totals_of_run-counted-requires-clause-header
totals_of_run-counted-requires-clause-header c = is_header c.args.kernel.config c.args.header c.requires.header
