use Rattle.std.proofs.Common.{◌∙◌, ap}
use Rattle.dk_needs_run.specs.Run.{faults_in, refused_in}
use Rattle.dk_needs_run.proofs.Said.{both_say}
use Rattle.dk_needs_run.proofs.reading.run_of.Goals as goal

pub returns-clause-run : goal.returns-clause-run
returns-clause-run c =
    both_say c.args.config.now c.args.bytes.now c.in_ok-report.report.heading c.in_ok-report.report.kept _ c.one_to_one.ensures
    c.in_ok-audit.ensures.found c.in_ok-report.ensures.kept c.overruns.ensures
    (c.refused_in.ensures ∙ ap refused_in c.accounts-accounts.ensures) (c.faults_in.ensures ∙ ap faults_in c.accounts-accounts.ensures)
