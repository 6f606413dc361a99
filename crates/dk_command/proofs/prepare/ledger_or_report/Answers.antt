use Rattle.dk_command.proofs.Names.{◌≡◌, ◌∙◌, ap, refl, rules, subst, sym, Err, Running, Makes, Fails, heading, run, WritesFor}
use Rattle.dk_inputs.specs.declared.refusal.Refusal.TheVariants as why
use Rattle.dk_command.proofs.Started.{is_loaded, run_certified, run_counts, run_ready, run_writes}
use Rattle.dk_command.proofs.prepare.ledger_or_report.Goals as goal

pub returns-in-Ledger-clause-does : goal.returns-in-Ledger-clause-does
returns-in-Ledger-clause-does c =
    run_writes c.args.loaded c.in_ok-kernel.kernel c.args.header c.args.ticks c.in_ok-kernel.ensures.start c.requires.bootable c.args.output c.in-Ledger.is

pub returns-in-Ledger-clause-ready : goal.returns-in-Ledger-clause-ready
returns-in-Ledger-clause-ready c =
    run_ready c.args.loaded c.in_ok-kernel.kernel c.args.header c.args.ticks c.in_ok-kernel.ensures.start c.requires.bootable c.requires.few

pub report_of_run-requires-clause-certified : goal.report_of_run-requires-clause-certified
report_of_run-requires-clause-certified c =
    run_certified c.args.loaded c.in_ok-kernel.kernel c.args.header c.args.ticks c.in_ok-kernel.ensures.start c.requires.bootable

pub report_of_run-requires-clause-header : goal.report_of_run-requires-clause-header
report_of_run-requires-clause-header c = c.requires.bootable.heads ∙ ap (λ (k : Running). heading k.config) (sym c.in_ok-kernel.ensures.start)

pub returns-in-Report-clause-does : goal.returns-in-Report-clause-does
returns-in-Report-clause-does c =
    run_counts c.args.loaded c.in_ok-kernel.kernel c.args.header c.args.ticks c.in_ok-kernel.ensures.start c.requires.bootable c.report_of_run.result c.args.output c.in-Report.is c.report_of_run.ensures.does

pub returns-in_err-kernel-clause-does : goal.returns-in_err-kernel-clause-does
returns-in_err-kernel-clause-does c =
    let is : c.from_residual.result ≡ Err why.NoMemory = search rules in
    subst (λ r. Makes WritesFor Fails r (run c.args.loaded c.args.ticks c.args.output)) (sym is) (refl, λ quiet. cc)

pub booted-requires : goal.booted-requires
booted-requires c = is_loaded c.args.header c.args.loaded c.requires.bootable
