use Rattle.dk_command.proofs.Names.{◌≡◌, ◌∙◌, ap, refl, rules, subst, sym, Err, Workload, Makes, state, workload_of, Does, Fails, heading}
use Rattle.dk_inputs.specs.declared.refusal.Refusal.TheVariants as why
use Rattle.dk_command.proofs.Inspected.{is_header, shows}
use Rattle.dk_command.proofs.Started.{is_loaded, run_certified}
use Rattle.dk_command.proofs.inspecting.state_work.Goals as goal

pub returns-clause-ready : goal.returns-clause-ready
returns-clause-ready c =
    is_header c.run_ticks.new.kernel.config c.args.header
    (c.requires.bootable.heads ∙ ap (λ (w : Workload). heading w.config) (sym (c.run_ticks.ensures.same ∙ ap workload_of c.in_ok-kernel.ensures.start)))

pub returns-clause-does : goal.returns-clause-does
returns-clause-does c =
    shows c.args.loaded c.run_ticks.new.kernel c.args.header c.args.ticks (c.run_ticks.ensures.same ∙ ap workload_of c.in_ok-kernel.ensures.start) c.run_ticks.ensures.now

pub returns-in_err-kernel-clause-does : goal.returns-in_err-kernel-clause-does
returns-in_err-kernel-clause-does c =
    let is : c.from_residual.result ≡ Err why.NoMemory = search rules in
    subst (λ r. Makes Does Fails r (state c.args.loaded c.args.ticks)) (sym is) (refl, λ quiet. cc)

pub run_ticks-requires-clause-certified : goal.run_ticks-requires-clause-certified
run_ticks-requires-clause-certified c =
    run_certified c.args.loaded c.in_ok-kernel.kernel c.args.header c.args.ticks c.in_ok-kernel.ensures.start c.requires.bootable

pub booted-requires : goal.booted-requires
booted-requires c = is_loaded c.args.header c.args.loaded c.requires.bootable
