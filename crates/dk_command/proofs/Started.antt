-- The work of a run whose kernel has done no tick.
use Rattle.dk_command.proofs.Names.{ℕ, ◌≡◌, ◌≤◌, ◌∙◌, length, refl, sym, ap, subst, Result, length-map, MAX_RUN_TICKS, Heading, line_of_row, ledger_text, Workload, IsLoaded, Running, Output, Refusal, Makes, CanBoot, IsCertified, run, Work, Fails, IsReady, WritesFor, workload_of}
use Rattle.dk_request.specs.declared.output.Output.TheVariants as asked
use Rattle.dk_command.specs.declared.work.Work.TheVariants as work

pub is_loaded : (h : Heading) (w : Workload) → CanBoot h w → IsLoaded w
is_loaded h w can = record { checked = can.certified.checked; limits = can.limits; accepted = can.certified.accepted; programs = can.programs; sizes = can.sizes }

abbrev pub started : Workload → Running
started w = record { config = w.config; programs = w.programs; ticks = 0 }

module _ (w : Workload) (k : Running) (h : Heading) (ticks : ℕ) (start : k ≡ started w) (can : CanBoot h w) where
  pub run_writes : (output : Output) → output ≡ asked.Ledger → WritesFor (work.Run k h ticks) (run w ticks output)
  run_writes output is = subst (λ (o : Output). WritesFor (work.Run k h ticks) (run w ticks o)) (sym is)
      (subst (λ (r : Running). WritesFor (work.Run r h ticks) (run w ticks asked.Ledger)) (sym start)
      (λ text has. (let (es, entries, wrote) = has in (es, entries, wrote ∙ ap (λ g. ledger_text g es) can.heads))))

  pub run_ready : ticks ≤ MAX_RUN_TICKS → IsReady (work.Run k h ticks)
  run_ready few = subst (λ (r : Running). IsReady (work.Run r h ticks)) (sym start)
      (refl, can.certified, few, can.printable, ap (λ (g : Heading). length g.processes) can.heads ∙ length-map w.config.processes line_of_row)

  -- the report of the kernel's run is that of the workload's
  pub run_counts : (r : Result Work Refusal) (output : Output) → output ≡ asked.Report → Makes WritesFor Fails r (run (workload_of k) ticks asked.Report) → Makes WritesFor Fails r (run w ticks output)
  run_counts r output is does = subst (λ (o : Output). Makes WritesFor Fails r (run w ticks o)) (sym is) (subst (λ (x : Running). Makes WritesFor Fails r (run (workload_of x) ticks asked.Report)) start does)

  pub run_certified : IsCertified k.config
  run_certified = subst (λ (x : Running). IsCertified x.config) (sym start) can.certified
