use Rattle.dk_kernel.proofs.Names.{◌≡◌, ◌+◌, ◌≤◌, Ok, trace_of, run_steps}
use Rattle.dk_kernel.proofs.kernel.running.go_on.Given as goal

-- whoever had taken the run as it began has taken what it is now
abbrev pub invariant-loop-left : goal.invariant-loop-left
invariant-loop-left g l =
    let HasTaken = g.R.Recorder.HasTaken in
    record {
      same : l.kernel ≡ record l.initial.kernel { ticks = l.kernel.ticks };
      count : l.kernel.ticks + l.left ≡ l.initial.kernel.ticks + l.ticks;
      kept : g.R.Recorder.kept l.recorder ≡ g.R.Recorder.kept l.initial.recorder;
      taken : (start : g.R.Recorder.Start) → HasTaken start l.initial.recorder (Ok tt) (trace_of l.initial.kernel)
          → HasTaken start l.recorder (Ok tt) (trace_of l.kernel);
      steps : l.steps + run_steps l.initial.kernel.config (trace_of l.initial.kernel)
          ≤ l.initial.steps + run_steps l.kernel.config (trace_of l.kernel);
    }

abbrev pub decreases-loop-left : goal.decreases-loop-left
decreases-loop-left g l = l.left
