use Rattle.std.proofs.Common.{◌≡◌}
use Rattle.dk_needs_always.specs.Lending.{IsLentWatch}
use Rattle.dk_needs_always.proofs.lending.most_taken.Given as goal

abbrev pub invariant-loop-tick : goal.invariant-loop-tick
invariant-loop-tick g l = record {
  next : l.kernel ≡ record l.fn.kernel { ticks = l._tick };
  is : IsLentWatch l.fn.kernel.config l.fn.kernel.programs l._tick l.watch;
  process : l.watch.process ≡ l.fn.before.process;
  period : l.watch.period ≡ l.fn.before.period;
}
