use Rattle.dk_repeat_search.proofs.Names.{◌≡◌, ◌+◌, HaveLooked, IsWatching}
use Rattle.dk_repeat_search.proofs.always.Watching.watch.Given as goal

abbrev pub invariant-loop-step : goal.invariant-loop-step
invariant-loop-step g l = record {
  is : IsWatching l.kernel l.self;
  looked : HaveLooked l.kernel (l.kernel.ticks + 1) l.self.searches;
  next : l.kernel ≡ record l.fn.kernel { ticks = l.fn.kernel.ticks + l.step };
}
