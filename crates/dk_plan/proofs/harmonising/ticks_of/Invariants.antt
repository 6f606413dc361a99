use Rattle.dk_plan.proofs.Names.{◌≡◌, ◌≤◌, ◌+◌, ◌*◌, drop, MAX_SPAN, ticks_in}
use Rattle.dk_plan.proofs.harmonising.ticks_of.Given as goal

abbrev pub invariant-loop-ask : goal.invariant-loop-ask
invariant-loop-ask l = record {
  left : l.ticks + ticks_in l.base l.window (drop l.ask-index l.asks) ≡ ticks_in l.base l.window l.asks;
  few : l.ticks ≤ l.ask-index * (MAX_SPAN * MAX_SPAN);
}
