use Rattle.dk_plan.proofs.Names.{◌≡◌, ◌≤◌, drop, max, MAX_SPAN, longest_got}
use Rattle.dk_plan.proofs.harmonising.longest_got.Given as goal

abbrev pub invariant-loop-ask : goal.invariant-loop-ask
invariant-loop-ask l = record {
  left : max l.longest (longest_got l.base (drop l.ask-index l.asks)) ≡ longest_got l.base l.asks;
  short : l.longest ≤ MAX_SPAN;
}
