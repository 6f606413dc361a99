use Rattle.dk_chain.proofs.Names.{◌≡◌, ◌*◌, ◌≤◌, sum_from, release, MAX_SPAN}
use Rattle.dk_chain.proofs.sooner.releases_before.Given as goal

abbrev pub invariant-loop-faster : goal.invariant-loop-faster
invariant-loop-faster l = record {
  sum : l.ticks ≡ sum_from 0 l.faster (release l.config);
  few : l.ticks ≤ l.faster * MAX_SPAN;
}
