use Rattle.dk_cycle_start.proofs.Names.{ℕ, ◌≡◌, ◌-◌, ◌%◌, ◌<◌, ◌≤◌, RunStandsAgain, IsLongest, IsLater, IsSearch}
use Rattle.dk_cycle_start.proofs.walk.first_start.Given as goal

abbrev pub invariant-loop-start : goal.invariant-loop-start
invariant-loop-start g l = record {
  next : l.early ≡ record l.fn.early { ticks = l.start };
  later : IsLater l.early l.cycle.length l.late;
  is : IsSearch l.late l.search;
  longest : IsLongest l.fn.early.config l.longest;
  begins : l.start % l.longest ≡ 0;
  early : l.start ≤ l.cycle.start;
  none : (t : ℕ) → t < l.start → RunStandsAgain l.fn.early.config l.fn.early.programs t l.cycle.length → ⊥;
}

abbrev pub decreases-loop-start : goal.decreases-loop-start
decreases-loop-start g l = l.cycle.start - l.start
