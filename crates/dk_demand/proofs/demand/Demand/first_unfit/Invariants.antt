use Rattle.dk_demand.proofs.Names.{◌≡◌, ◌-◌, ◌%◌, ◌^◌, length, take, sum, find, numbers, first_unfit, is_unfit}
use Rattle.dk_demand.proofs.demand.Demand.first_unfit.Given as goal

abbrev pub invariant-loop-level : goal.invariant-loop-level
invariant-loop-level l = record {
  run : l.run ≡ sum (take l.level l.self-inside.gone.items) % 2 ^ 64;
  left : first_unfit l.self ≡ find (is_unfit l.self) (numbers l.level (length l.self.windows.periods - l.level));
}
