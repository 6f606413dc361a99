use Rattle.dk_demand.proofs.Names.{ℕ, ◌≡◌, ◌-◌, ◌%◌, ◌^◌, ◌<◌, ◌≤◌, length, take, sum, find, numbers, first_unfit, is_unfit, at_tick}
use Rattle.dk_demand.proofs.demand.Demand.first_late.Given as goal

abbrev pub invariant-loop-level : goal.invariant-loop-level
invariant-loop-level l = record {
  run : l.run ≡ sum (take l.level l.self-inside.gone.items) % 2 ^ 64;
  left : (tick : ℕ) → l.self.windows.tick ≤ tick → tick < l.first → first_unfit (at_tick l.self tick)
      ≡ find (is_unfit (at_tick l.self tick)) (numbers l.level (length l.self.windows.periods - l.level));
}
