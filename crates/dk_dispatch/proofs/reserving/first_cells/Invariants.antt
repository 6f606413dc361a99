use Rattle.dk_dispatch.proofs.Names.{◌≡◌, length, level_demand, no_ticks, clock_at, own_of, filled}
use Rattle.dk_dispatch.proofs.reserving.first_cells.Given as goal

abbrev pub invariant-loop-level : goal.invariant-loop-level
invariant-loop-level g l = record {
  own : l.demand.own ≡ filled (own_of l.config) l.level (length l.config.levels);
  remaining : l.demand.remaining ≡ filled (level_demand l.config) l.level (length l.config.levels);
  blocking : l.demand.blocking ≡ no_ticks l.config;
  windows : l.demand.windows ≡ clock_at l.config 0;
}
