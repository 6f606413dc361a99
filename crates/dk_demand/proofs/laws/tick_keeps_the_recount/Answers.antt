use Rattle.dk_demand.proofs.Ticking.{tick-cells}
use Rattle.dk_demand.proofs.laws.tick_keeps_the_recount.Goals as goal

pub returns : goal.returns
returns c =
    λ k label past checked accepted audited has. tick-cells k label past
    (record {
      changed = c.cells_are_changed_by_level.ensures.recount;
      own = c.tick_lowers_demand_law.ensures.own k label past checked accepted audited has;
      remaining = c.tick_lowers_demand_law.ensures.remaining k label past checked accepted audited has;
      moves = c.tick_moves_blocking_law.ensures k label past checked accepted audited has;
      lowers = c.holds_move_blocking_law.ensures.tick k label past checked accepted audited has;
      levels = c.rows_law.ensures.levels k past checked accepted audited;
    })
