use Rattle.dk_demand.proofs.Clocking.{clock-cells}
use Rattle.dk_demand.proofs.laws.opening_keeps_the_recount.Goals as goal
use Rattle.dk_demand.proofs.Names.{◌∷◌}

pub returns : goal.returns
returns c =
    λ k e past checked accepted audited. clock-cells k e past
    (record {
      changed = c.cells_are_changed_by_level.ensures.recount;
      keeps = c.clock_law.ensures.keeps k e past checked accepted audited;
      release = c.windows_release_law.ensures k (e ∷ past) checked accepted audited;
    })
