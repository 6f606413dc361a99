use Rattle.dk_demand.proofs.Ending.{end-cells}
use Rattle.dk_demand.proofs.laws.stops_keep_the_recount.Goals as goal

pub returns : goal.returns
returns c =
    λ k e past checked accepted audited. end-cells k e past
    (record {
      changed = c.cells_are_changed_by_level.ensures.recount;
      closed = c.event_cases_law.ensures.process k e past checked accepted audited;
      holds = c.holds_move_blocking_law.ensures.charged k e.label past checked accepted audited.0 audited.1.choice;
      threads_stay = c.tick_keeps_threads_law.ensures k e.label past checked accepted audited.0 audited.1.choice;
      named = c.rows_law.ensures.named k past checked accepted audited.0;
    })
