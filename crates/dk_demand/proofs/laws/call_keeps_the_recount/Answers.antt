use Rattle.dk_demand.proofs.Booking.{event-cells}
use Rattle.dk_demand.proofs.laws.call_keeps_the_recount.Goals as goal

pub returns : goal.returns
returns c =
    λ k e past checked accepted audited. event-cells k e past
    (record {
      changed = c.cells_are_changed_by_level.ensures.recount;
      kept = c.event_cases_law.ensures.nobody k e past checked accepted audited;
      one = c.event_cases_law.ensures.one k e past checked accepted audited;
      lock = c.holds_move_blocking_law.ensures.lock k e past checked accepted audited;
      unlock = c.holds_move_blocking_law.ensures.unlock k e past checked accepted audited;
      holds = c.holds_move_blocking_law.ensures.charged k e.label past checked accepted audited.0 audited.1.choice;
      threads_stay = c.tick_keeps_threads_law.ensures k e.label past checked accepted audited.0 audited.1.choice;
    })
