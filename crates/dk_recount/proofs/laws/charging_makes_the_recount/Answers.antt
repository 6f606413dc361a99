use Rattle.dk_recount.specs.Needed.{ChoosingLaws as Laws}
use Rattle.dk_recount.proofs.Charge.Labels.{TickLaws}
use Rattle.dk_recount.proofs.Charge.ByChoice.{may-charge, is-charged}
use Rattle.dk_recount.proofs.laws.charging_makes_the_recount.Goals as goal

pub returns : goal.returns
returns c =
    let laws : Laws = c.choosing_laws.ensures in
    let tick : TickLaws = record {
      chosen = c.chosen_law.ensures;
      levels = c.rows_law.ensures.levels;
      spends = c.tick_spends_law.ensures.job;
      own = c.tick_lowers_demand_law.ensures.own;
      remaining = c.tick_lowers_demand_law.ensures.remaining;
      blocks = c.holds_move_blocking_law.ensures.tick;
      lowers = c.tick_spends_law.ensures.rem;
      budget = c.tick_keeps_the_recount-5.ensures.budget;
      jobs = c.tick_keeps_the_recount-5.ensures.others;
      kernel = c.tick_keeps_the_recount-5.ensures.kernel;
      parts = c.tick_keeps_the_recount-5.ensures.parts;
      queued = c.jobs_are_the_pasts.ensures.queued;
      rows = c.tick_keeps_the_recount.ensures;
      cells = c.tick_keeps_the_recount-2.ensures;
      held = c.tick_keeps_the_recount-3.ensures.thread;
      unheld = c.tick_keeps_the_recount-3.ensures.nobody;
      runs = c.levels_are_the_pasts.ensures.level;
      within = c.holds_are_the_pasts.ensures.within;
      nest = c.nesting_law.ensures;
      wishes = c.tick_keeps_the_recount-4.ensures.others;
      wished = c.tick_keeps_the_recount-4.ensures.slack;
      wants = c.wishes_are_the_pasts.ensures.amount;
      unclaimed = c.tick_keeps_the_recount-4.ensures.unclaimed;
    } in
    record {
      may = λ k label past d ready families sound chose. may-charge laws tick c.blocking_law.ensures k label past d ready families sound chose;
      charged = λ k label past d ready families sound chose room. is-charged laws tick k label past d ready families sound chose room;
    }
