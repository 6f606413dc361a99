use Rattle.dk_recount.proofs.Create.Recount.{Laws}
use Rattle.dk_recount.proofs.Create.Needs.{Laws as MayLaws}
use Rattle.dk_recount.proofs.Create.Call.{MakeLaws, creates, may-make, new-row}
use Rattle.dk_recount.proofs.birth_laws.creating_a_child_is_booked.Goals as goal

pub returns : goal.returns
returns c =
    let laws : Laws = record {
      families = c.rows_law.ensures.families;
      named = c.rows_law.ensures.named;
      places = c.threads_law.ensures;
      works = c.chosen_law.ensures;
      absent = c.rows_law.ensures.absent;
      askers = c.standing_law.ensures;
      known = c.known_holders_law.ensures;
      spends = c.tick_spends_law.ensures.job;
      lowers = c.tick_spends_law.ensures.rem;
      job = c.event_closes_law.ensures.job;
      rem = c.event_closes_law.ensures.rem;
      new = c.event_closes_law.ensures.new;
      cells = c.call_keeps_the_recount-3.ensures;
      ready = c.ready_law.ensures.event;
      begins = c.call_keeps_the_recount.ensures.create;
      lends = c.call_keeps_the_recount-2.ensures;
      loans_quiet = c.tick_keeps_the_recount.ensures;
      holds = c.stops_keep_the_recount.ensures.event;
      free = c.a_slot_is_free.ensures;
      unclaimed = c.tick_keeps_the_recount-2.ensures.unclaimed;
      parts = c.call_keeps_the_recount-4.ensures.parts;
      ends = c.windows_are_the_configurations.ensures.ends;
    } in
    let may : MayLaws = record {
      families = c.rows_law.ensures.families;
      named = c.rows_law.ensures.named;
      absent = c.rows_law.ensures.absent;
      callers = c.callers_law.ensures.run;
      lowers = c.tick_spends_law.ensures.rem;
      refusals = c.refusals_are_the_pasts.ensures;
      free = c.a_slot_is_free.ensures;
    } in
    let make : MakeLaws = record { callers = c.callers_law.ensures.stand; may = may; book = laws } in
    record {
      may = may-make make;
      row = new-row make;
      done = λ x k label past d level quota entry instructions calling sound are none.
          creates make x k label past d level quota entry instructions calling sound are none
          (c.creates_are_refused_by_the_loans.ensures x k label past d level quota entry instructions calling);
    }
