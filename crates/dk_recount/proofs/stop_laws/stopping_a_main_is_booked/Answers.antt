use Rattle.dk_recount.proofs.Names.{process-ends-by, Laws}
use Rattle.dk_recount.proofs.Stop.ProcessRecount.{ProcessLaws, counts, may-stop-process, process-booked}
use Rattle.dk_recount.proofs.stop_laws.stopping_a_main_is_booked.Goals as goal

pub returns : goal.returns
returns c =
    let shared : Laws = c.stopping_laws.ensures in
    let laws : ProcessLaws = record {
      shared = shared;
      process = c.event_cases_law.ensures.process;
      given = c.event_closes_law.ensures.given_up;
      who = c.closers_law.ensures;
      stand = c.holders_law.ensures;
      ends = process-ends-by c.stops_keep_the_recount.ensures.process;
      loans = c.stops_keep_the_recount-2.ensures.process;
      future = c.future_shares_are_the_pasts.ensures;
    } in
    record {
      may = λ k e past d main sound are charged follows ends found. may-stop-process laws k e past d main sound are charged follows ends found;
      stands = λ k e past d main sound are charged follows ends found. process-booked laws k e past d main sound are charged follows ends found;
      counts = λ k e past d main sound are charged follows ends found. counts laws k e past d main sound are charged follows ends found;
    }
