use Rattle.dk_recount.proofs.Stop.Child.{thread-of-row}
use Rattle.dk_recount.proofs.Names.{Laws}
use Rattle.dk_recount.proofs.Stop.Needs.{may-stop}
use Rattle.dk_recount.proofs.Stop.ChildRecount.{ChildLaws, child-booked}
use Rattle.dk_recount.proofs.Stop.Rows.{exits-by}
use Rattle.dk_recount.proofs.stop_laws.stopping_a_child_is_booked.Goals as goal

pub returns : goal.returns
returns c =
    let shared : Laws = c.stopping_laws.ensures in
    let laws : ChildLaws = record {
      shared = shared;
      one = c.event_cases_law.ensures.one;
      ends = exits-by c.stops_keep_the_recount.ensures.exit c.stops_keep_the_recount.ensures.delete;
      loans = c.stops_keep_the_recount-2.ensures.child;
    } in
    record {
      may = λ k label past d row sound are charged found child running.
          (let t = thread-of-row k label past d.threads row charged.recount.rows (shared.families k past charged.ruled.checked charged.ruled.accepted charged.ruled.audited) found in
          may-stop shared k label past d row sound are charged found t.0 t.1 child running);
      stands = λ k e past d row sound are charged follows ends found running.
          (let t = thread-of-row k e.label past d.threads row charged.recount.rows (shared.families k past charged.ruled.checked charged.ruled.accepted charged.ruled.audited) found in
          child-booked laws k e past d row sound are charged follows ends found running t.0 t.1);
    }
