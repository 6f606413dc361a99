use Rattle.dk_recount.proofs.Stretching.{StretchLaws}
use Rattle.dk_recount.proofs.Computing.{compute-passes, may-compute}
use Rattle.dk_recount.proofs.stretch_laws.computing_makes_the_recount.Goals as goal

pub returns : goal.returns
returns c =
    let laws : StretchLaws = record {
      choice = c.choice_is_the_pasts.ensures;
      may = c.charging_makes_the_recount.ensures.may;
      charged = c.charging_makes_the_recount.ensures.charged;
      untold = c.untold_event_is_booked.ensures;
      opens = c.opening_makes_the_next_tick.ensures.opens;
      rests = c.opening_makes_the_next_tick.ensures.rests;
    } in
    record {
      passes = λ n x d sound families computes within. compute-passes x d sound families n computes within laws c.holds_are_the_pasts.ensures.left;
      may = λ n x k past d ready sound families computes within room some.
          may-compute x d sound families n computes within laws c.holds_are_the_pasts.ensures.left k past ready room some;
    }
