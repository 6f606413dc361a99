use Rattle.dk_recount.proofs.Stretching.{StretchLaws}
use Rattle.dk_recount.proofs.Resting.{rest-counts, rest-passes}
use Rattle.dk_recount.proofs.stretch_laws.resting_makes_the_recount.Goals as goal

pub returns : goal.returns
returns c =
    let laws : StretchLaws = record {
      choice = c.choice_is_the_pasts.ensures;
      may = c.charging_makes_the_recount.ensures.may;
      charged = c.charging_makes_the_recount.ensures.charged;
      untold = c.untold_event_is_booked.ensures;
      opens = c.opening_makes_the_next_tick.ensures.opens;
      rests = c.opening_makes_the_next_tick.ensures.rests;
    } in
    record {
      passes = λ n d sound families rests within. rest-passes n d sound families rests within laws c.holds_are_the_pasts.ensures.left;
      counts = λ n k past d ready sound families rests within room. rest-counts laws c.holds_are_the_pasts.ensures.left n k past d ready sound families rests within room;
    }
