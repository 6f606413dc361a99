use Rattle.dk_recount.proofs.Stretching.{StretchLaws}
use Rattle.dk_recount.proofs.Lending.{lend-counts, lend-passes}
use Rattle.dk_recount.proofs.stretch_laws.lending_makes_the_recount.Goals as goal

pub returns : goal.returns
returns c =
    let laws : StretchLaws = record {
      choice = c.choice_is_the_pasts.ensures;
      may = c.charging_makes_the_recount.ensures.may;
      charged = c.charging_makes_the_recount.ensures.charged;
      untold = c.untold_event_is_booked.ensures;
      opens = c.opening_makes_the_next_tick.ensures.opens;
      rests = c.opening_makes_the_next_tick.ensures.rests;
    } in
    record {
      passes = λ n x source d sound families lends within. lend-passes x d source sound n lends within families laws c.holds_are_the_pasts.ensures.left;
      counts = λ n x source k past d ready sound families lends within room some.
          lend-counts x d source sound n lends within families laws c.holds_are_the_pasts.ensures.left k past ready room some;
    }
