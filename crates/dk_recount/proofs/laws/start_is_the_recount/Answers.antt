use Rattle.dk_recount.proofs.Names.{table_at_start, spares_of, node_in}
use Rattle.dk_recount.proofs.Start.Recount.{start-ready}
use Rattle.dk_recount.proofs.laws.start_is_the_recount.Goals as goal

pub returns : goal.returns
returns c = λ k checked limits accepted.
    start-ready k checked limits accepted (record {
      threads = c.start_is_the_recount.ensures k;
      loans = c.start_is_the_recount-2.ensures k;
      holders = c.start_is_the_recount-3.ensures k;
      wishes = c.start_is_the_recount-4.ensures (node_in (table_at_start k)) (spares_of k) k;
      own = c.start_law.ensures.budgets k;
      remaining = c.start_law.ensures.demand k checked;
      seats = c.start_is_the_recount-5.ensures.seats;
      parts = c.start_is_the_recount-5.ensures.parts;
    })
