use Rattle.dk_budget.proofs.Names.{sym, subst, List, Lender, Book, IsSound, given_back}
use Rattle.dk_budget.proofs.Giving.{map-written}
use Rattle.dk_budget.proofs.Keeping.{sound-all_given_back}
use Rattle.dk_budget.proofs.loans.Loans.give_back_due.Goals as goal

pub invariant_of-self : goal.invariant_of-self
invariant_of-self c =
    let rows = c.self.inside.lenders.items in
    let b : Book = record { switch = c.self.inside.switch; periods = c.self.inside.periods.items; lenders = c.self.inside.lenders.items } in
    let back = map-written (given_back c.args.now) rows c.as_mut_slice.result.now c.give_back_all.new.lenders c.as_mut_slice.ensures.value c.give_back_all.ensures in
    subst (λ (xs : List Lender). IsSound (record { switch = c.self.inside.switch; periods = c.self.inside.periods.items; lenders = xs })) (sym back)
    (sound-all_given_back b c.args.now c.self.invariant)
