use Rattle.dk_mutex.proofs.Names.{◌∙◌, ap, subst, is_some, IsFirstHold, IsLeastHold}
use Rattle.dk_mutex.proofs.Firsts.{somebody}
use Rattle.dk_mutex.proofs.Unheld.{none-there}
use Rattle.dk_mutex.proofs.front.Front.of.Goals as goal

pub returns-in-Some : goal.returns-in-Some
returns-in-Some c =
    let rows = c.args.rows.now in
    let first : IsLeastHold c.in-Some.first rows = subst (λ first. IsFirstHold first rows) c.in-Some.is c.first_hold.ensures in
    record {
      held = ap is_some c.holder_at_first-holder.ensures ∙ somebody c.in-Some.first rows first;
      before = λ k less. none-there k rows (first.before k less);
      holder = c.holder_at_first-holder.ensures;
      left = c.left_of_holder.ensures;
    }

pub returns-in-None : goal.returns-in-None
returns-in-None c = c.nobody.ensures c.args.rows.now (subst (λ first. IsFirstHold first c.args.rows.now) c.in-None.is c.first_hold.ensures)
