use Rattle.dk_mutex.proofs.Names.{Some, ap, ◌∙◌, ◌≡◌, sym, subst, false, is_same, same-id}
use Rattle.dk_mutex.proofs.front.Front.is_of.Goals as goal

pub returns-in-Some-clause-own : goal.returns-in-Some-clause-own
returns-in-Some-clause-own c = λ on.
    c.in-Some.is ∙ ap Some (sym (same-id c.args.id c.in-Some.holder (sym c.is_same.ensures ∙ on)))

pub returns-in-Some-clause-other : goal.returns-in-Some-clause-other
returns-in-Some-clause-other c = λ x off named.
    let is : c.in-Some.holder ≡ x = cc in
    subst (λ y. is_same c.args.id y ≡ false) is (sym c.is_same.ensures ∙ off)
