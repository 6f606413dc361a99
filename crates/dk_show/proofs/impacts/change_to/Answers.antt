use Rattle.dk_show.proofs.Names.{ℕ, ◌≡◌, ◌∙◌, List, ap, subst, IfSome, Ok, ChangeAsk, IsOfChange, loaded}
use Rattle.dk_show.proofs.Coming.{in_any, of_something}
use Rattle.dk_show.proofs.impacts.change_to.Goals as goal

pub returns-clause-comes : goal.returns-clause-comes
returns-clause-comes g c =
    let files = (g.D.Depot.seen c.args.depot.now).files in
    let r = c.args.request.now in
    let name = c.as_str.ensures ∙ ap (λ (a : ChangeAsk). a.new) c.request.view_is in
    let found = subst (λ (name : List ℕ). IfSome files (λ at. loaded at name ≡ Ok c.in_ok-new.new)) name c.in_ok-new.ensures.loads in
    of_something files (λ at. loaded at r.new) (λ at w. IsOfChange r c.args.old.now w) c.in_ok-new.new c.of_change.result found
    (in_any files c.of_change.ensures.comes)
