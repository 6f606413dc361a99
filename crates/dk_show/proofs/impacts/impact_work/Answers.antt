use Rattle.dk_show.proofs.Names.{ℕ, ◌≡◌, ◌∙◌, List, ap, subst, IfSome, Ok, Err, Option, ChangeAsk, Files, Asks, handed_load, IsOfChange, IsOfLoaded, loaded, ComesTo}
use Rattle.dk_show.specs.declared.refusal.Refusal.TheVariants as why
use Rattle.dk_show.proofs.Asks.{asks_after}
use Rattle.dk_show.proofs.Coming.{of_something}
use Rattle.dk_show.proofs.impacts.impact_work.Goals as goal

pub returns-clause-comes : goal.returns-clause-comes
returns-clause-comes g c =
    let files = (g.D.Depot.seen c.args.depot.now).files in
    let r = c.args.request.now in
    let name = c.as_str.ensures ∙ ap (λ (a : ChangeAsk). a.old) c.request.view_is in
    let found = subst (λ (name : List ℕ). IfSome files (λ at. loaded at name ≡ Ok c.in_ok-old.old)) name c.in_ok-old.ensures.loads in
    of_something files (λ at. loaded at r.old) (λ at w. IsOfLoaded at r.new (IsOfChange r w)) c.in_ok-old.old c.change_to.result found
    (subst (λ (fs : Option Files). IfSome fs (λ at. ComesTo (IsOfLoaded at r.new (IsOfChange r c.in_ok-old.old)) c.change_to.result))
    c.in_ok-old.ensures.reads.same c.change_to.ensures.comes)

pub returns-clause-asks : goal.returns-clause-asks
returns-clause-asks g c =
    let files = (g.D.Depot.seen c.args.depot.now).files in
    let r = c.args.request.now in
    let name = c.as_str.ensures ∙ ap (λ (a : ChangeAsk). a.old) c.request.view_is in
    let found = subst (λ (name : List ℕ). IfSome files (λ at. loaded at name ≡ Ok c.in_ok-old.old)) name c.in_ok-old.ensures.loads in
    let first = subst (λ (name : List ℕ). Asks files (λ at. handed_load at name) (λ at. loaded at name ≡ Err why.Depot)
    (g.D.Depot.seen c.args.depot.now) (g.D.Depot.seen c.load_at.new.depot) (Ok c.in_ok-old.old)) name c.in_ok-old.ensures.asks in
    asks_after (λ at. loaded at r.old) (λ at. handed_load at r.old) (λ at. loaded at r.old ≡ Err why.Depot) (λ at _. handed_load at r.new)
    (λ at _. loaded at r.new ≡ Err why.Depot) (g.D.Depot.seen c.args.depot.now) (g.D.Depot.seen c.load_at.new.depot) (g.D.Depot.seen c.change_to.new.depot)
    c.change_to.result files _ c.in_ok-old.old first found (λ at missing. missing)
    (subst (λ (fs : Option Files). Asks fs (λ at. handed_load at r.new) (λ at. loaded at r.new ≡ Err why.Depot)
    (g.D.Depot.seen c.load_at.new.depot) (g.D.Depot.seen c.change_to.new.depot) c.change_to.result)
    c.in_ok-old.ensures.reads.same c.change_to.ensures.asks)
