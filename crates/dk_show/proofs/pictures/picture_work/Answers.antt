use Rattle.dk_show.proofs.Names.{ℕ, List, subst, sym, IfSome, None, Option, Some, Asks, MissesHeld, handed_held, IsOfShown, ComesTo}
use Rattle.dk_show.proofs.pictures.picture_work.Goals as goal

pub returns-in-Some-clause-comes : goal.returns-in-Some-clause-comes
returns-in-Some-clause-comes g c =
    let files = (g.D.Depot.seen c.args.depot.now).files in
    let ledger = c.args.ledger.now in
    let result = c.own_work.result in
    let named = subst (λ (name : List ℕ). IfSome files (λ at. ComesTo (IsOfShown (Some name) at c.args.range ledger) result)) c.as_str.ensures c.own_work.ensures.comes in
    subst (λ (o : Option (List ℕ)). IfSome files (λ at. ComesTo (IsOfShown o at c.args.range ledger) result)) (sym c.in-Some.is) named

pub returns-in-Some-clause-asks : goal.returns-in-Some-clause-asks
returns-in-Some-clause-asks g c =
    let files = (g.D.Depot.seen c.args.depot.now).files in
    let ledger = c.args.ledger.now in
    let old = g.D.Depot.seen c.args.depot.now in
    let new = g.D.Depot.seen c.own_work.new.depot in
    let result = c.own_work.result in
    let named = subst (λ (name : List ℕ). Asks files (λ at. handed_held (Some name) at ledger) (λ at. MissesHeld (Some name) at ledger) old new result) c.as_str.ensures c.own_work.ensures.asks in
    subst (λ (o : Option (List ℕ)). Asks files (λ at. handed_held o at ledger) (λ at. MissesHeld o at ledger) old new result) (sym c.in-Some.is) named

pub returns-in-None-clause-comes : goal.returns-in-None-clause-comes
returns-in-None-clause-comes g c =
    let files = (g.D.Depot.seen c.args.depot.now).files in
    let ledger = c.args.ledger.now in
    subst (λ (o : Option (List ℕ)). IfSome files (λ at. ComesTo (IsOfShown o at c.args.range ledger) c.plain_work.result)) (sym c.in-None.is) c.plain_work.ensures.comes

pub returns-in-None-clause-asks : goal.returns-in-None-clause-asks
returns-in-None-clause-asks g c =
    let files = (g.D.Depot.seen c.args.depot.now).files in
    let ledger = c.args.ledger.now in
    let old = g.D.Depot.seen c.args.depot.now in
    let new = g.D.Depot.seen c.plain_work.new.depot in
    subst (λ (o : Option (List ℕ)). Asks files (λ at. handed_held o at ledger) (λ at. MissesHeld o at ledger) old new c.plain_work.result) (sym c.in-None.is) c.plain_work.ensures.asks
