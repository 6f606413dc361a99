use Rattle.dk_show.proofs.Names.{ℕ, ◌≡◌, List, subst, sym, IfSome, None, Option, Some, MAX_LEDGER_BYTES, IsOfNamed, Asks, MissesLedger, handed_ledger, handed_out, IsOfCheck, IsOfNeeds, ComesTo}
use Rattle.dk_show.specs.declared.refusal.Refusal.TheVariants as why
use Rattle.dk_show.proofs.Wanting.{asks_nothing}
use Rattle.dk_show.proofs.Coming.{in_any}
use Rattle.dk_show.proofs.checks.answered.Goals as goal

pub returns-in-Some-clause-comes : goal.returns-in-Some-clause-comes
returns-in-Some-clause-comes g c =
    let files = (g.D.Depot.seen c.args.depot.now).files in
    let a = c.args.ready in
    let f = c.args.request.now.form in
    let result = c.with_ledger.result in
    let named = subst (λ (name : List ℕ). IfSome files (λ at. ComesTo (IsOfNamed at name MAX_LEDGER_BYTES why.LongLedger
    (λ bytes. IsOfNeeds f a.layout (Some bytes) a.needs)) result)) c.as_str.ensures c.with_ledger.ensures.comes in
    subst (λ (o : Option (List ℕ)). IfSome files (λ at. ComesTo (IsOfCheck at f o a) result)) (sym c.in-Some.is) named

pub returns-in-Some-clause-asks : goal.returns-in-Some-clause-asks
returns-in-Some-clause-asks g c =
    let files = (g.D.Depot.seen c.args.depot.now).files in
    let old = g.D.Depot.seen c.args.depot.now in
    let new = g.D.Depot.seen c.with_ledger.new.depot in
    let result = c.with_ledger.result in
    let named = subst (λ (name : List ℕ). Asks files (λ at. handed_out MAX_LEDGER_BYTES (at name)) (λ at. at name ≡ None) old new result)
    c.as_str.ensures c.with_ledger.ensures.asks in
    subst (λ (o : Option (List ℕ)). Asks files (λ at. handed_ledger at o) (λ at. MissesLedger at o) old new result) (sym c.in-Some.is) named

pub returns-in-None-clause-comes : goal.returns-in-None-clause-comes
returns-in-None-clause-comes g c =
    let files = (g.D.Depot.seen c.args.depot.now).files in
    let a = c.args.ready in
    let f = c.args.request.now.form in
    let result = c.of_ready.result in
    subst (λ (o : Option (List ℕ)). IfSome files (λ at. ComesTo (IsOfCheck at f o a) result)) (sym c.in-None.is) (in_any files c.of_ready.ensures.comes)

pub returns-in-None-clause-asks : goal.returns-in-None-clause-asks
returns-in-None-clause-asks g c =
    let files = (g.D.Depot.seen c.args.depot.now).files in
    let view = g.D.Depot.seen c.args.depot.now in
    subst (λ (o : Option (List ℕ)). Asks files (λ at. handed_ledger at o) (λ at. MissesLedger at o) view view c.of_ready.result) (sym c.in-None.is)
    (asks_nothing files view c.of_ready.result)
