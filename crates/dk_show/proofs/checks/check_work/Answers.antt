use Rattle.dk_show.proofs.Names.{◌≡◌, subst, IfSome, None, Option, Files, Asks, MissesLedger, MissesReady, handed_ledger, handed_ready, IsOfCheck, asked_at, ready_at, ComesTo}
use Rattle.dk_show.proofs.Asks.{asks_after}
use Rattle.dk_show.proofs.Wanting.{missed_ready}
use Rattle.dk_show.proofs.Coming.{of_something}
use Rattle.dk_show.proofs.checks.check_work.Goals as goal

pub returns-clause-comes : goal.returns-clause-comes
returns-clause-comes g c =
    let files = (g.D.Depot.seen c.args.depot.now).files in
    let r = c.args.request.now in
    let x = c.in_ok-ready.ready in
    of_something files (λ at. ready_at at r) (λ at a. IsOfCheck at r.form r.ledger a) x c.answered.result c.in_ok-ready.ensures.loads
    (subst (λ (fs : Option Files). IfSome fs (λ at. ComesTo (IsOfCheck at r.form r.ledger x) c.answered.result)) c.in_ok-ready.ensures.reads.same c.answered.ensures.comes)

pub returns-clause-asks : goal.returns-clause-asks
returns-clause-asks g c =
    let files = (g.D.Depot.seen c.args.depot.now).files in
    let r = c.args.request.now in
    let x = c.in_ok-ready.ready in
    asks_after (λ at. ready_at at r) (λ at. handed_ready at r) (λ at. MissesReady at r)
    (λ at _. handed_ledger at r.ledger) (λ at _. MissesLedger at r.ledger) (g.D.Depot.seen c.args.depot.now) (g.D.Depot.seen c.ready_at.new.depot)
    (g.D.Depot.seen c.answered.new.depot) c.answered.result files x x c.in_ok-ready.ensures.asks c.in_ok-ready.ensures.loads
    (λ at missing. missed_ready at (asked_at at r) missing)
    (subst (λ (fs : Option Files). Asks fs (λ at. handed_ledger at r.ledger) (λ at. MissesLedger at r.ledger)
    (g.D.Depot.seen c.ready_at.new.depot) (g.D.Depot.seen c.answered.new.depot) c.answered.result)
    c.in_ok-ready.ensures.reads.same c.answered.ensures.asks)
