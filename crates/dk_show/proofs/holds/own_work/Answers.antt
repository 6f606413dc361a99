use Rattle.dk_show.proofs.Names.{◌≡◌, ap, subst, IfSome, None, Option, MAX_CONFIG_BYTES, MAX_LEDGER_BYTES, Files, IsOfNamed, Asks, handed_out, IsOfOwnHolds, certified_at, ComesTo}
use Rattle.dk_show.specs.declared.refusal.Refusal.TheVariants as why
use Rattle.dk_show.proofs.Asks.{asks_after}
use Rattle.dk_show.proofs.Coming.{of_something}
use Rattle.dk_show.proofs.holds.own_work.Goals as goal

pub returns-clause-comes : goal.returns-clause-comes
returns-clause-comes g c =
    let files = (g.D.Depot.seen c.args.depot.now).files in
    let file = c.args.file.now in
    let ledger = c.args.ledger.now in
    let x = c.in_ok-config.config in
    of_something files (λ at. certified_at (at file)) (λ at k. IsOfNamed at ledger MAX_LEDGER_BYTES why.LongLedger (IsOfOwnHolds k)) x
    c.holds_in.result c.in_ok-config.ensures.loads
    (subst (λ (fs : Option Files). IfSome fs (λ at. ComesTo (IsOfNamed at ledger MAX_LEDGER_BYTES why.LongLedger (IsOfOwnHolds x)) c.holds_in.result))
    c.in_ok-config.ensures.reads.same c.holds_in.ensures.comes)

pub returns-clause-asks : goal.returns-clause-asks
returns-clause-asks g c =
    let files = (g.D.Depot.seen c.args.depot.now).files in
    let file = c.args.file.now in
    let ledger = c.args.ledger.now in
    let x = c.in_ok-config.config in
    asks_after (λ at. certified_at (at file)) (λ at. handed_out MAX_CONFIG_BYTES (at file)) (λ at. at file ≡ None)
    (λ at _. handed_out MAX_LEDGER_BYTES (at ledger)) (λ at _. at ledger ≡ None) (g.D.Depot.seen c.args.depot.now) (g.D.Depot.seen c.certified_at.new.depot)
    (g.D.Depot.seen c.holds_in.new.depot) c.holds_in.result files x x c.in_ok-config.ensures.asks c.in_ok-config.ensures.loads (λ at missing. ap certified_at missing)
    (subst (λ (fs : Option Files). Asks fs (λ at. handed_out MAX_LEDGER_BYTES (at ledger)) (λ at. at ledger ≡ None)
    (g.D.Depot.seen c.certified_at.new.depot) (g.D.Depot.seen c.holds_in.new.depot) c.holds_in.result)
    c.in_ok-config.ensures.reads.same c.holds_in.ensures.asks)
