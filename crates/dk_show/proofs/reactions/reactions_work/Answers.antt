use Rattle.dk_show.proofs.Names.{◌≡◌, ap, subst, IfSome, None, Option, MAX_CONFIG_BYTES, MAX_LEDGER_BYTES, Files, IsOfNamed, Asks, handed_out, IsOfReactions, chain_at, chain_named, certified_at, ComesTo}
use Rattle.dk_show.specs.declared.refusal.Refusal.TheVariants as why
use Rattle.dk_show.proofs.Asks.{asks_after}
use Rattle.dk_show.proofs.Coming.{of_something}
use Rattle.dk_show.proofs.reactions.reactions_work.Goals as goal

pub returns-clause-comes : goal.returns-clause-comes
returns-clause-comes g c =
    let files = (g.D.Depot.seen c.args.depot.now).files in
    let ledger = c.args.ledger.now in
    let x = c.in_ok-found.found in
    of_something files (λ at. chain_at at c.args.request.now) (λ at chain. IsOfNamed at ledger MAX_LEDGER_BYTES why.LongLedger (IsOfReactions chain)) x
    c.reactions_in.result c.in_ok-found.ensures.loads
    (subst (λ (fs : Option Files). IfSome fs (λ at. ComesTo (IsOfNamed at ledger MAX_LEDGER_BYTES why.LongLedger (IsOfReactions x)) c.reactions_in.result))
    c.in_ok-found.ensures.reads.same c.reactions_in.ensures.comes)

pub returns-clause-asks : goal.returns-clause-asks
returns-clause-asks g c =
    let files = (g.D.Depot.seen c.args.depot.now).files in
    let r = c.args.request.now in
    let ledger = c.args.ledger.now in
    asks_after (λ at. chain_at at r) (λ at. handed_out MAX_CONFIG_BYTES (at r.file)) (λ at. at r.file ≡ None) (λ at _. handed_out MAX_LEDGER_BYTES (at ledger))
    (λ at _. at ledger ≡ None) (g.D.Depot.seen c.args.depot.now) (g.D.Depot.seen c.chain_at.new.depot) (g.D.Depot.seen c.reactions_in.new.depot)
    c.reactions_in.result files c.in_ok-found.found c.in_ok-found.found c.in_ok-found.ensures.asks c.in_ok-found.ensures.loads
    (λ at missing. ap (λ o. chain_named r (certified_at o)) missing)
    (subst (λ (fs : Option Files). Asks fs (λ at. handed_out MAX_LEDGER_BYTES (at ledger)) (λ at. at ledger ≡ None)
    (g.D.Depot.seen c.chain_at.new.depot) (g.D.Depot.seen c.reactions_in.new.depot) c.reactions_in.result)
    c.in_ok-found.ensures.reads.same c.reactions_in.ensures.asks)
