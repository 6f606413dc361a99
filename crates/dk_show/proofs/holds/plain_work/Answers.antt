use Rattle.dk_show.proofs.Names.{ℕ, ◌≡◌, List, subst, None, MAX_LEDGER_BYTES, IsOfHolds, ComesTo, handed_out}
use Rattle.dk_show.specs.declared.refusal.Refusal.TheVariants as why
use Rattle.dk_show.proofs.Asks.{asks_on}
use Rattle.dk_show.proofs.Coming.{named_by}
use Rattle.dk_show.proofs.holds.plain_work.Goals as goal

pub returns-clause-comes : goal.returns-clause-comes
returns-clause-comes g c =
    let comes = subst (λ (bytes : List ℕ). ComesTo (IsOfHolds bytes) c.of_bytes.result) c.as_slice.ensures.value c.of_bytes.ensures.comes in
    named_by (g.D.Depot.seen c.args.depot.now).files c.args.ledger.now MAX_LEDGER_BYTES why.LongLedger IsOfHolds c.in_ok-bytes.bytes.items c.of_bytes.result
    c.in_ok-bytes.ensures.held c.in_ok-bytes.ensures.short comes

pub returns-clause-asks : goal.returns-clause-asks
returns-clause-asks g c =
    let name = c.args.ledger.now in
    asks_on (g.D.Depot.seen c.args.depot.now).files (λ at. handed_out MAX_LEDGER_BYTES (at name)) (λ at. at name ≡ None)
    (g.D.Depot.seen c.args.depot.now) (g.D.Depot.seen c.file_at.new.depot) c.in_ok-bytes.bytes c.of_bytes.result c.in_ok-bytes.ensures.asks
