use Rattle.dk_show.proofs.Names.{ℕ, List, subst, MAX_LEDGER_BYTES, IsOfWindows, ComesTo}
use Rattle.dk_show.specs.declared.refusal.Refusal.TheVariants as why
use Rattle.dk_show.proofs.Coming.{named_by}
use Rattle.dk_show.proofs.windows.windows_work.Goals as goal

pub returns-clause-comes : goal.returns-clause-comes
returns-clause-comes g c =
    let IsOf = IsOfWindows c.args.form in
    let comes = subst (λ (bytes : List ℕ). ComesTo (IsOf bytes) c.of_ledger.result) c.as_slice.ensures.value c.of_ledger.ensures.comes in
    named_by (g.D.Depot.seen c.args.depot.now).files c.args.ledger.now MAX_LEDGER_BYTES why.LongLedger IsOf c.in_ok-bytes.bytes.items c.of_ledger.result
    c.in_ok-bytes.ensures.held c.in_ok-bytes.ensures.short comes
