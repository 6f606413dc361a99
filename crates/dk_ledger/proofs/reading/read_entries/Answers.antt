use Rattle.dk_ledger.proofs.Names.{◌≡◌, ◌∙◌, ◌++◌, rules, subst, sym, LedgerFault, entries_of, HasRead}
use Rattle.dk_ledger.proofs.NextItem.{if_ok}
use Rattle.dk_ledger.proofs.Readings.{passed_on, some_is}
use Rattle.dk_ledger.proofs.reading.read_entries.Goals as goal

pub returns-in_err-line-clause-line : goal.returns-in_err-line-clause-line
returns-in_err-line-clause-line c = λ n e.
    c.next.ensures.line n c.args.bytes.now c.loop-line.entries.items
    (c.in_err-line.was ∙ passed_on c.from_residual.result c.in_err-line.field-0.0 (LedgerFault.Line n) c.from_residual.ensures.1 e)
    c.loop-line.invariant

pub returns-clause-ok : goal.returns-clause-ok
returns-clause-ok c =
    if_ok c.next.result c.in_ok-line.field-0 _ c.in_ok-line.was c.next.ensures.end c.in_default.is c.args.bytes.now c.loop-line.entries.items c.loop-line.invariant

pub loop-line-preserved : goal.loop-line-preserved
loop-line-preserved c =
    let given = some_is c.in_ok-line.field-0 c.in-Some.line _ c.in-Some.is (if_ok c.next.result c.in_ok-line.field-0 _ c.in_ok-line.was c.next.ensures.given) in
    let pushed : c.push_entries.new.entries.items ≡ c.loop-line.entries.items ++ entries_of c.in-Some.line = search rules in
    subst (λ es. HasRead c.args.bytes.now es c.next.new.self) (sym pushed) (given c.args.bytes.now c.loop-line.entries.items c.loop-line.invariant)
