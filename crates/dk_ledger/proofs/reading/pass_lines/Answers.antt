use Rattle.dk_ledger.proofs.Names.{◌∙◌, ◌++◌, [], LedgerFault, entries_of, nat_tests, arith}
use Rattle.dk_ledger.proofs.NextItem.{if_ok}
use Rattle.dk_ledger.proofs.Readings.{passed_on, some_is}
use Rattle.dk_ledger.proofs.reading.pass_lines.Goals as goal

pub returns-in_err-_line-clause-line : goal.returns-in_err-_line-clause-line
returns-in_err-_line-clause-line c = λ n e.
    c.next.ensures.line n c.args.bytes.now c.loop-line.invariant.0
    (c.in_err-_line.was ∙ passed_on c.from_residual.result c.in_err-_line.field-0.0 (LedgerFault.Line n) c.from_residual.ensures.1 e)
    c.loop-line.invariant.1

pub returns-clause-ok : goal.returns-clause-ok
returns-clause-ok c = grind (arith, nat_tests)

pub loop-line-preserved : goal.loop-line-preserved
loop-line-preserved c =
    let es = c.loop-line.invariant.0 in
    let given = some_is c.in_ok-_line.field-0 c.in-Some._line _ c.in-Some.is (if_ok c.next.result c.in_ok-_line.field-0 _ c.in_ok-_line.was c.next.ensures.given) in
    (es ++ entries_of c.in-Some._line, given c.args.bytes.now es c.loop-line.invariant.1)

pub loop-line-init : goal.loop-line-init
loop-line-init c = ([], c.requires)
