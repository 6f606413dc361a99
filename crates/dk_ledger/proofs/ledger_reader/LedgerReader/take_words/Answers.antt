use Rattle.dk_ledger.proofs.Names.{◌≡◌, ◌∙◌, sym, ap, subst, arith, IsWrongLine, IsNoText, TakesNone, nat_tests}
use Rattle.dk_ledger.proofs.NextItem.{if_ok}
use Rattle.dk_ledger.proofs.Readings.{line_parts, wrong_next, further_read, few_lines_read}
use Rattle.dk_ledger.proofs.ledger_reader.LedgerReader.take_words.Goals as goal

pub returns-then-not-branch-clause-line : goal.returns-then-not-branch-clause-line
returns-then-not-branch-clause-line c = λ n bytes es e read.
    let kept = ap (λ r. r.kept) c.self.view_is in
    let rest = ap (λ r. r.rest) c.self.view_is in
    let line = ap (λ r. r.line) c.self.view_is in
    let parts = line_parts c.self.inside.rest.now c.first_line.result c.in-Some.text c.in-Some.behind c.in-Some.is c.first_line.ensures in
    let none = if_ok c.take_line.result c.in_ok-take_line.field-0 _ c.in_ok-take_line.was c.take_line.ensures.refused c.if-not-branch.true in
    let none_now = subst (λ k. TakesNone k c.in-Some.text.now) kept none in
    let here = wrong_next bytes es c.args.self.now read c.in-Some.text.now c.in-Some.behind.now (sym rest ∙ parts.0) parts.1 none_now in
    let same : c.self.inside.line ≡ n = cc in
    subst (λ m. IsWrongLine m bytes × IsNoText bytes) (sym line ∙ same) here

pub overflow_add-self : goal.overflow_add-self
overflow_add-self c = grind (arith, nat_tests, few_lines_read)

pub returns-clause-taken : goal.returns-clause-taken
returns-clause-taken c = grind (arith, nat_tests, line_parts, if_ok, further_read)
