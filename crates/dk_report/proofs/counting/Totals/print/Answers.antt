use Rattle.std.proofs.Common.{◌++◌, ap, sym, rules}
use Rattle.std.specs.Prelude.{IsErr}
use Rattle.dk_outside.proofs.WrittenLemmas.{first_fails, second_ends}
use Rattle.dk_ledger.specs.Heading.{ended}
use Rattle.dk_report.specs.Report.{lines_text, numbers_text}
use Rattle.dk_report.proofs.counting.Totals.print.Goals as goal

pub returns-in_err-write_to-clause-wrote : goal.returns-in_err-write_to-clause-wrote
returns-in_err-write_to-clause-wrote g c =
    let lines = lines_text c.args.header.now c.args.self.now in
    let parts = ap (λ t. ended t ++ lines) (sym c.total_line.ensures.text) in
    let fails : IsErr c.from_residual.result = search rules in
    first_fails (ended c.total_line.result) lines (numbers_text c.args.header.now c.args.self.now) parts
    _ _ _ c.from_residual.result fails c.in_err-write_to.ensures

pub returns-clause-wrote : goal.returns-clause-wrote
returns-clause-wrote g c =
    let lines = lines_text c.args.header.now c.args.self.now in
    let parts = ap (λ t. ended t ++ lines) (sym c.total_line.ensures.text) in
    second_ends (ended c.total_line.result) lines (numbers_text c.args.header.now c.args.self.now) parts
    _ _ _ _ c.write_lines.result c.in_ok-write_to.ensures c.write_lines.ensures
