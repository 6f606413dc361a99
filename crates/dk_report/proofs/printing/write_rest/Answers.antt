use Rattle.std.proofs.Common.{◌≡◌, ◌++◌, ap, refl, sym, rules}
use Rattle.std.specs.Prelude.{codes, decimal, IsErr}
use Rattle.dk_outside.proofs.WrittenLemmas.{first_fails, second_ends}
use Rattle.dk_ledger.specs.Heading.{ended}
use Rattle.dk_ledger.specs.Ledgers.{end_line}
use Rattle.dk_report.specs.Report.{process_lines, rest_text}
use Rattle.dk_report.proofs.printing.write_rest.Goals as goal

pub returns-in_err-write_processes : goal.returns-in_err-write_processes
returns-in_err-write_processes g c =
    let lines = process_lines c.args.header.now 0 c.args.totals.now in
    let fails : IsErr c.from_residual.result = search rules in
    first_fails lines (end_line c.args.entries) (rest_text c.args.header.now c.args.totals.now c.args.entries) refl
    _ _ _ c.from_residual.result fails c.in_err-write_processes.ensures

pub returns : goal.returns
returns g c =
    let lines = process_lines c.args.header.now 0 c.args.totals.now in
    let end_is : c.end_of.result ≡ codes "end " ++ decimal c.args.entries = search rules in
    second_ends lines (ended c.end_of.result) (rest_text c.args.header.now c.args.totals.now c.args.entries) (ap (λ t. lines ++ ended t) (sym end_is))
    _ _ _ _ c.write_to.result c.in_ok-write_processes.ensures c.write_to.ensures
