use Rattle.std.proofs.Common.{◌+◌, rules}
use Rattle.std.specs.Prelude.{IsErr}
use Rattle.dk_outside.proofs.WrittenLemmas.{first_fails, second_ends}
use Rattle.dk_ledger.specs.Heading.{ended}
use Rattle.dk_ledger.proofs.HeaderLemmas.{rest_of}
use Rattle.dk_report.specs.Report.{process_lines}
use Rattle.dk_report.proofs.ReportLemmas.{process_parts}
use Rattle.dk_report.proofs.printing.+write_processes.Goals as goal

pub returns-in_err-write_to-in-len1-up : goal.returns-in_err-write_to-in-len1-up
returns-in_err-write_to-in-len1-up g t c =
    let parts = process_parts c.args.header.now c.args.process c.args.totals.now _ c.name_at.result.now c.process_text.result c.in-len1-up.len_at_least c.name_at.ensures.name c.process_text.ensures.text in
    let fails : IsErr c.from_residual.result = search rules in
    first_fails (ended c.process_text.result) (process_lines c.args.header.now (c.args.process + 1) (rest_of c.args.totals.now)) (process_lines c.args.header.now c.args.process c.args.totals.now) parts
    _ _ _ c.from_residual.result fails c.in_err-write_to-in-len1-up.ensures

pub returns-in_ok-write_to-in-len1-up : goal.returns-in_ok-write_to-in-len1-up
returns-in_ok-write_to-in-len1-up g t c =
    let parts = process_parts c.args.header.now c.args.process c.args.totals.now _ c.name_at.result.now c.process_text.result c.in-len1-up.len_at_least c.name_at.ensures.name c.process_text.ensures.text in
    second_ends (ended c.process_text.result) (process_lines c.args.header.now (c.args.process + 1) (rest_of c.args.totals.now)) (process_lines c.args.header.now c.args.process c.args.totals.now) parts
    _ _ _ _ c.write_processes.result c.in_ok-write_to-in-len1-up.ensures c.write_processes.ensures
