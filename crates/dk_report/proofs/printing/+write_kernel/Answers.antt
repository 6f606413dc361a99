use Rattle.std.proofs.Common.{◌+◌, rules}
use Rattle.std.specs.Prelude.{IsErr}
use Rattle.dk_outside.proofs.WrittenLemmas.{first_fails, second_ends}
use Rattle.dk_ledger.specs.Heading.{ended}
use Rattle.dk_ledger.proofs.HeaderLemmas.{rest_of}
use Rattle.dk_report.specs.Report.{kernel_lines}
use Rattle.dk_report.proofs.ReportLemmas.{kernel_parts}
use Rattle.dk_report.proofs.printing.+write_kernel.Goals as goal

pub returns-in_err-write_to-in-len1-up : goal.returns-in_err-write_to-in-len1-up
returns-in_err-write_to-in-len1-up g t c =
    let parts = kernel_parts c.args.level c.args.ticks.now _ c.kernel_text.result c.in-len1-up.len_at_least c.kernel_text.ensures.text in
    let fails : IsErr c.from_residual.result = search rules in
    first_fails (ended c.kernel_text.result) (kernel_lines (c.args.level + 1) (rest_of c.args.ticks.now)) (kernel_lines c.args.level c.args.ticks.now) parts
    _ _ _ c.from_residual.result fails c.in_err-write_to-in-len1-up.ensures

pub returns-in_ok-write_to-in-len1-up : goal.returns-in_ok-write_to-in-len1-up
returns-in_ok-write_to-in-len1-up g t c =
    let parts = kernel_parts c.args.level c.args.ticks.now _ c.kernel_text.result c.in-len1-up.len_at_least c.kernel_text.ensures.text in
    second_ends (ended c.kernel_text.result) (kernel_lines (c.args.level + 1) (rest_of c.args.ticks.now)) (kernel_lines c.args.level c.args.ticks.now) parts
    _ _ _ _ c.write_kernel.result c.in_ok-write_to-in-len1-up.ensures c.write_kernel.ensures
