use Rattle.std.proofs.Common.{◌≡◌, ◌++◌, ◌∙◌, ap, sym, rules}
use Rattle.std.specs.Prelude.{IsErr}
use Rattle.dk_outside.proofs.WrittenLemmas.{first_fails, second_ends}
use Rattle.dk_report.specs.Report.{kernel_lines, rest_text, lines_text}
use Rattle.dk_report.proofs.counting.Totals.write_lines.Goals as goal

pub returns-in_err-write_kernel : goal.returns-in_err-write_kernel
returns-in_err-write_kernel g c =
    let h = c.args.header.now in
    let n = c.args.self.now in
    let levels = c.as_slice.result.now in
    let same_levels : levels ≡ n.levels = search rules in
    let fails : IsErr c.from_residual.result = search rules in
    first_fails (kernel_lines 0 levels) (rest_text h n.processes n.entries) (lines_text h n)
    (ap (λ ns. kernel_lines 0 ns ++ rest_text h n.processes n.entries) (sym same_levels))
    _ _ _ c.from_residual.result fails c.in_err-write_kernel.ensures

pub returns : goal.returns
returns g c =
    let h = c.args.header.now in
    let n = c.args.self.now in
    let levels = c.as_slice.result.now in
    let processes = c.as_slice-2.result.now in
    let entries = c.sums.result.entries in
    let same_levels : levels ≡ n.levels = search rules in
    let same_processes : processes ≡ n.processes = search rules in
    let same_entries : entries ≡ n.entries = search rules in
    second_ends (kernel_lines 0 levels) (rest_text h processes entries) (lines_text h n)
    (ap (λ ns. kernel_lines 0 ns ++ rest_text h n.processes n.entries) (sym same_levels)
    ∙ ap (λ ts. kernel_lines 0 levels ++ rest_text h ts n.entries) (sym same_processes)
    ∙ ap (λ k. kernel_lines 0 levels ++ rest_text h processes k) (sym same_entries))
    _ _ _ _ c.write_rest.result c.in_ok-write_kernel.ensures c.write_rest.ensures
