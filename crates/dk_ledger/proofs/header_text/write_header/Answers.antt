use Rattle.dk_ledger.proofs.Names.{◌≡◌, ◌++◌, ◌∙◌, ap, sym, rules, IsErr, first_fails, second_ends, level_lines, process_lines, header_text}
use Rattle.dk_ledger.proofs.header_text.write_header.Goals as goal

pub returns-in_err-write_levels : goal.returns-in_err-write_levels
returns-in_err-write_levels g c =
    let h = c.args.header.now in
    let rows = c.as_slice.result.now in
    let same_levels : rows ≡ h.levels = search rules in
    let fails : IsErr c.from_residual.result = search rules in
    first_fails (level_lines 0 rows) (process_lines h.processes) (header_text h)
    (ap (λ ls. level_lines 0 ls ++ process_lines h.processes) (sym same_levels))
    _ _ _ c.from_residual.result fails c.in_err-write_levels.ensures

pub returns : goal.returns
returns g c =
    let h = c.args.header.now in
    let rows = c.as_slice.result.now in
    let ps = c.as_slice-2.result.now in
    let same_levels : rows ≡ h.levels = search rules in
    let same_processes : ps ≡ h.processes = search rules in
    second_ends (level_lines 0 rows) (process_lines ps) (header_text h)
    (ap (λ ls. level_lines 0 ls ++ process_lines h.processes) (sym same_levels) ∙ ap (λ qs. level_lines 0 rows ++ process_lines qs) (sym same_processes))
    _ _ _ _ c.write_processes.result c.in_ok-write_levels.ensures c.write_processes.ensures
