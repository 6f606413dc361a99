use Rattle.dk_ledger.proofs.Names.{◌+◌, rules, IsErr, first_fails, second_ends, level_lines, ended}
use Rattle.dk_ledger.proofs.HeaderLemmas.{rest_of, level_parts}
use Rattle.dk_ledger.proofs.header_text.+write_levels.Goals as goal

pub returns-in_err-write_to-in-len1-up : goal.returns-in_err-write_to-in-len1-up
returns-in_err-write_to-in-len1-up g t c =
    let parts = level_parts c.args.level c.args.rows.now _ c.level_text.result c.in-len1-up.len_at_least c.level_text.ensures.text in
    let fails : IsErr c.from_residual.result = search rules in
    first_fails (ended c.level_text.result) (level_lines (c.args.level + 1) (rest_of c.args.rows.now)) (level_lines c.args.level c.args.rows.now) parts
    _ _ _ c.from_residual.result fails c.in_err-write_to-in-len1-up.ensures

pub returns-in_ok-write_to-in-len1-up : goal.returns-in_ok-write_to-in-len1-up
returns-in_ok-write_to-in-len1-up g t c =
    let parts = level_parts c.args.level c.args.rows.now _ c.level_text.result c.in-len1-up.len_at_least c.level_text.ensures.text in
    second_ends (ended c.level_text.result) (level_lines (c.args.level + 1) (rest_of c.args.rows.now)) (level_lines c.args.level c.args.rows.now) parts
    _ _ _ _ c.write_levels.result c.in_ok-write_to-in-len1-up.ensures c.write_levels.ensures
