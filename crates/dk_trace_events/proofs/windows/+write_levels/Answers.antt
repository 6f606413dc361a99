use Rattle.std.proofs.Common.{◌+◌, rules}
use Rattle.std.specs.Prelude.{IsErr}
use Rattle.dk_outside.proofs.WrittenLemmas.{first_fails, second_ends}
use Rattle.dk_ledger.proofs.HeaderLemmas.{rest_of}
use Rattle.dk_trace_events.specs.LevelWindows.{level_texts}
use Rattle.dk_trace_events.proofs.WindowTexts.{level_parts}
use Rattle.dk_trace_events.proofs.windows.+write_levels.Goals as goal

pub returns-in_err-write_level-in-len1-up : goal.returns-in_err-write_level-in-len1-up
returns-in_err-write_level-in-len1-up g t c =
    let a = c.args.from in
    let b = c.args.to in
    let j = c.args.level in
    let fails : IsErr c.from_residual.result = search rules in
    first_fails _ (level_texts a b (j + 1) (rest_of c.args.rows.now)) (level_texts a b j c.args.rows.now)
    (level_parts a b j c.args.rows.now _ c.in-len1-up.len_at_least) _ _ _ c.from_residual.result fails c.in_err-write_level-in-len1-up.ensures

pub returns-in_ok-write_level-in-len1-up : goal.returns-in_ok-write_level-in-len1-up
returns-in_ok-write_level-in-len1-up g t c =
    let a = c.args.from in
    let b = c.args.to in
    let j = c.args.level in
    second_ends _ (level_texts a b (j + 1) (rest_of c.args.rows.now)) (level_texts a b j c.args.rows.now)
    (level_parts a b j c.args.rows.now _ c.in-len1-up.len_at_least) _ _ _ _ c.write_levels.result c.in_ok-write_level-in-len1-up.ensures c.write_levels.ensures
