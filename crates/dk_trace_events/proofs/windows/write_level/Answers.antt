use Rattle.std.proofs.Common.{◌++◌, ap, sym, rules}
use Rattle.std.specs.Prelude.{IsErr}
use Rattle.dk_outside.proofs.WrittenLemmas.{first_fails, second_ends}
use Rattle.dk_trace_events.specs.LevelWindows.{level_text, windows_of}
use Rattle.dk_trace_events.proofs.windows.write_level.Goals as goal

pub returns-in_err-write_to : goal.returns-in_err-write_to
returns-in_err-write_to g c =
    let row = c.args.row in
    let behind = windows_of c.args.from c.args.to c.args.level row.period in
    let fails : IsErr c.from_residual.result = search rules in
    first_fails c.level_named.result behind (level_text c.args.from c.args.to c.args.level row)
    (ap (λ t. t ++ behind) (sym c.level_named.ensures)) _ _ _ c.from_residual.result fails c.in_err-write_to.ensures

pub returns : goal.returns
returns g c =
    let row = c.args.row in
    let behind = windows_of c.args.from c.args.to c.args.level row.period in
    second_ends c.level_named.result behind (level_text c.args.from c.args.to c.args.level row)
    (ap (λ t. t ++ behind) (sym c.level_named.ensures)) _ _ _ _ c.write_windows_of.result c.in_ok-write_to.ensures c.write_windows_of.ensures
