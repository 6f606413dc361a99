use Rattle.std.proofs.Common.{◌≡◌, ◌++◌, [], ap, sym, refl, rules}
use Rattle.dk_groups.proofs.Going.{cut_short, then_puts}
use Rattle.dk_groups.proofs.Texts.{nothing_put}
use Rattle.dk_trace_events.specs.LevelWindows.{level_texts}
use Rattle.dk_trace_events.specs.Traces.{tail_text}
use Rattle.dk_trace_events.proofs.writing.write_windows_and_tail.Goals as goal

pub returns-in_err-write_levels : goal.returns-in_err-write_levels
returns-in_err-write_levels g c =
    let h = c.args.header.now in
    let own = level_texts c.args.from c.args.to 0 c.as_slice.result.now in
    let same : c.as_slice.result.now ≡ h.levels = search rules in
    cut_short (level_texts c.args.from c.args.to 0 h.levels ++ tail_text) []
    (g.S.Sink.seen c.args.sink.now) (g.S.Sink.seen c.args.sink.now) (g.S.Sink.seen c.write_levels.new.sink) _ c.from_residual.result own tail_text c.from_residual.ensures.1
    (ap (λ rows. level_texts c.args.from c.args.to 0 rows ++ tail_text) (sym same)) (nothing_put (g.S.Sink.seen c.args.sink.now).written) refl refl c.in_err-write_levels.ensures

pub returns : goal.returns
returns g c =
    let h = c.args.header.now in
    let own = level_texts c.args.from c.args.to 0 c.as_slice.result.now in
    let same : c.as_slice.result.now ≡ h.levels = search rules in
    then_puts (level_texts c.args.from c.args.to 0 h.levels ++ tail_text) own
    (g.S.Sink.seen c.args.sink.now) (g.S.Sink.seen c.write_levels.new.sink) (g.S.Sink.seen c.write_tail.new.sink) _ c.write_tail.result tail_text
    (ap (λ rows. level_texts c.args.from c.args.to 0 rows ++ tail_text) (sym same)) c.in_ok-write_levels.ensures c.write_tail.ensures
