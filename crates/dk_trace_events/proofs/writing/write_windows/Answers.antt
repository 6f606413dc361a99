use Rattle.std.proofs.Common.{◌++◌, [], refl}
use Rattle.dk_groups.proofs.Going.{cut_short, then_puts}
use Rattle.dk_groups.proofs.Texts.{nothing_put}
use Rattle.dk_trace_events.specs.LevelWindows.{level_texts}
use Rattle.dk_trace_events.specs.OverrunInstants.{overruns_text}
use Rattle.dk_trace_events.specs.Traces.{tail_text}
use Rattle.dk_trace_events.proofs.writing.write_windows.Goals as goal

pub returns-in_err-write_overruns : goal.returns-in_err-write_overruns
returns-in_err-write_overruns g c =
    let own = overruns_text c.args.from c.args.to c.args.overruns.now in
    let rest = level_texts c.args.from c.args.to 0 c.args.header.now.levels ++ tail_text in
    cut_short (own ++ rest) []
    (g.S.Sink.seen c.args.sink.now) (g.S.Sink.seen c.args.sink.now) (g.S.Sink.seen c.write_overruns.new.sink) _ c.from_residual.result own rest c.from_residual.ensures.1
    refl (nothing_put (g.S.Sink.seen c.args.sink.now).written) refl refl c.in_err-write_overruns.ensures

pub returns : goal.returns
returns g c =
    let own = overruns_text c.args.from c.args.to c.args.overruns.now in
    let rest = level_texts c.args.from c.args.to 0 c.args.header.now.levels ++ tail_text in
    then_puts (own ++ rest) own
    (g.S.Sink.seen c.args.sink.now) (g.S.Sink.seen c.write_overruns.new.sink) (g.S.Sink.seen c.write_windows_and_tail.new.sink) _ c.write_windows_and_tail.result rest refl
    c.in_ok-write_overruns.ensures c.write_windows_and_tail.ensures
