use Rattle.std.proofs.Common.{◌++◌, [], refl}
use Rattle.dk_groups.proofs.Going.{cut_short, then_puts}
use Rattle.dk_groups.proofs.Texts.{nothing_put}
use Rattle.dk_trace_events.specs.HoldSlices.{open_holds}
use Rattle.dk_trace_events.specs.Traces.{end_text}
use Rattle.dk_trace_events.proofs.writing.write_last.Goals as goal

pub returns-in_err-write_open_holds : goal.returns-in_err-write_open_holds
returns-in_err-write_open_holds g c = λ past holders.
    let own = open_holds c.args.header.now c.args.from c.args.to past in
    let end = end_text c.args.from c.args.to c.args.header.now c.args.overruns.now in
    cut_short (own ++ end) []
    (g.S.Sink.seen c.args.sink.now) (g.S.Sink.seen c.args.sink.now) (g.S.Sink.seen c.write_open_holds.new.sink) _ c.from_residual.result own end c.from_residual.ensures.1
    refl (nothing_put (g.S.Sink.seen c.args.sink.now).written) refl refl (c.in_err-write_open_holds.ensures past holders)

pub returns : goal.returns
returns g c = λ past holders.
    let own = open_holds c.args.header.now c.args.from c.args.to past in
    let end = end_text c.args.from c.args.to c.args.header.now c.args.overruns.now in
    then_puts (own ++ end) own
    (g.S.Sink.seen c.args.sink.now) (g.S.Sink.seen c.write_open_holds.new.sink) (g.S.Sink.seen c.write_windows.new.sink) _ c.write_windows.result end refl
    (c.in_ok-write_open_holds.ensures past holders) c.write_windows.ensures
