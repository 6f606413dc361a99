use Rattle.std.proofs.Common.{◌≡◌, ◌++◌, refl, subst, sym}
use Rattle.dk_ledger.specs.Heading.{Heading}
use Rattle.dk_groups.specs.Groups.{groups}
use Rattle.dk_groups.specs.Writing.{Puts}
use Rattle.dk_trace_events.specs.Behind.{lines_text, past_of}
use Rattle.dk_trace_events.specs.HoldSlices.{open_holds}
use Rattle.dk_trace_events.specs.Traces.{end_text, groups_text}
use Rattle.dk_groups.proofs.Puts.{put_ends, put_fails}
use Rattle.dk_trace_events.proofs.writing.write_objects.Goals as goal

pub returns-in_err-write_groups : goal.returns-in_err-write_groups
returns-in_err-write_groups g c = λ j readable heading start start_line.
    let from = c.args.reader.now.from in
    let own = groups_text j.heading (groups from c.args.reader.now.to j.entries) in
    let ls = groups c.args.lines.now.from c.args.lines.now.to j.entries in
    let behind = lines_text j.heading from ls ++ (open_holds j.heading from c.args.lines.now.to (past_of ls) ++ end_text from c.args.lines.now.to j.heading c.args.overruns.now) in
    put_fails own behind (own ++ behind) refl (g.S.Sink.seen c.args.sink.now) (g.S.Sink.seen c.write_groups.new.sink) _ c.from_residual.result c.from_residual.ensures.1
    (c.in_err-write_groups.ensures j readable start)

pub returns : goal.returns
returns g c = λ j readable heading start start_line.
    let from = c.args.reader.now.from in
    let to = c.args.lines.now.to in
    let own = groups_text j.heading (groups from c.args.reader.now.to j.entries) in
    let ls = groups c.args.lines.now.from to j.entries in
    let behind = lines_text j.heading from ls ++ (open_holds j.heading from to (past_of ls) ++ end_text from to j.heading c.args.overruns.now) in
    let first : c.first_tick-from.result ≡ from = c.first_tick-from.ensures in
    let put = subst (λ n. Puts (g.S.Sink.seen c.write_groups.new.sink) (g.S.Sink.seen c.write_end.new.sink) c.write_end.result
    (lines_text c.args.header.now n ls ++ (open_holds c.args.header.now n to (past_of ls) ++ end_text n to c.args.header.now c.args.overruns.now))) first (c.write_end.ensures j readable start_line) in
    put_ends own behind (own ++ behind) refl (g.S.Sink.seen c.args.sink.now) (g.S.Sink.seen c.write_groups.new.sink) (g.S.Sink.seen c.write_end.new.sink) _ c.write_end.result
    (c.in_ok-write_groups.ensures j readable start)
    (subst (λ (h : Heading). Puts (g.S.Sink.seen c.write_groups.new.sink) (g.S.Sink.seen c.write_end.new.sink) c.write_end.result
    (lines_text h from ls ++ (open_holds h from to (past_of ls) ++ end_text from to h c.args.overruns.now))) (sym heading) put)
