use Rattle.std.proofs.Common.{◌≡◌, ◌++◌, refl, subst}
use Rattle.dk_ledger.specs.Heading.{Heading}
use Rattle.dk_ledger.proofs.NextItem.{if_ok}
use Rattle.dk_groups.specs.Groups.{groups}
use Rattle.dk_groups.specs.Writing.{Puts}
use Rattle.dk_trace_events.specs.Behind.{AreKnown, lines_text, past_of}
use Rattle.dk_trace_events.specs.HoldSlices.{open_holds}
use Rattle.dk_trace_events.specs.Traces.{end_text}
use Rattle.dk_trace_events.proofs.Behind.{known_at_end}
use Rattle.dk_groups.proofs.Puts.{put_ends, put_fails}
use Rattle.dk_trace_events.proofs.writing.write_end.Goals as goal

pub write_last-requires-clause-known : goal.write_last-requires-clause-known
write_last-requires-clause-known g c =
    let start = c.requires.start in
    let lines = c.args.lines.now in
    let holders = if_ok c.write_lines.result c.in_ok-holders.holders _ c.in_ok-holders.was c.write_lines.ensures.holders start.0 start.1 start.3 in
    subst (λ (h : Heading). AreKnown h c.in_ok-holders.holders) start.2 (known_at_end start.0 lines.from lines.to c.in_ok-holders.holders start.1 holders)

pub returns-in_err-holders : goal.returns-in_err-holders
returns-in_err-holders g c = λ j readable start.
    let h = c.args.header.now in
    let from = c.args.from in
    let ls = groups c.args.lines.now.from c.args.lines.now.to j.entries in
    let own = lines_text h from ls in
    let behind = open_holds h from c.args.lines.now.to (past_of ls) ++ end_text from c.args.lines.now.to h c.args.overruns.now in
    put_fails own behind (own ++ behind) refl (g.S.Sink.seen c.args.sink.now) (g.S.Sink.seen c.write_lines.new.sink) _ c.from_residual.result c.from_residual.ensures.1
    (c.in_err-holders.ensures.text j readable start)

pub returns : goal.returns
returns g c = λ j readable start.
    let h = c.args.header.now in
    let from = c.args.from in
    let to = c.args.lines.now.to in
    let ls = groups c.args.lines.now.from to j.entries in
    let own = lines_text h from ls in
    let behind = open_holds h from to (past_of ls) ++ end_text from to h c.args.overruns.now in
    let holders = if_ok c.write_lines.result c.in_ok-holders.holders _ c.in_ok-holders.was c.write_lines.ensures.holders j readable start in
    let last : c.end_tick-to.result ≡ to = c.end_tick-to.ensures in
    put_ends own behind (own ++ behind) refl (g.S.Sink.seen c.args.sink.now) (g.S.Sink.seen c.write_lines.new.sink) (g.S.Sink.seen c.write_last.new.sink) _ c.write_last.result
    (c.in_ok-holders.ensures.text j readable start)
    (subst (λ n. Puts (g.S.Sink.seen c.write_lines.new.sink) (g.S.Sink.seen c.write_last.new.sink) c.write_last.result
    (open_holds h from n (past_of ls) ++ end_text from n h c.args.overruns.now)) last (c.write_last.ensures (past_of ls) holders))
