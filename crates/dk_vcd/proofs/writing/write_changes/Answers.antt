use Rattle.std.proofs.Common.{◌++◌, refl}
use Rattle.std.specs.Prelude.{None}
use Rattle.dk_groups.specs.Groups.{groups}
use Rattle.dk_groups.proofs.Puts.{put_ends, put_fails}
use Rattle.dk_vcd.specs.Changes.{changes_text}
use Rattle.dk_vcd.specs.Dumps.{tail_text}
use Rattle.dk_vcd.proofs.writing.write_changes.Goals as goal

pub returns-in_err-write_groups : goal.returns-in_err-write_groups
returns-in_err-write_groups g c = λ j readable start held are.
    let own = changes_text j.heading j.entries None (groups c.args.reader.now.from c.args.reader.now.to j.entries) in
    let behind = tail_text c.args.end in
    put_fails own behind (own ++ behind) refl (g.S.Sink.seen c.args.sink.now) (g.S.Sink.seen c.write_groups.new.sink) _ c.from_residual.result c.from_residual.ensures.1
    (c.in_err-write_groups.ensures j readable start held are)

pub returns : goal.returns
returns g c = λ j readable start held are.
    let own = changes_text j.heading j.entries None (groups c.args.reader.now.from c.args.reader.now.to j.entries) in
    let behind = tail_text c.args.end in
    put_ends own behind (own ++ behind) refl (g.S.Sink.seen c.args.sink.now) (g.S.Sink.seen c.write_groups.new.sink) (g.S.Sink.seen c.write_tail.new.sink) _ c.write_tail.result
    (c.in_ok-write_groups.ensures j readable start held are) c.write_tail.ensures
