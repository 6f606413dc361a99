use Rattle.std.proofs.Common.{◌≡◌, length, arith, rules}
use Rattle.dk_window_report.specs.Late.{late_with}
use Rattle.dk_window_report.proofs.Found.{changed-here, changed-nowhere}
use Rattle.dk_window_report.proofs.rows.change_at.Goals as goal

pub returns-then-place-len : goal.returns-then-place-len
returns-then-place-len c =
    let size : c.len.result ≡ length c.args.lates.now.items = search rules in
    let there = c.if-place-len.true in
    changed-here (late_with c.args.now c.args.entry) c.args.lates.now.items c.in-Some.place _ c.index.result.now c.late_with.result c.args.place
    c.in-Some.is (omega (arith, size, there)) c.index.ensures c.late_with.ensures

pub returns-else-place-len : goal.returns-else-place-len
returns-else-place-len c =
    let size : c.len.result ≡ length c.args.lates.now.items = search rules in
    let past = c.if-place-len.false in
    changed-nowhere (late_with c.args.now c.args.entry) c.args.lates.now.items c.in-Some.place c.args.place c.in-Some.is (omega (arith, size, past))
