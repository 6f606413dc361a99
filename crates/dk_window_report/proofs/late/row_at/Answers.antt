use Rattle.std.proofs.Common.{◌-◌, ◌∙◌, ap, arith}
use Rattle.dk_window_report.specs.Late.{windows_before, after}
use Rattle.dk_window_report.proofs.Idle.{passed-to}
use Rattle.dk_window_report.proofs.late.row_at.Goals as goal

pub returns : goal.returns
returns c =
    let r = c.args.late.now.row in
    let early = c.if-now-late.false in
    c.after.ensures
    ∙ ap (λ k. after k r)
    (c.saturating_sub-windows.ensures ∙ ap (λ k. k - c.windows_before-2.result) c.windows_before.ensures
    ∙ ap (λ k. windows_before r c.args.now - k) c.windows_before-2.ensures)
    ∙ passed-to r c.args.late.now.tick c.args.now (omega (arith, early))
