use Rattle.std.proofs.Common.{◌≡◌, ◌+◌, ◌-◌, ◌∙◌, sym, ap, arith}
use Rattle.dk_window_report.specs.Late.{passed}
use Rattle.dk_window_report.proofs.QuietTicks.{unpaid}
use Rattle.dk_window_report.proofs.passing.gone_by.Goals as goal

pub returns : goal.returns
returns c =
    let all : c.args.now + c.args.count - c.args.now ≡ c.args.count = omega arith in
    c.row_at.ensures ∙ ap (λ n. passed c.args.now n c.args.row) all
    ∙ sym (unpaid c.args.label c.args.now c.args.count c.args.row (sym c.is_paid_by.ensures ∙ c.if-is_paid_by.false))
