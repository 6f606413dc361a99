use Rattle.std.proofs.Common.{sym, arith}
use Rattle.dk_chain_report.proofs.Windows.{turn-same, turn-later}
use Rattle.dk_chain_report.proofs.steps.turn_at.Goals as goal

pub returns-then-before-window_at : goal.returns-then-before-window_at
returns-then-before-window_at c done are =
    let some = c.if-place-eq0.false in
    let same = c.if-before-window_at.true in
    sym (turn-same c.args.config.now done c.args.first c.args.rest.now c.args.event c.args.place c.window_at-before.result c.window_at.result (omega (arith, some))
    (c.window_at-before.ensures.at done are) (c.window_at.ensures.at done are) (omega (arith, same)))

pub returns-else-before-window_at : goal.returns-else-before-window_at
returns-else-before-window_at c done are =
    let some = c.if-place-eq0.false in
    let other = c.if-before-window_at.false in
    sym (turn-later c.args.config.now done c.args.first c.args.rest.now c.args.event c.args.place c.window_at-before.result c.window_at.result (omega (arith, some))
    (c.window_at-before.ensures.at done are) (c.window_at.ensures.at done are) (λ same. omega (arith, other, same)))
