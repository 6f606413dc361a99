use Rattle.std.proofs.Common.{arith}
use Rattle.dk_chain_report.proofs.Windows.{over-by}
use Rattle.dk_chain_report.proofs.steps.over_by.Goals as goal

pub returns : goal.returns
returns c =
    let some = c.if-place-eq0.false in
    over-by c.args.config.now c.args.first c.args.rest.now c.args.event c.args.place c.process_at.result c.done_by.result c.window_at.result (omega (arith, some))
    c.process_at.ensures
    (record { reached = c.done_by.ensures.reached; least = c.done_by.ensures.least }) c.window_at.ensures.at c.window_at.ensures.after
