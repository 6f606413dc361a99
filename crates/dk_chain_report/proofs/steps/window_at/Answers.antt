use Rattle.dk_chain_report.proofs.Windows.{next-window}
use Rattle.dk_chain_report.proofs.steps.window_at.Goals as goal

pub loop-before-preserved : goal.loop-before-preserved
loop-before-preserved c =
    let free = c.free_from-free in
    let next = c.next_window-start-in-loop-before in
    next-window c.args.config.now c.args.first c.args.rest.now c.args.event c.loop-before.before c.loop-before.start c.process_at.result c.process_at-next.result
    free.result next.result c.loop-before.invariant c.process_at.ensures c.process_at-next.ensures free.ensures.from free.ensures.after free.ensures.few next.ensures.start
    next.ensures.after next.ensures.few
