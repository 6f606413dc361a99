use Rattle.std.proofs.Common.{suc, ◌≡◌, ◌+◌, ◌∙◌, ap, arith}
use Rattle.dk_trace.specs.Entries.{quiet}
use Rattle.dk_window_report.specs.declared.row.Row.{Row}
use Rattle.dk_window_report.specs.Passing.{gone_by}
use Rattle.dk_window_report.specs.Rows.{stepped}
use Rattle.dk_cycle_counts.specs.declared.begins.BeginTicks.{BeginTicks}
use Rattle.dk_cycle_counts.specs.Begins.{begins_gone_by, begins_with}
use Rattle.dk_cycle_counts.proofs.begins.BeginTicks.paid_by.Goals as goal

pub loop-tick-preserved : goal.loop-tick-preserved
loop-tick-preserved c =
    let n = c.loop-tick.tick in
    let q = quiet c.args.label in
    let at = c.args.ticks + n in
    let one : suc n ≡ n + 1 = omega arith in (
      c.with_entry-begins.ensures ∙ ap (λ (r : Row). begins_with at q r c.loop-tick.begins) c.loop-tick.invariant.1
          ∙ ap (λ (b : BeginTicks). begins_with at q (gone_by q c.args.ticks n c.args.row.now) b) c.loop-tick.invariant.0
          ∙ ap (λ k. begins_gone_by c.args.ticks c.args.label k c.args.row.now c.args.self) one,
      c.stepped-main.ensures ∙ ap (stepped at q) c.loop-tick.invariant.1 ∙ ap (λ k. gone_by q c.args.ticks k c.args.row.now) one,
    )
