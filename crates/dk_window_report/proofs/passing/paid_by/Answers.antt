use Rattle.std.proofs.Common.{◌≡◌, ◌+◌, ◌%◌, ◌∙◌, suc, sym, ap, arith}
use Rattle.dk_trace.specs.Entries.{quiet}
use Rattle.dk_window_report.specs.declared.row.Did.{Did}
use Rattle.dk_window_report.specs.Rows.{stepped}
use Rattle.dk_window_report.specs.Passing.{gone_by, worked}
use Rattle.dk_window_report.proofs.QuietTicks.{at-once}
use Rattle.dk_window_report.proofs.passing.paid_by.Goals as goal

pub loop-tick-init : goal.loop-tick-init
loop-tick-init c =
    let r = c.args.row in
    let few = c.ticks_within-few.result in
    ap (λ (d : Did). record r { did = d })
    (c.worked.ensures ∙ ap (λ k. worked k few r.did) (c.ticks_in-ticks.ensures ∙ ap (λ n. n % r.period) c.saturating_sub.ensures))
    ∙ sym (at-once c.args.label c.args.now few r c.requires.paid c.ticks_within-few.ensures.since c.ticks_within-few.ensures.within)

pub loop-tick-preserved : goal.loop-tick-preserved
loop-tick-preserved c =
    let n = c.loop-tick.tick in
    let one : suc n ≡ n + 1 = omega arith in
    c.stepped-after.ensures ∙ ap (stepped (c.args.now + n) (quiet c.args.label)) c.loop-tick.invariant
    ∙ ap (λ k. gone_by (quiet c.args.label) c.args.now k c.args.row) one
