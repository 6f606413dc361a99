use Rattle.std.proofs.Common.{suc, ◌≡◌, ◌∙◌, ◌-◌, ap, sym, arith, reverse, take, drop}
use Rattle.dk_window_report.specs.Windows.{done_in}
use Rattle.dk_overrun_spans.proofs.LastTicks.{found-there, passed-over}
use Rattle.dk_overrun_spans.proofs.scanning.done_in.Goals as goal

pub returns-then-is_paid_at-clause-done : goal.returns-then-is_paid_at-clause-done
returns-then-is_paid_at-clause-done c =
    let x = c.args.thread in
    let own = drop c.args.start c.args.entries.now in
    let n = c.loop-done.done - 1 in
    let some = c.loop-done-test.true in
    let split : suc n ≡ c.loop-done.done = omega (arith, some) in
    let found = found-there x c.args.entries.now c.args.start n (sym c.is_paid_at.ensures ∙ c.if-is_paid_at.true) in
    sym (c.loop-done.invariant ∙ ap (λ m. done_in x (reverse (take m own))) (sym split) ∙ found.0 ∙ split)

pub returns-then-is_paid_at-clause-within : goal.returns-then-is_paid_at-clause-within
returns-then-is_paid_at-clause-within c = λ some.
    let found = found-there c.args.thread c.args.entries.now c.args.start (c.loop-done.done - 1) (sym c.is_paid_at.ensures ∙ c.if-is_paid_at.true) in
    let at = found.1 in
    omega (arith, some, at)

pub loop-done-preserved : goal.loop-done-preserved
loop-done-preserved c =
    let x = c.args.thread in
    let own = drop c.args.start c.args.entries.now in
    let n = c.loop-done.done - 1 in
    let some = c.loop-done-test.true in
    let split : c.loop-done.done ≡ suc n = omega (arith, some) in
    c.loop-done.invariant ∙ ap (λ m. done_in x (reverse (take m own))) split
    ∙ passed-over x c.args.entries.now c.args.start n (sym c.is_paid_at.ensures ∙ c.if-is_paid_at.false)
