use Rattle.dk_picture.proofs.Names.{◌+◌, ◌*◌, ◌/◌, ◌≤◌, arith, mul-le-mul_left, tick_text, each_added}
use Rattle.std.specs.Prelude.{string_bytes}
use Rattle.dk_picture.proofs.axis.add_ticks.Goals as goal

pub overflow_mul-tick : goal.overflow_mul-tick
overflow_mul-tick c =
    let le : c.first_drawn-first.result + c.loop-number.number ≤ c.args.span.to / c.args.step = omega arith in
    omega (arith, mul-le-mul_left c.args.step le)

pub loop-number-preserved : goal.loop-number-preserved
loop-number-preserved c =
    each_added (λ i. tick_text c.args.span c.args.frame ((c.first_drawn-first.result + i) * c.args.step)) c.loop-number.number (string_bytes c.args.text.now) (string_bytes c.loop-number.text) (string_bytes c.push_line.new.text) (string_bytes c.in_ok-line.line)
    c.in_ok-line.ensures c.in_ok-push_line.ensures c.loop-number.invariant
