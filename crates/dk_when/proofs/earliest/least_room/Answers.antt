use Rattle.std.proofs.Common.{◌+◌, ap}
use Rattle.dk_when.proofs.Soonest.{try-step}
use Rattle.dk_when.proofs.earliest.least_room.Goals as goal

pub loop-least-preserved : goal.loop-least-preserved
loop-least-preserved c =
    let config = c.args.config.now in
    try-step config c.args.process c.args.ticks c.level_row-window.result.period c.loop-least.least c.requires.checked c.requires.process c.loop-least.invariant
    (c.always_ahead.result + c.args.ticks) c.min-least.result (ap (λ n. n + c.args.ticks) c.always_ahead.ensures.work) c.min-least.ensures
