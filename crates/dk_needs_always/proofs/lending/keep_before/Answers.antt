use Rattle.std.proofs.Common.{◌<◌, length, arith}
use Rattle.dk_allotment.specs.Given.{given}
use Rattle.dk_needs_always.proofs.Keeping.{more-taken, one-keeps}
use Rattle.dk_needs_always.proofs.lending.keep_before.Goals as goal

pub returns-then-taken-allotments-clause-lost : goal.returns-then-taken-allotments-clause-lost
returns-then-taken-allotments-clause-lost c = λ no.
    let w = c.args.loaded.now in
    let low = c.loop-process-test.true in
    let is = c.len-process-end.ensures in
    let inside = c.loaded-inside.view_is in
    let outer = c.loaded.view_is in
    let known : c.loop-process.process < length w.config.processes = grind (arith, low, is, inside, outer) in
    more-taken w.config w.programs (given c.args.allotments.now) c.args.ticks c.loop-process.process c.in_ok-taken.taken c.in_ok-taken.ensures known c.if-taken-allotments.true

pub loop-process-preserved : goal.loop-process-preserved
loop-process-preserved c =
    let w = c.args.loaded.now in
    one-keeps w.config w.programs (given c.args.allotments.now) c.args.ticks c.loop-process.process c.in_ok-taken.taken c.in_ok-taken.ensures c.loop-process.invariant c.if-taken-allotments.false
