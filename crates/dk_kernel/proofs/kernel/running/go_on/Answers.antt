-- A stretch takes at most one step, and so less than its ticks may take. A tick takes no more than it may.
use Rattle.dk_kernel.proofs.Names.{ap, arith, refl, rules, Running, trace_of}
use Rattle.dk_kernel.proofs.Steps.{stretch-steps, tick-more}
use Rattle.dk_kernel.proofs.kernel.running.go_on.Goals as goal

pub returns-in_err-take-clause-steps : goal.returns-in_err-take-clause-steps
returns-in_err-take-clause-steps g c =
    let before = c.loop-left.kernel in
    let after = c.at_once.new.self in
    let more = stretch-steps before.config after.config c.in-Some.stretch (trace_of before) (trace_of after) (ap (λ (k : Running). k.config) c.in-Some.ensures.next) c.in-Some.ensures.entries in
    omega (arith, c.at_once.ensures.steps, c.loop-left.invariant.steps, more)

pub loop-left-preserved-in-Some : goal.loop-left-preserved-in-Some
loop-left-preserved-in-Some g c =
    let before = c.loop-left.kernel in
    let after = c.at_once.new.self in
    let more = stretch-steps before.config after.config c.in-Some.stretch (trace_of before) (trace_of after) (ap (λ (k : Running). k.config) c.in-Some.ensures.next) c.in-Some.ensures.entries in
    record {
      same = search rules;
      count = search rules;
      kept = search rules;
      taken = search rules;
      steps = omega (arith, c.at_once.ensures.steps, c.loop-left.invariant.steps, more);
    }

pub returns-in_err-take-2-clause-steps : goal.returns-in_err-take-2-clause-steps
returns-in_err-take-2-clause-steps g c =
    let same = c.in_default.ensures.next in
    let more = tick-more c.loop-left.kernel c.at_once.new.self c.tick.new.self c.tick.result same (ap (λ (k : Running). k.config) c.tick.ensures.next) c.tick.ensures.entry in
    omega (arith, c.tick.ensures.steps, c.in_default.ensures.still refl, c.loop-left.invariant.steps, more)

pub loop-left-preserved : goal.loop-left-preserved
loop-left-preserved g c =
    let same = c.in_default.ensures.next in
    let more = tick-more c.loop-left.kernel c.at_once.new.self c.tick.new.self c.tick.result same (ap (λ (k : Running). k.config) c.tick.ensures.next) c.tick.ensures.entry in
    record {
      same = search rules;
      count = search rules;
      kept = search rules;
      taken = search rules;
      steps = omega (arith, c.tick.ensures.steps, c.in_default.ensures.still refl, c.loop-left.invariant.steps, more);
    }
