use Rattle.std.proofs.Common.{ℕ, ◌≡◌, ◌+◌, ◌++◌, ap, arith, flat_map, subst}
use Rattle.dk_config.specs.Sums.{below}
use Rattle.dk_hold_spans.specs.HoldLists.{part_from}
use Rattle.dk_hold_spans.proofs.Adding.{each_added}
use Rattle.dk_hold_spans.proofs.Going.{ends_of}
use Rattle.dk_hold_spans.proofs.listing.push_ended.Goals as goal

pub loop-mutex-preserved : goal.loop-mutex-preserved
loop-mutex-preserved c = λ past has.
    each_added (ends_of c.args.from c.args.line.now past) c.loop-mutex.mutex c.args.holds.now.items c.loop-mutex.holds.items c.push_part.new.holds.items _
    (ap (part_from c.args.from c.loop-mutex.mutex (c.args.line.now.start + c.args.line.now.count)) (c.ended.ensures past has)) c.in_ok-push_part.ensures (c.loop-mutex.invariant past has)

pub returns : goal.returns
returns c = λ past has.
    let over = c.loop-mutex-test.false in
    let within = c.loop-mutex.auto.mutex-end in
    let all : c.loop-mutex.mutex ≡ 16 = omega (arith, over, within) in
    subst (λ (n : ℕ). c.loop-mutex.holds.items ≡ c.args.holds.now.items ++ flat_map (ends_of c.args.from c.args.line.now past) (below n)) all (c.loop-mutex.invariant past has)
