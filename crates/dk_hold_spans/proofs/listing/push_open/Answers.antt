use Rattle.std.proofs.Common.{ℕ, ◌≡◌, ◌++◌, ap, arith, flat_map, subst}
use Rattle.dk_config.specs.Sums.{below}
use Rattle.dk_holds.specs.Holds.{holding}
use Rattle.dk_hold_spans.specs.HoldLists.{part_from}
use Rattle.dk_hold_spans.proofs.Adding.{each_added}
use Rattle.dk_hold_spans.proofs.listing.push_open.Goals as goal

pub loop-mutex-preserved : goal.loop-mutex-preserved
loop-mutex-preserved c = λ past has.
    each_added (λ m. part_from c.args.from m c.args.end (holding m past)) c.loop-mutex.mutex c.args.holds.now.items c.loop-mutex.holds.items c.push_part.new.holds.items _
    (ap (part_from c.args.from c.loop-mutex.mutex c.args.end) (c.of.ensures.holding past has)) c.in_ok-push_part.ensures (c.loop-mutex.invariant past has)

pub returns : goal.returns
returns c = λ past has.
    let over = c.loop-mutex-test.false in
    let within = c.loop-mutex.auto.mutex-end in
    let all : c.loop-mutex.mutex ≡ 16 = omega (arith, over, within) in
    subst (λ (n : ℕ). c.loop-mutex.holds.items ≡ c.args.holds.now.items ++ flat_map (λ m. part_from c.args.from m c.args.end (holding m past)) (below n)) all (c.loop-mutex.invariant past has)
