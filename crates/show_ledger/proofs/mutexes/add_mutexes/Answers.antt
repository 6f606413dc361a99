use Rattle.std.proofs.Common.{ℕ, ◌≡◌, ◌++◌, arith, flat_map, refl, subst}
use Rattle.dk_config.specs.Sums.{below}
use Rattle.dk_hold_spans.proofs.Adding.{each_added}
use Rattle.show_ledger.specs.Holds.{mutex_told}
use Rattle.show_ledger.proofs.mutexes.add_mutexes.Goals as goal

pub loop-mutex-preserved : goal.loop-mutex-preserved
loop-mutex-preserved c =
    each_added (mutex_told c.args.rows.now c.args.header.now c.args.all.now) c.loop-mutex.mutex c.args.out.now.items c.loop-mutex.out.items c.add_mutex.new.out.items _
    refl c.in_ok-add_mutex.ensures c.loop-mutex.invariant

pub returns : goal.returns
returns c =
    let over = c.loop-mutex-test.false in
    let within = c.loop-mutex.auto.mutex-end in
    let all : c.loop-mutex.mutex ≡ 16 = omega (arith, over, within) in
    subst (λ (n : ℕ). c.loop-mutex.out.items ≡ c.args.out.now.items ++ flat_map (mutex_told c.args.rows.now c.args.header.now c.args.all.now) (below n)) all c.loop-mutex.invariant
