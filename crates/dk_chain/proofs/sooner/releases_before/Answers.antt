use Rattle.dk_chain.proofs.Names.{suc, ◌≡◌, ap, ◌∙◌, arith, sum_from, main_level, release}
use Rattle.dk_chain.proofs.sooner.releases_before.Goals as goal

pub returns : goal.returns
returns c =
    let end = c.loop-faster.auto.faster-end in
    let passed = c.loop-faster-test.false in
    let level = c.level_of-level.ensures.level in
    let at : c.loop-faster.faster ≡ suc (main_level c.args.config.now c.args.process) = omega (arith, end, passed, level) in
    c.loop-faster.invariant.sum ∙ ap (λ k. sum_from 0 k (release c.args.config.now)) at
