use Rattle.std.proofs.Common.{◌∙◌, subst, take}
use Rattle.dk_config.specs.Configuration.{Configuration}
use Rattle.dk_review.specs.Chains.{IsChainOfNeed}
use Rattle.dk_review.proofs.Chained.{all_told, one_told}
use Rattle.dk_review.proofs.chains.chains_of.Goals as goal

pub loop-i-preserved : goal.loop-i-preserved
loop-i-preserved c =
    let same = c.loop-i.invariant.1 in
    let needs = c.args.needs.now in (
      one_told c.args.config.now needs c.loop-i.i c.index-needs-i.result c.in_ok-chain.chain c.loop-i.told.items c.add.new.told.items
          c.loop-i-test.true c.index-needs-i.is
          (subst (λ (k : Configuration). IsChainOfNeed k (take c.loop-i.i needs) c.index-needs-i.result.what c.in_ok-chain.chain) same c.in_ok-chain.ensures.told)
          c.in_ok-add.ensures c.loop-i.invariant.0,
      c.in_ok-chain.ensures.same ∙ same,
    )

pub returns : goal.returns
returns c =
    all_told c.args.config.now c.args.needs.now c.loop-i.i c.loop-i.told.items c.loop-i-test.false c.loop-i.invariant.0
