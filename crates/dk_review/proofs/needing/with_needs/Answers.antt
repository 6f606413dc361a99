use Rattle.std.proofs.Common.{List, refl, subst}
use Rattle.dk_page.specs.More.{IsAddedByChains}
use Rattle.dk_page.specs.declared.chaining.ChainTold.{ChainTold}
use Rattle.dk_review.proofs.needing.with_needs.Goals as goal

pub returns : goal.returns
returns c =
    record {
      told = c.in_ok-told.told;
      first = c.in_ok-first.first;
      chains = c.in_ok-chains.chains;
      are = c.in_ok-told.ensures;
      adds = c.in_ok-first.ensures;
      chained = subst (λ (chains : List ChainTold). IsAddedByChains c.args.name.now chains c.in_ok-chains.chains) c.as_slice.ensures.value c.in_ok-chains.ensures;
      both = c.in_ok-added.ensures;
      stand = refl;
    }
