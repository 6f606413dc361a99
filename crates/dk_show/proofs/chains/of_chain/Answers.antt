use Rattle.dk_show.proofs.Names.{ℕ, List, ◌∷◌, subst, sym, AreThere, ChainIn}
use Rattle.dk_show.proofs.chains.of_chain.Goals as goal

pub chain_report-requires-clause-there : goal.chain_report-requires-clause-there
chain_report-requires-clause-there c =
    let there = subst (λ (f : ChainIn). AreThere f.config (f.first ∷ f.rest)) (sym c.found.view_is) c.requires.there in
    subst (λ (ps : List ℕ). AreThere c.found.inside.config (c.found.inside.chain.first ∷ ps)) (sym c.as_slice.ensures.value) there
