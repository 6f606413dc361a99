use Rattle.dk_show.proofs.Names.{ℕ, ◌∙◌, List, ◌∷◌, inl, subst, sym, AreThere, ChainIn}
use Rattle.dk_show.proofs.Hearing.{told_of}
use Rattle.dk_show.proofs.reactions.of_ledger.Goals as goal

pub ledger_reactions-requires-clause-there : goal.ledger_reactions-requires-clause-there
ledger_reactions-requires-clause-there c =
    let there = subst (λ (f : ChainIn). AreThere f.config (f.first ∷ f.rest)) (sym c.found.view_is) c.requires.certified.there in
    subst (λ (ps : List ℕ). AreThere c.found.inside.config (c.found.inside.chain.first ∷ ps)) (sym c.as_slice-rest.ensures.value) there

pub chain_report-requires-clause-there : goal.chain_report-requires-clause-there
chain_report-requires-clause-there c =
    let there = subst (λ (f : ChainIn). AreThere f.config (f.first ∷ f.rest)) (sym c.found.view_is) c.requires.certified.there in
    subst (λ (ps : List ℕ). AreThere c.found.inside.config (c.found.inside.chain.first ∷ ps)) (sym c.as_slice-rest.ensures.value) there

pub returns-clause-comes : goal.returns-clause-comes
returns-clause-comes c = λ text has.
    let exact = rw (c.as_slice-rest.ensures.value, c.as_slice.ensures.value) at c.in_ok-seen.ensures in
    let told = rw c.as_slice-rest.ensures.value at c.in_ok-page.ensures.text in
    inl (told_of c.args.found c.args.ledger.now _ _ _ _ _ _ text _ _ c.found.view_is c.ledger.view_is
    (c.is_own_heading.ensures.0 c.if-not-is_own_heading.false) exact (c.as_str.ensures.value ∙ c.in_ok-line.ensures) told has)
