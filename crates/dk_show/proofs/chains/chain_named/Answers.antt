use Rattle.dk_show.proofs.Names.{◌≡◌, ◌∙◌, ◌∷◌, ap, rules, sym, processes_named, chain_of}
use Rattle.dk_show.proofs.chains.chain_named.Goals as goal

pub returns-in-Some-clause-loads : goal.returns-in-Some-clause-loads
returns-in-Some-clause-loads c =
    let config = c.args.config in
    let first : c.as_str.result.now ≡ c.args.request.now.first = search rules in
    let rest : c.as_slice.result.now ≡ c.args.request.now.rest = search rules in
    let found = rw c.in-Some.is at c.in_ok-found.ensures.found in
    ap (chain_of config) (sym (found ∙ ap (λ f. processes_named config (f ∷ c.as_slice.result.now)) first ∙ ap (λ r. processes_named config (c.args.request.now.first ∷ r)) rest))
