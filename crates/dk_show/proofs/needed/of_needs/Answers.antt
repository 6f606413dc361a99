use Rattle.dk_show.proofs.Names.{ℕ, List, inl, subst, Option, option_map, Configuration, IsFound, IsOfAll, IsTold}
use Rattle.dk_show.proofs.Coming.{comes_wider}
use Rattle.dk_show.proofs.needed.of_needs.Goals as goal

pub returns-clause-comes : goal.returns-clause-comes
returns-clause-comes c =
    let f = c.args.form in
    let l = c.args.layout in
    let needs = c.args.needs.now in
    let ledger = option_map (λ s. s.now) c.args.ledger in
    let found = c.in_ok-found.found in
    let is = subst (λ (x : Configuration). IsFound x ledger needs.rows found) c.config.ensures.is c.in_ok-found.ensures.found in
    comes_wider (IsTold f l needs found) (IsOfAll f l ledger needs)
    (λ text ended told. inl (record { found = found; is = is; told = told })) c.of_found.result c.of_found.ensures.comes
