use Rattle.dk_dispatch.proofs.Names.{◌≡◌, ◌∙◌, Some, sym, subst, cons_option, children_at, find_row, main_id, AreKnown}
use Rattle.dk_dispatch.proofs.opening.add_process.Goals as goal

pub add_share-requires-clause-levels : goal.add_share-requires-clause-levels
add_share-requires-clause-levels c =
    c.requires.levels

pub add_share-requires-clause-few : goal.add_share-requires-clause-few
add_share-requires-clause-few c =
    c.requires.few_levels

pub add_share-requires-clause-known : goal.add_share-requires-clause-known
add_share-requires-clause-known c =
    let t = c.args.threads.now in
    let p = c.args.process in
    let here : find_row t (main_id p) ≡ Some c.in-Some.row = sym c.find.ensures ∙ c.in-Some.is in
    (subst (λ o. AreKnown c.args.loans.now c.args.windows.now (cons_option o (children_at t p))) here c.requires.known).0

pub add_children-requires-clause-levels : goal.add_children-requires-clause-levels
add_children-requires-clause-levels c =
    c.requires.levels

pub add_children-requires-clause-few_levels : goal.add_children-requires-clause-few_levels
add_children-requires-clause-few_levels c =
    c.requires.few_levels

pub add_children-requires-clause-few : goal.add_children-requires-clause-few
add_children-requires-clause-few c =
    c.requires.few
