use Rattle.dk_dispatch.proofs.Names.{◌≡◌, ◌∙◌, Some, sym, subst, cons_option, children_at, find_row, main_id, AreKnown, CanAllSit}
use Rattle.dk_dispatch.proofs.opening.begin_process.Goals as goal

pub begin_row-requires-clause-levels : goal.begin_row-requires-clause-levels
begin_row-requires-clause-levels g c =
    c.requires.levels

pub begin_row-requires-clause-known : goal.begin_row-requires-clause-known
begin_row-requires-clause-known g c =
    let t = c.args.threads.now in
    let p = c.args.process in
    let here : find_row t (main_id p) ≡ Some c.in-Some.row = sym c.find.ensures ∙ c.in-Some.is in
    (subst (λ o. AreKnown c.args.loans.now c.args.windows.now (cons_option o (children_at t p))) here c.requires.known).0

pub begin_row-requires-clause-seat : goal.begin_row-requires-clause-seat
begin_row-requires-clause-seat g c =
    let t = c.args.threads.now in
    let p = c.args.process in
    let here : find_row t (main_id p) ≡ Some c.in-Some.row = sym c.find.ensures ∙ c.in-Some.is in
    (subst (λ o. CanAllSit c.args.loans.now c.args.windows.now (cons_option o (children_at t p)) c.args.jobs.now) here c.requires.seats).0

pub begin_children-requires-clause-levels : goal.begin_children-requires-clause-levels
begin_children-requires-clause-levels g c =
    c.requires.levels

pub begin_children-requires-clause-few : goal.begin_children-requires-clause-few
begin_children-requires-clause-few g c =
    c.requires.few
