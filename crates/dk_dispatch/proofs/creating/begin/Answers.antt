use Rattle.dk_dispatch.proofs.Names.{◌≡◌, ◌∙◌, ap, sym, Some, None, Table, find_row, new_row, next_id, free_slot, children_at, changed_at, begun, begun-found}
use Rattle.dk_dispatch.proofs.creating.begin.Goals as goal

pub unreachable-requires : goal.unreachable-requires
unreachable-requires c =
    let t = c.args.threads.now in
    let p = c.args.process in
    let row = new_row (next_id t p) c.args.level (free_slot (children_at t p)) c.args.start in
    let some : None ≡ Some row =
    sym c.in-None.is ∙ c.find.ensures ∙ ap (λ (table : Table). find_row table c.begin-id.result) c.begin-id.ensures.rows
    ∙ ap (find_row (changed_at (begun p c.args.level c.args.start) p t)) c.begin-id.ensures.name
    ∙ begun-found t p c.args.level c.args.start c.rows_are_in_order.ensures c.requires.stands in
    absurd (cc)

pub returns-clause-row : goal.returns-clause-row
returns-clause-row c =
    let t = c.args.threads.now in
    let p = c.args.process in
    let row = new_row (next_id t p) c.args.level (free_slot (children_at t p)) c.args.start in
    let some : Some c.in-Some.row ≡ Some row =
    sym c.in-Some.is ∙ c.find.ensures ∙ ap (λ (table : Table). find_row table c.begin-id.result) c.begin-id.ensures.rows
    ∙ ap (find_row (changed_at (begun p c.args.level c.args.start) p t)) c.begin-id.ensures.name
    ∙ begun-found t p c.args.level c.args.start c.rows_are_in_order.ensures c.requires.stands in
    cc
