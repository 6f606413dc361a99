use Rattle.dk_inspect.proofs.Names.{◌≡◌, ◌<◌, ◌-◌, ◌∙◌, suc, ap, arith, rules, length, find, slice_get, option_map, is_row_of, counted_rows, counted_row, unplaced, of-ready, telling-ready, trace_of, IsRowAt}
use Rattle.dk_inspect.specs.Printing.{shown_of}
use Rattle.dk_inspect.proofs.Shown.{main-found, row-shown}
use Rattle.dk_inspect.proofs.Lines.{row-there}
use Rattle.dk_inspect.proofs.threads.row_at.Goals as goal

pub find-requires : goal.find-requires
find-requires c = telling-ready c.dispatcher-tables.result.now.past c.dispatcher-tables.ensures.ready

pub child-requires : goal.child-requires
child-requires c = telling-ready c.dispatcher-tables.result.now.past c.dispatcher-tables.ensures.ready

pub returns-in-0 : goal.returns-in-0
unfolding shown_of
returns-in-0 c =
    let k = c.args.kernel.now in
    let past = trace_of k in
    let d = c.dispatcher-tables.result.now in
    let ruled = c.dispatcher-tables.ensures.ruled in
    let p = c.args.process in
    let families = c.rows_law.ensures.families k.config past ruled.checked ruled.accepted ruled.audited p c.requires in
    let named = c.rows_law.ensures.named k.config past ruled.checked ruled.accepted ruled.audited in
    let first : 0 ≡ c.args.place = search rules in
    let row : IsRowAt k p c.args.place c.find.result =
    of-ready d.past k.config past c.dispatcher-tables.ensures.ready c.dispatcher-tables.ensures.config c.dispatcher-tables.ensures.entries
    (λ z es told. p < length z.processes → option_map unplaced c.find.result ≡ find (is_row_of (record { process = p; serial = 0 })) (counted_rows z (length es) told p))
    c.find.ensures.told c.requires
    ∙ main-found k.config (length past) past p families
    ∙ row-shown k.config (length past) past p 0
    ∙ ap (λ i. option_map (counted_row k.config (length past)) (slice_get (shown_of k p) i)) first in
    record { row = row; there = row-there k p c.args.place c.find.result families named c.requires row }

pub returns-in_default : goal.returns-in_default
unfolding shown_of
returns-in_default c =
    let k = c.args.kernel.now in
    let past = trace_of k in
    let d = c.dispatcher-tables.result.now in
    let ruled = c.dispatcher-tables.ensures.ruled in
    let p = c.args.process in
    let families = c.rows_law.ensures.families k.config past ruled.checked ruled.accepted ruled.audited p c.requires in
    let named = c.rows_law.ensures.named k.config past ruled.checked ruled.accepted ruled.audited in
    let same : suc (c.args.place - 1) ≡ c.args.place = omega arith in
    let row : IsRowAt k p c.args.place c.child.result =
    of-ready d.past k.config past c.dispatcher-tables.ensures.ready c.dispatcher-tables.ensures.config c.dispatcher-tables.ensures.entries
    (λ z es told. p < length z.processes → option_map unplaced c.child.result ≡ slice_get (counted_rows z (length es) told p) (suc (c.args.place - 1)))
    c.child.ensures.told c.requires
    ∙ ap (slice_get (counted_rows k.config (length past) past p)) same
    ∙ row-shown k.config (length past) past p c.args.place in
    record { row = row; there = row-there k p c.args.place c.child.result families named c.requires row }
