use Rattle.dk_dispatch.proofs.Names.{◌≡◌, ◌<◌, ◌+◌, ◌*◌, ◌∙◌, ℕ, suc, List, length, get_or, add-one, ap, sym, refl, arith, slice_get, is_some, option_map_or, slice_get-get_or, MAX_THREADS, ProcessRow, Configuration, holder, Seat, Roster, new_job, released, is-seated, next-free, seated}
use Rattle.dk_dispatch.proofs.reserving.seat_main.Goals as goal

number-is : (f : ProcessRow → ℕ) (c : Configuration) (rows : List ProcessRow) (p : ℕ) (row : ProcessRow) → rows ≡ c.processes → p < length c.processes → row ≡ get_or rows p row
    → f row ≡ option_map_or f (slice_get c.processes p) 0
number-is f c rows p row same known at =
    ap f (at ∙ ap (λ rs. get_or rs p row) same) ∙ sym (ap (λ o. option_map_or f o 0) (slice_get-get_or c.processes p row known))

same-seat : (p l l' b b' : ℕ) → l ≡ l' → b ≡ b'
    → ◌≡◌ {A = Seat} (record { thread = record { process = p; serial = 0 }; level = l; job = new_job b }) (record { thread = record { process = p; serial = 0 }; level = l'; job = new_job b' })
same-seat p l l' b b' one two = rw (one, two) refl

first-node : (node p : ℕ) → node ≡ MAX_THREADS * p + 0 → node ≡ 9 * p
first-node node p is = omega (arith, is)

pub overflow_cast-row : goal.overflow_cast-row
overflow_cast-row g c =
    let p = c.args.process in
    let known = c.requires.known in
    let rows = ap (λ (k : Configuration). k.processes) c.config.view_is in
    let level = number-is (λ (r : ProcessRow). r.level) c.args.config.now c.config.inside.processes.items p c.index-row.result.now rows known c.index-row.ensures in
    let inside = c.requires.checked.levels p known in
    let few = c.requires.limits.few_levels in
    omega (arith, level, inside, few)

pub release-requires-clause-node : goal.release-requires-clause-node
release-requires-clause-node g c =
    let p = c.args.process in
    let known = c.requires.known in
    let s = is-seated c.args.config.now p c.requires.checked (omega arith) in
    let nodes = ap (λ (r : Roster). length r.seats) c.requires.mains ∙ s.nodes in
    omega (arith, known, nodes)

pub release-requires-clause-level : goal.release-requires-clause-level
release-requires-clause-level g c =
    let p = c.args.process in
    let known = c.requires.known in
    let s = is-seated c.args.config.now p c.requires.checked (omega arith) in
    let queues = ap (λ (r : Roster). length r.ready.lists) c.requires.mains ∙ s.queues in
    let rows = ap (λ (k : Configuration). k.processes) c.config.view_is in
    let level = number-is (λ (r : ProcessRow). r.level) c.args.config.now c.config.inside.processes.items p c.index-row.result.now rows known c.index-row.ensures in
    let inside = c.requires.checked.levels p known in
    omega (arith, queues, level, inside)

pub release-requires-clause-free : goal.release-requires-clause-free
release-requires-clause-free g c =
    let p = c.args.process in
    let known = c.requires.known in
    let s = is-seated c.args.config.now p c.requires.checked (omega arith) in
    let none = ap (λ (r : Roster). holder r.ready.lists (9 * p)) c.requires.mains ∙ next-free c.args.config.now p s in
    rw (first-node c.node_at-node.result p c.node_at-node.ensures) (ap is_some none)

pub returns : goal.returns
returns g c =
    let p = c.args.process in
    let rows = ap (λ (k : Configuration). k.processes) c.config.view_is in
    let level = number-is (λ (r : ProcessRow). r.level) c.args.config.now c.config.inside.processes.items p c.index-row.result.now rows c.requires.known c.index-row.ensures in
    let share = number-is (λ (r : ProcessRow). r.budget) c.args.config.now c.config.inside.processes.items p c.index-row.result.now rows c.requires.known c.index-row.ensures in
    let step : c.release.new.self ≡ seated c.args.config.now (suc p) =
    c.release.ensures.seat
    ∙ ap (λ n. released n (record { thread = record { process = p; serial = 0 }; level = c.index-row.result.now.level; job = new_job c.index-row.result.now.budget }) c.args.jobs.now) (first-node c.node_at-node.result p c.node_at-node.ensures)
    ∙ ap (λ (r : Roster). released (9 * p) (record { thread = record { process = p; serial = 0 }; level = c.index-row.result.now.level; job = new_job c.index-row.result.now.budget }) r) c.requires.mains
    ∙ ap (λ (s : Seat). released (9 * p) s (seated c.args.config.now p)) (same-seat p _ _ _ _ level share) in
    step ∙ ap (seated c.args.config.now) (sym (add-one p))
