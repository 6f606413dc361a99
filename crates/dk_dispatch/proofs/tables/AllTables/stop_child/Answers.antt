use Rattle.dk_dispatch.proofs.Names.{◌≡◌, ◌<◌, ◌∙◌, true, length, ap, sym, subst, refl, Clock, ThreadRow, Table, child_stopped, runs, changed_family, Book, stopped_child, changed_lender, Tables, shut, without_child, the_view}
use Rattle.dk_dispatch.proofs.tables.AllTables.stop_child.Goals as goal

pub shut-requires : goal.shut-requires
shut-requires g c =
    c.requires.shut

pub stop-requires-clause-known : goal.stop-requires-clause-known
stop-requires-clause-known g c =
    let d = c.args.self.now in
    let row = c.args.row in
    let same : the_view c.self.inside ≡ shut row d = c.self.view_is ∙ c.shut.ensures.tables in
    subst (λ (t : Tables). row.id.process < length t.loans.lenders) (sym same) c.requires.process

pub stop-requires-clause-same_levels : goal.stop-requires-clause-same_levels
stop-requires-clause-same_levels g c =
    ap (λ (w : Clock). w.periods) c.windows-windows.ensures ∙ sym c.self.invariant.periods

pub stop-requires-2-clause-child : goal.stop-requires-2-clause-child
stop-requires-2-clause-child g c =
    c.requires.child

pub stop-requires-2-clause-runs : goal.stop-requires-2-clause-runs
stop-requires-2-clause-runs g c =
    let d = c.args.self.now in
    let row = c.args.row in
    let same : the_view c.self.inside ≡ shut row d = c.self.view_is ∙ c.shut.ensures.tables in
    subst (λ (t : Tables). runs t.threads row.id ≡ true) (sym same) c.requires.runs

pub stop-requires-2-clause-windows : goal.stop-requires-2-clause-windows
stop-requires-2-clause-windows g c =
    ap (λ (w : Clock). length w.periods) c.windows-windows.ensures ∙ sym c.self.invariant.levels

told : (row : ThreadRow) (d t : Tables) (w : Clock) (b : Book) (h : Table) → t ≡ shut row d → w ≡ t.demand.windows
    → b ≡ changed_lender row.id.process (stopped_child w row.id.serial) t.loans → h ≡ changed_family (child_stopped row.id w) row.id.process t.threads
    → record t { loans = b; threads = h } ≡ without_child row d
told row d t w b h same clock one two = rw (two, one, clock, same) refl

pub returns-clause-tables : goal.returns-clause-tables
returns-clause-tables g c =
    told c.args.row c.args.self.now (the_view c.self.inside) c.windows-windows.result.now c.stop.new.self c.stop-2.new.self
    (c.self.view_is ∙ c.shut.ensures.tables) c.windows-windows.ensures c.stop.ensures c.stop-2.ensures
