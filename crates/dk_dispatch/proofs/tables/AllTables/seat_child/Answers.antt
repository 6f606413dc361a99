use Rattle.dk_dispatch.proofs.Names.{ℕ, ◌≡◌, refl, ThreadRow, Table, begun, children_at, free_slot, new_row, next_id, changed_family, Roster, new_job, released, Tables, node_on, free_node, new_seat, the_view}
use Rattle.dk_dispatch.proofs.tables.AllTables.seat_child.Goals as goal

seated : (p level start : ℕ) (d t : Tables) (node : ℕ) (row : ThreadRow) (h : Table) (j : Roster)
    → t ≡ d → row ≡ new_row (next_id t.threads p) level (free_slot (children_at t.threads p)) start → node ≡ node_on row
    → h ≡ changed_family (begun p level start) p t.threads
    → j ≡ released node (record { thread = row.id; level = level; job = new_job 0 }) t.jobs
    → record t { threads = h; jobs = j } ≡ record d {
      threads = changed_family (begun p level start) p d.threads;
      jobs = released (free_node d.threads p) (new_seat d.threads p level) d.jobs;
    }
seated p level start d t node row h j same is at one two = rw (two, one, at, is, same) refl

pub returns-clause-tables : goal.returns-clause-tables
returns-clause-tables g c =
    seated c.args.process c.args.level c.args.start c.args.self.now (the_view c.self.inside) c.node_on.result c.begin-row.result
    c.begin-row.new.threads c.release.new.self c.self.view_is c.begin-row.ensures.row c.node_on.ensures c.begin-row.ensures.rows c.release.ensures.seat
