use Rattle.dk_dispatch.proofs.Names.{ℕ, ◌≡◌, None, refl, passed, Cells, Slack, Tables, counts_for, rested, the_view}
use Rattle.dk_dispatch.proofs.tables.AllTables.pass_idle.Goals as goal

told : (d t : Tables) (n : ℕ) (e : Cells) (s : Slack) → t ≡ d → e ≡ record t.demand { windows = passed n t.demand.windows } → s ≡ counts_for n None t.slack
    → record t { demand = e; slack = s } ≡ rested n d
told d t n e s same one two = rw (one, two, same) refl

pub returns : goal.returns
returns c = told c.args.self.now (the_view c.self.inside) c.args.count c.pass.new.self c.count_for.new.self c.self.view_is c.pass.ensures c.count_for.ensures
