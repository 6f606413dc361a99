use Rattle.dk_dispatch.proofs.Names.{ℕ, ◌≡◌, Option, refl, Slack, Tables, counts, the_view}
use Rattle.dk_dispatch.proofs.tables.AllTables.count.Goals as goal

told : (d t : Tables) (level : Option ℕ) (s : Slack) → t ≡ d → s ≡ counts level t.slack → record t { slack = s } ≡ record d { slack = counts level d.slack }
told d t level s same one = rw (one, same) refl

pub returns : goal.returns
returns c = told c.args.self.now (the_view c.self.inside) c.args.level c.count.new.self c.self.view_is c.count.ensures
