use Rattle.dk_dispatch.proofs.Names.{ℕ, ◌≡◌, ◌<◌, ◌≤◌, ◌∙◌, length, ap, sym, subst, refl, slice_index, Cells, dropped_cells, Slack, dropped, Roster, closed_on, dropped_on, Tables, MayClose, job_closed, the_view}
use Rattle.dk_dispatch.proofs.tables.AllTables.close_job.Goals as goal

pub close-dropped-requires-clause-node : goal.close-dropped-requires-clause-node
close-dropped-requires-clause-node g c =
    let d = the_view c.self.inside in
    let may : MayClose c.args.node c.args.level d = subst (MayClose c.args.node c.args.level) (sym c.self.view_is) c.requires in
    may.inside

pub close-dropped-requires-clause-queued : goal.close-dropped-requires-clause-queued
close-dropped-requires-clause-queued g c =
    let d = the_view c.self.inside in
    let may : MayClose c.args.node c.args.level d = subst (MayClose c.args.node c.args.level) (sym c.self.view_is) c.requires in
    may.queued

pub dropped-requires-clause-known : goal.dropped-requires-clause-known
dropped-requires-clause-known g c =
    let d = the_view c.self.inside in
    let may : MayClose c.args.node c.args.level d = subst (MayClose c.args.node c.args.level) (sym c.self.view_is) c.requires in
    may.known

pub dropped-requires-clause-own : goal.dropped-requires-clause-own
dropped-requires-clause-own g c =
    let d = the_view c.self.inside in
    let may : MayClose c.args.node c.args.level d = subst (MayClose c.args.node c.args.level) (sym c.self.view_is) c.requires in
    subst (λ n. n ≤ slice_index d.demand.own c.args.level) (sym c.close-dropped.ensures.dropped) may.own

pub dropped-requires-clause-remaining : goal.dropped-requires-clause-remaining
dropped-requires-clause-remaining g c =
    let d = the_view c.self.inside in
    let may : MayClose c.args.node c.args.level d = subst (MayClose c.args.node c.args.level) (sym c.self.view_is) c.requires in
    subst (λ n. (j : ℕ) → c.args.level ≤ j → j < length d.demand.windows.periods → n ≤ slice_index d.demand.remaining j)
    (sym c.close-dropped.ensures.dropped) may.remaining

told : (d : Tables) (node level gone : ℕ) (j : Roster) (e : Cells) (s : Slack) → gone ≡ dropped_on node d.jobs → j ≡ closed_on node d.jobs
    → e ≡ dropped_cells level gone d.demand → s ≡ record d.slack { wishes = dropped node d.slack.wishes }
    → record d { jobs = j; demand = e; slack = s } ≡ job_closed node level d
told d node level gone j e s is one two three = rw (one, two, three, is) refl

pub returns-clause-tables : goal.returns-clause-tables
returns-clause-tables g c =
    told (the_view c.self.inside) c.args.node c.args.level c.close-dropped.result c.close-dropped.new.self c.dropped.new.self c.drop_request.new.self
    c.close-dropped.ensures.dropped c.close-dropped.ensures.seat c.dropped.ensures.cells c.drop_request.ensures.table
    ∙ ap (job_closed c.args.node c.args.level) c.self.view_is
