use Rattle.dk_dispatch.proofs.Names.{ℕ, ◌≡◌, ◌∙◌, Some, option_map, ap, subst, sym, AreFamilies, seat_at, Tables, ready_in}
use Rattle.dk_dispatch.proofs.tables.AllTables.ready_at.Goals as goal

pub returns-clause-told : goal.returns-clause-told
returns-clause-told g c = λ k past ready known.
    let found = sym c.in_ok-node.was ∙ c.ready_at.ensures.found in
    let told : Some c.thread.result ≡ ready_in c.args.self.now c.args.level c.args.index =
    ap Some c.thread.ensures
    ∙ ap (option_map (λ (node : ℕ). (seat_at c.self.inside.jobs node).thread)) found
    ∙ ap (λ (d : Tables). ready_in d c.args.level c.args.index) c.self.view_is in
    told
    ∙ c.workers_are_the_pasts.ensures.ready k past c.args.self.now c.args.level c.args.index ready
    (subst (λ (d : Tables). AreFamilies d.threads.levels d.threads.families) c.self.view_is c.rows_are_in_order.ensures) known

pub returns-clause-table : goal.returns-clause-table
returns-clause-table g c =
    let found = sym c.in_ok-node.was ∙ c.ready_at.ensures.found in
    ap Some c.thread.ensures
    ∙ ap (option_map (λ (node : ℕ). (seat_at c.self.inside.jobs node).thread)) found
    ∙ ap (λ (d : Tables). ready_in d c.args.level c.args.index) c.self.view_is

pub returns-clause-steps : goal.returns-clause-steps
returns-clause-steps g c = c.ready_at.ensures.steps
