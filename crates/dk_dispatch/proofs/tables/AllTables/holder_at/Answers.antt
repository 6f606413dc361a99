use Rattle.dk_dispatch.proofs.Names.{◌∙◌, ap, subst, AreFamilies, holder_at, Tables}
use Rattle.dk_dispatch.proofs.tables.AllTables.holder_at.Goals as goal

pub returns-clause-told : goal.returns-clause-told
returns-clause-told c = λ k past ready.
    c.holder_at.ensures
    ∙ ap (λ (d : Tables). holder_at c.args.level d.mutexes) c.self.view_is
    ∙ c.workers_are_the_pasts.ensures.holder k past c.args.self.now c.args.level ready
    (subst (λ (d : Tables). AreFamilies d.threads.levels d.threads.families) c.self.view_is c.rows_are_in_order.ensures)
