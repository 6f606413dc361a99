use Rattle.dk_dispatch.proofs.Names.{ℕ, ◌∙◌, ap, subst, AreFamilies, is_entering, Tables, node_in}
use Rattle.dk_dispatch.proofs.tables.AllTables.entering.Goals as goal

pub returns-clause-told : goal.returns-clause-told
returns-clause-told c = λ k past x ready among is some.
    c.entering.ensures
    ∙ ap (λ (node : ℕ). is_entering node c.self.inside.slack.wishes) c.node_of.ensures
    ∙ ap (λ (d : Tables). is_entering (node_in c.args.self.now.threads c.args.id) d.slack.wishes) c.self.view_is
    ∙ c.wishes_are_the_pasts.ensures.switch k past c.args.self.now c.args.id x ready
    (subst (λ (d : Tables). AreFamilies d.threads.levels d.threads.families) c.self.view_is c.rows_are_in_order.ensures) among is some
