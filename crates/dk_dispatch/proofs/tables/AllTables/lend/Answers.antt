use Rattle.dk_dispatch.proofs.Names.{ℕ, ◌≡◌, ◌∙◌, ◌<◌, None, ap, refl, subst, sym, ThreadId, passed, Cells, Slack, spent_for, want, Tables, node_in, MayCountFor, counts_for, lent, the_view}
use Rattle.dk_dispatch.proofs.tables.AllTables.lend.Goals as goal

told : (x : ThreadId) (n node : ℕ) (d t : Tables) (e : Cells) (s r : Slack) → t ≡ d → node ≡ node_in t.threads x → e ≡ record t.demand { windows = passed n t.demand.windows }
    → r ≡ record t.slack { wishes = spent_for node n t.slack.wishes } → s ≡ counts_for n None r → record t { demand = e; slack = s } ≡ lent x n d
told x n node d t e s r same at one two three = rw (one, three, two, at, same) refl

pub spend_for-requires : goal.spend_for-requires
spend_for-requires c =
    let node = c.node_of-node.ensures ∙ ap (λ (t : Tables). node_in t.threads c.args.thread) (sym c.self.view_is) in
    let wish = subst (λ (t : Tables). c.args.ticks < want (node_in t.threads c.args.thread) t.slack.wishes) (sym c.self.view_is) c.requires.wish in
    subst (λ n. c.args.ticks < want n c.self.inside.slack.wishes) (sym node) wish

pub count_for-requires : goal.count_for-requires
count_for-requires c =
    let counts = subst (λ (t : Tables). MayCountFor c.args.ticks None t.slack) (sym c.self.view_is) c.requires.counts in
    subst (MayCountFor c.args.ticks None) (sym c.spend_for.ensures) counts

pub returns : goal.returns
returns c =
    let node = c.node_of-node.ensures ∙ ap (λ (t : Tables). node_in t.threads c.args.thread) (sym c.self.view_is) in
    told c.args.thread c.args.ticks c.node_of-node.result c.args.self.now (the_view c.self.inside) c.pass.new.self c.count_for.new.self c.spend_for.new.self
    c.self.view_is node c.pass.ensures c.spend_for.ensures c.count_for.ensures
