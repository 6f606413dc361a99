use Rattle.dk_dispatch.proofs.Names.{ℕ, ◌≡◌, ◌*◌, ◌<◌, ◌∙◌, length, ap, sym, subst, refl, ThreadId, Slack, asked_wish, seat_at, Tables, node_in, level_in, MayAsk, asked, the_view}
use Rattle.dk_dispatch.proofs.tables.AllTables.wish.Goals as goal

pub ask-requires-clause-node : goal.ask-requires-clause-node
ask-requires-clause-node g c =
    let d = the_view c.self.inside in
    let may : MayAsk c.args.id d = subst (MayAsk c.args.id) (sym c.self.view_is) c.requires.may in
    let node : c.node_of-node.result ≡ node_in d.threads c.args.id = c.node_of-node.ensures ∙ sym (ap (λ (t : Tables). node_in t.threads c.args.id) c.self.view_is) in
    subst (λ n. n < d.slack.nodes) (sym node) may.node

pub ask-requires-clause-level : goal.ask-requires-clause-level
ask-requires-clause-level g c =
    let d = the_view c.self.inside in
    let may : MayAsk c.args.id d = subst (MayAsk c.args.id) (sym c.self.view_is) c.requires.may in
    let node : c.node_of-node.result ≡ node_in d.threads c.args.id = c.node_of-node.ensures ∙ sym (ap (λ (t : Tables). node_in t.threads c.args.id) c.self.view_is) in
    let level : c.level-level.result ≡ level_in d c.args.id = c.level-level.ensures ∙ ap (λ n. (seat_at d.jobs n).level) node in
    subst (λ k. k < length d.slack.wishes) (sym level) may.level

told : (x : ThreadId) (amount : ℕ) (d t : Tables) (node level : ℕ) (s : Slack) → t ≡ d → node ≡ node_in d.threads x → level ≡ (seat_at t.jobs node).level
    → s ≡ record t.slack { wishes = asked_wish level (record { node = node; amount = amount; entering = 2 * t.slack.switch }) t.slack.wishes }
    → record t { slack = s } ≡ asked x amount d
told x amount d t node level s same seat leveled is = rw (is, leveled, seat, same) refl

pub returns-clause-tables : goal.returns-clause-tables
returns-clause-tables g c =
    told c.args.id c.args.amount c.args.self.now (the_view c.self.inside) c.node_of-node.result c.level-level.result c.ask.new.self
    c.self.view_is c.node_of-node.ensures c.level-level.ensures c.ask.ensures.table
