use Rattle.dk_dispatch.proofs.Names.{◌≡◌, ◌+◌, ◌<◌, ◌≤◌, ◌∙◌, ℕ, Bool, true, false, eqb, List, map, None, ap, sym, subst, refl, arith, if◌then◌else◌, ThreadId, Choice, Source, Phase, Lockable, spent_row, Cells, Slack, want, spent_wish, Tables, node_in, MayCount, MaySlack, charged, counts, the_view}
use Rattle.dk_dispatch.proofs.tables.AllTables.charge_slack.Goals as goal

told : (d : Tables) (id : ThreadId) (source : Source) (part : Phase) (s : Slack) (m : List Lockable) (cells : Cells)
    → s ≡ record d.slack { wishes = spent_wish (node_in d.threads id) d.slack.wishes } → m ≡ map (spent_row id) d.mutexes
    → cells ≡ d.demand → record d { mutexes = m; demand = cells; slack = counts None s } ≡ charged (Choice.Slack id source part) d
told d id source part s m cells one two three = rw (one, two, three) refl

pub returns-clause-tables : goal.returns-clause-tables
returns-clause-tables g c = λ source phase.
    let node = c.node_of-node.ensures in
    let slack = c.spend.ensures.table ∙ ap (λ (n : ℕ). record c.self.inside.slack { wishes = spent_wish n c.self.inside.slack.wishes }) node in
    c.count.ensures
    ∙ told (the_view c.self.inside) c.args.id source phase c.spend.new.self c.spend-2.new.self c.foresee.new.self slack c.spend-2.ensures c.foresee.ensures
    ∙ ap (charged (Choice.Slack c.args.id source phase)) c.self.view_is

at-most-one : (b : Bool) (before after : ℕ) → after ≡ before + (if b then 1 else 0) → after ≤ before + 1
at-most-one true before after is = omega arith
at-most-one false before after is = omega arith

pub spend-requires : goal.spend-requires
spend-requires g c =
    let may : MaySlack c.args.id (the_view c.self.inside) = subst (MaySlack c.args.id) (sym c.self.view_is) c.requires in
    let node = c.node_of-node.ensures in
    subst (λ n. 0 < want n c.self.inside.slack.wishes) (sym node) may.wish

pub count-requires : goal.count-requires
count-requires g c =
    let may : MaySlack c.args.id (the_view c.self.inside) = subst (MaySlack c.args.id) (sym c.self.view_is) c.requires in
    subst (MayCount None) (sym c.spend.ensures.table) may.count

pub returns-clause-steps : goal.returns-clause-steps
returns-clause-steps g c = at-most-one (eqb (want c.node_of-node.result c.self.inside.slack.wishes) 1) c.args.steps.now c.spend.new.steps c.spend.ensures.steps

pub spend-requires-2 : goal.spend-requires-2
spend-requires-2 g c =
    let may : MaySlack c.args.id (the_view c.self.inside) = subst (MaySlack c.args.id) (sym c.self.view_is) c.requires in
    may.holds
