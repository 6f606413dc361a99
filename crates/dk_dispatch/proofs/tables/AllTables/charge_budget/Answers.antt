use Rattle.dk_dispatch.proofs.Names.{ℕ, ◌≡◌, ◌<◌, ◌≤◌, ◌∙◌, List, Some, length, map, ap, sym, subst, refl, IsSome, slice_index, ThreadId, Choice, Phase, holder, Lockable, spent_row, effective_level, Cells, dropped_cells, held_cells, Slack, Roster, left_on, spent_on, Tables, node_in, HasWork, MayBudget, charged, counts, level_in, the_view}
use Rattle.dk_dispatch.proofs.tables.AllTables.charge_budget.Goals as goal

pub spend-requires-clause-node : goal.spend-requires-clause-node
spend-requires-clause-node g c =
    let x = c.args.id in
    let d = the_view c.self.inside in
    let may : MayBudget x d = subst (MayBudget x) (sym c.self.view_is) c.requires in
    let node : c.seat_of-seat.result.node ≡ node_in d.threads x = c.seat_of-seat.ensures.node ∙ sym (ap (λ (t : Tables). node_in t.threads x) c.self.view_is) in
    subst (λ n. n < length d.jobs.seats) (sym node) may.node

pub spend-requires-clause-left : goal.spend-requires-clause-left
spend-requires-clause-left g c =
    let x = c.args.id in
    let d = the_view c.self.inside in
    let may : MayBudget x d = subst (MayBudget x) (sym c.self.view_is) c.requires in
    let node : c.seat_of-seat.result.node ≡ node_in d.threads x = c.seat_of-seat.ensures.node ∙ sym (ap (λ (t : Tables). node_in t.threads x) c.self.view_is) in
    subst (λ n. 0 < left_on d.jobs n) (sym node) may.left

pub spend-requires-clause-queued : goal.spend-requires-clause-queued
spend-requires-clause-queued g c =
    let x = c.args.id in
    let d = the_view c.self.inside in
    let may : MayBudget x d = subst (MayBudget x) (sym c.self.view_is) c.requires in
    let node : c.seat_of-seat.result.node ≡ node_in d.threads x = c.seat_of-seat.ensures.node ∙ sym (ap (λ (t : Tables). node_in t.threads x) c.self.view_is) in
    subst (λ n. IsSome (holder d.jobs.ready.lists n)) (sym node) may.queued

pub spent-requires-clause-known : goal.spent-requires-clause-known
spent-requires-clause-known g c =
    let x = c.args.id in
    let d = the_view c.self.inside in
    let may : MayBudget x d = subst (MayBudget x) (sym c.self.view_is) c.requires in
    let level : c.seat_of-seat.result.level ≡ level_in d x = c.seat_of-seat.ensures.level ∙ sym (ap (λ (t : Tables). level_in t x) c.self.view_is) in
    let work : HasWork c.seat_of-seat.result.level d.demand = subst (λ k. HasWork k d.demand) (sym level) may.work in
    work.known

pub spent-requires-clause-own : goal.spent-requires-clause-own
spent-requires-clause-own g c =
    let x = c.args.id in
    let d = the_view c.self.inside in
    let may : MayBudget x d = subst (MayBudget x) (sym c.self.view_is) c.requires in
    let level : c.seat_of-seat.result.level ≡ level_in d x = c.seat_of-seat.ensures.level ∙ sym (ap (λ (t : Tables). level_in t x) c.self.view_is) in
    let work : HasWork c.seat_of-seat.result.level d.demand = subst (λ k. HasWork k d.demand) (sym level) may.work in
    work.own

pub spent-requires-clause-remaining : goal.spent-requires-clause-remaining
spent-requires-clause-remaining g c =
    let x = c.args.id in
    let d = the_view c.self.inside in
    let may : MayBudget x d = subst (MayBudget x) (sym c.self.view_is) c.requires in
    let level : c.seat_of-seat.result.level ≡ level_in d x = c.seat_of-seat.ensures.level ∙ sym (ap (λ (t : Tables). level_in t x) c.self.view_is) in
    let work : HasWork c.seat_of-seat.result.level d.demand = subst (λ k. HasWork k d.demand) (sym level) may.work in
    work.remaining

pub spend_holds-requires-clause-holds : goal.spend_holds-requires-clause-holds
spend_holds-requires-clause-holds g c =
    let x = c.args.id in
    let d = the_view c.self.inside in
    let may : MayBudget x d = subst (MayBudget x) (sym c.self.view_is) c.requires in
    may.holds

pub spend_holds-requires-clause-blocks : goal.spend_holds-requires-clause-blocks
spend_holds-requires-clause-blocks g c =
    let x = c.args.id in
    let d = the_view c.self.inside in
    let may : MayBudget x d = subst (MayBudget x) (sym c.self.view_is) c.requires in
    let level : c.seat_of-seat.result.level ≡ level_in d x = c.seat_of-seat.ensures.level ∙ sym (ap (λ (t : Tables). level_in t x) c.self.view_is) in
    let n = c.seat_of-seat.result.level in
    subst (λ (e : Cells). (j : ℕ) → effective_level x n d.mutexes ≤ j → j < n → 1 ≤ slice_index e.blocking j) (sym c.spent.ensures.cells)
    (subst (λ k. (j : ℕ) → effective_level x k d.mutexes ≤ j → j < k → 1 ≤ slice_index d.demand.blocking j) (sym level) may.blocks)

told : (d : Tables) (x : ThreadId) (part : Phase) (node level : ℕ) (j : Roster) (m : List Lockable) (e : Cells) (s : Slack)
    → node ≡ node_in d.threads x → level ≡ level_in d x → j ≡ spent_on node d.jobs → m ≡ map (spent_row x) d.mutexes
    → e ≡ held_cells level (effective_level x level d.mutexes) 1 0 (dropped_cells level 1 d.demand) → s ≡ counts (Some level) d.slack
    → record d { jobs = j; mutexes = m; demand = e; slack = s } ≡ charged (Choice.Budget x part) d
told d x part node level j m e s seat leveled one two three four = rw (one, two, three, four, leveled, seat) refl

pub returns-clause-tables : goal.returns-clause-tables
returns-clause-tables g c = λ phase.
    let x = c.args.id in
    let level = c.seat_of-seat.result.level in
    let d = the_view c.self.inside in
    told d x phase c.seat_of-seat.result.node level c.spend.new.self c.spend_holds.new.mutexes c.spend_holds.new.demand c.count.new.self
    (c.seat_of-seat.ensures.node ∙ sym (ap (λ (t : Tables). node_in t.threads x) c.self.view_is))
    (c.seat_of-seat.ensures.level ∙ sym (ap (λ (t : Tables). level_in t x) c.self.view_is))
    c.spend.ensures.seat c.spend_holds.ensures.mutexes
    (c.spend_holds.ensures.demand ∙ ap (held_cells level (effective_level x level d.mutexes) 1 0) c.spent.ensures.cells)
    c.count.ensures
    ∙ ap (charged (Choice.Budget x phase)) c.self.view_is
