use Rattle.dk_dispatch.proofs.Names.{◌∙◌, ℕ, ◌≡◌, ◌≤◌, map, true, None, arith, inr, refl, subst, sym, RunsFirst, effective_level, hold_left, holder_at, spent_row, first_node, IsComputingFor, HasNoWish, kernel_left, HasFamilies, IsSound, Tables, Lead}
use Rattle.dk_dispatch.proofs.Leading.{leads, slot-rest}
use Rattle.dk_dispatch.proofs.Runs.{ends-sooner, is-computing, may-run, room-sooner}
use Rattle.dk_dispatch.proofs.tables.AllTables.run_ahead.Goals as goal

pub returns-clause-runs : goal.returns-clause-runs
returns-clause-runs c =
    let d = c.args.self.now in
    let ahead = c.in_ok-ahead.ahead in
    let first = ahead.first in
    let has = c.requires in
    let on = c.if-not-are_free.false in
    let sound = subst IsSound c.self.view_is c.self.invariant in
    let families = subst HasFamilies c.self.view_is c.rows_are_in_order.ensures in
    let computes = subst (λ (t : Tables). IsComputingFor t.jobs ahead.ticks first) c.self.view_is c.in_ok-ahead.ensures in
    let kernel = λ (k : ℕ) (low : k ≤ first.level). subst (λ (t : Tables). kernel_left t k ≡ 0) c.self.view_is (c.quiet-else-quiet-first.ensures.quiet k (omega (arith, low, c.if-quiet-first-2.false))) in
    let holders = λ (k : ℕ) (low : k ≤ first.level). subst (λ (t : Tables). holder_at k t.mutexes ≡ None) c.self.view_is (c.quiet.ensures k (omega (arith, low, c.if-quiet-first.false))) in
    let wish : HasNoWish d first.level = λ k less. subst (λ (t : Tables). first_node k t.slack.wishes ≡ None) c.self.view_is (c.quiet-else-quiet-first-2.ensures.quiet k (omega (arith, less, c.if-quiet-first-3.false))) in
    let free : hold_left first.thread d.mutexes ≡ 0 = subst (λ (t : Tables). hold_left first.thread t.mutexes ≡ 0) c.self.view_is (c.are_free.ensures.left first.thread on) in
    let computing = is-computing d first ahead.ticks computes sound kernel holders wish in
    let runs : RunsFirst first.thread first.level first.level d.mutexes = record {
      within = omega arith;
      before = λ k less. holders k (omega (arith, less));
      there = inr (refl, holders first.level (omega arith));
    } in
    let slot = c.slot_of.result in
    let lead : Lead = record { thread = first.thread; slot = slot; left = 0 } in
    let led = leads d first first.level lead computing runs kernel (λ _. wish) sound families c.choice_is_the_pasts.ensures
    c.workers_are_the_pasts.ensures.front c.callers_have_rows.ensures.slots c.holds_are_the_pasts.ensures.left refl
    (λ s fits is. c.slot_of.ensures ∙ slot-rest first.thread.process first.node s fits is) (sym free) in
    let at = computes.stands in
    let node = c.workers_are_the_pasts.ensures.front has.config has.past d first.thread has.stands families sound first.level first.node at.known at.front at.thread in
    let most = c.in_ok-most.most in
    let less : most ≤ ahead.ticks = (let few = c.in_ok-most.ensures.few in let least = c.min.ensures in omega (arith, few, least)) in
    let less' : most ≤ c.args.most = (let few = c.in_ok-most.ensures.few in let least = c.min.ensures in omega (arith, few, least)) in
    record {
      may = λ n below.
          may-run d first ahead.ticks computes sound kernel holders wish node free (subst (λ (t : Tables). map (spent_row first.thread) t.mutexes ≡ t.mutexes) c.self.view_is (c.are_free.ensures.holds first.thread on))
          (λ own. subst (λ (t : Tables). effective_level first.thread own t.mutexes ≡ own) c.self.view_is (c.are_free.ensures.levels first.thread own on))
          n (omega (arith, below, less)) (room-sooner n c.args.most d (omega (arith, below, less')) has) (ends-sooner n most d below c.in_ok-most.ensures.within);
      seat = led.seat has.config has.past has.stands;
    }
