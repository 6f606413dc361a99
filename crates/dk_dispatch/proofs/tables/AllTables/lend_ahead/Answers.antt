use Rattle.dk_dispatch.proofs.Names.{ℕ, ◌≡◌, ◌+◌, ◌*◌, ◌<◌, ◌≤◌, ◌∙◌, map, None, Option, Some, option_map, ap, arith, subst, sym, option_map_or, MAX_THREADS, ThreadId, ThreadRow, find_row, spent_row, hold_left, first_unfit, at_tick, IsAhead, seat_at, IsSound, Tables, node_in}
use Rattle.dk_dispatch.proofs.Lending.{may-lend}
use Rattle.dk_dispatch.proofs.Runs.{ends-sooner, room-sooner}
use Rattle.dk_dispatch.proofs.tables.AllTables.lend_ahead.Goals as goal

pub before_window-requires : goal.before_window-requires
before_window-requires c =
    let sound = subst IsSound c.self.view_is c.self.invariant in
    let kernel = sound.kernel in
    let more = c.if-quiet-ahead.false in
    let within = c.quiet.ensures.within in
    omega (arith, kernel, more, within)

-- the thread's node by its row
node-is : (d : Tables) (x : ThreadId) (row : ThreadRow) (node : ℕ) → Some row ≡ find_row d.threads x → MAX_THREADS * x.process + row.slot ≡ node → node ≡ node_in d.threads x
node-is d x row node found is = sym is ∙ ap (λ (q : Option ThreadRow). MAX_THREADS * x.process + option_map_or (λ (r : ThreadRow). r.slot) q 0) found

pub returns-clause-borrows : goal.returns-clause-borrows
returns-clause-borrows c =
    let d = c.args.self.now in
    let ahead = c.in_ok-ahead.ahead in
    let x = c.thread-thread.result in
    let row = c.in_ok-row.row in
    let most = c.in_ok-most.most in
    let fit = c.fit_for-fit.result in
    let on = c.if-not-are_free.false in
    let few = c.in_ok-most.ensures.few in
    let one = c.min.ensures in
    let two = c.min-2.ensures in
    let in-wish : most ≤ ahead.ticks = omega (arith, few, one, two) in
    let in-fit : most ≤ fit = omega (arith, few, one, two) in
    let in-most : most ≤ c.args.most = omega (arith, few, one, two) in
    let is : IsAhead d.slack ahead = subst (λ (t : Tables). IsAhead t.slack ahead) c.self.view_is c.in_ok-ahead.ensures in
    let fits : (i : ℕ) → i < fit → first_unfit (at_tick d.demand (d.demand.windows.tick + i)) ≡ None = λ i before.
    subst (λ (t : Tables). first_unfit (at_tick t.demand (t.demand.windows.tick + i)) ≡ None) c.self.view_is (c.fit_for-fit.ensures i before) in
    let sits : (seat_at d.jobs ahead.node).thread ≡ x = sym (subst (λ (t : Tables). x ≡ (seat_at t.jobs ahead.node).thread) c.self.view_is c.thread-thread.ensures) in
    let found : Some row ≡ find_row d.threads x = c.in_ok-row.ensures.table in
    let node : ahead.node ≡ node_in d.threads x = node-is d x row ahead.node found (sym c.node_at.ensures ∙ c.if-node_at-ahead.false) in
    let free : hold_left x d.mutexes ≡ 0 = subst (λ (t : Tables). hold_left x t.mutexes ≡ 0) c.self.view_is (c.are_free.ensures.left x on) in
    let holds : map (spent_row x) d.mutexes ≡ d.mutexes = subst (λ (t : Tables). map (spent_row x) t.mutexes ≡ t.mutexes) c.self.view_is (c.are_free.ensures.holds x on) in
    record {
      may = λ n below.
          may-lend d ahead is c.quiet.result fit c.if-quiet-ahead.false c.quiet.ensures.within c.quiet.ensures.quiet fits x sits node free holds
          n (omega (arith, below, in-wish)) (omega (arith, below, in-fit)) (room-sooner n c.args.most d (omega (arith, below, in-most)) c.requires) (ends-sooner n most d below c.in_ok-most.ensures.within);
      seat = record {
        at = ap (option_map (λ (r : ThreadRow). r.slot)) (sym found);
        fits = c.in_ok-row.ensures.fits;
        own = c.in_ok-row.ensures.own;
      };
    }
