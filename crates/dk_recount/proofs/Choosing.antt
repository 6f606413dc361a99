-- Tables that are the recount of a past choose as the past does.
use Rattle.dk_recount.proofs.Names.{◌≡◌, ◌<◌, ◌∙◌, ◌&&◌, Bool, true, false, cond, eqb, ltb, ℕ, List, length, Option, Some, None, option_map, refl, ap, sym, subst, arith, slice_get, find, filter, Contains, unwrap_or, option_or, and_parts, ltb-true, eqb-true, nat_tests, Configuration, below, first_of, user-mutex, length-map-numbers, at_index, front-found, first-same, ThreadId, Phase, Choice, Entry, Has, Thread, threads, thread_rem, kernel_rem, held_by, fits, is_tight_at, want, is_wishing, oldest, past_source, on_budget, on_slack, past_holder_at, ready_at, work_at, wish_at, slack_at, choice_at, chosen, claims_slack_at, denied, find-has, filter-has, find-none, contains-has, has-contains, holding-some, AreFamilies, has_row, HasRow, row-there, HoldersFit, first_unfit, queue_at, first_node, is_entering, source, asking, HaveOwnNodes, Seat, seat_at, filter-same, Tables, node_in, IsReady, kernel_part, is_ready, kernel_left, first_worker, budget_of, work_in, loan_of, slack_in, choice_in, fits_in, choice_of, claims_in, claims_slack, denial_of}
use Rattle.std.specs.Prelude.{is_none}
use Rattle.dk_recount.specs.Needed.{ChoosingLaws as Laws}
use Rattle.dk_recount.proofs.Stop.Present.{there-row, worker-has-row}
use Rattle.dk_recount.proofs.Rows.{nodes-differ}
use Rattle.dk_recount.proofs.Oldest.{oldest-has, first-oldest}

abbrev part_of : ThreadId → Option Phase → Choice
part_of x None = Choice.Idle
part_of x (Some part) = Choice.Budget x part

module _ (laws : Laws) (c : Configuration) (past : List Entry) (d : Tables) (ready : IsReady c past d) (families : AreFamilies d.threads.levels d.threads.families) where
  abbrev now : ℕ
  now = length past

  abbrev node_of : ThreadId → ℕ
  node_of = node_in d.threads

  pub holders-fit : HoldersFit c past
  holders-fit = record {
    mutexes = λ x h has.
        let holder = laws.known c past ready.ruled.checked ready.ruled.accepted ready.ruled.audited x (holding-some (held_by x past) h has) in
        user-mutex c h.mutex x.process (holder.users h has);
    known = λ x holding.
        let holder = laws.known c past ready.ruled.checked ready.ruled.accepted ready.ruled.audited x holding in
        (holder.thread, holder.among, holder.name);
    apart = laws.differ c past ready.ruled.checked ready.ruled.accepted ready.ruled.audited;
  }

  -- a thread that has something left, or asks for slack, has a row
  pub worker-there : (x : Thread) → Has (threads c past) x → 0 < thread_rem c now past x → has_row c now x ≡ true
  worker-there x among some = worker-has-row c past (laws.absent c past ready.ruled.checked ready.ruled.accepted ready.ruled.audited) x among some

  pub asker-there : (x : Thread) → Has (threads c past) x → 0 < want c now past x → has_row c now x ≡ true
  asker-there x among some = grind (arith, nat_tests, there-row)

  pub row-of : (x : Thread) → Has (threads c past) x → has_row c now x ≡ true → HasRow d.threads x.id
  row-of x among there = grind (arith, nat_tests, row-there)

  pub asker : (k : ℕ) (x : Thread) → Contains (asking c now past k) x → Has (threads c past) x × (x.level ≡ k) × (0 < want c now past x)
  asker k x has =
      let r = filter-has (λ y. eqb y.level k && ltb 0 (want c now past y)) (threads c past) x (contains-has (asking c now past k) x has) in
      let parts = and_parts (eqb x.level k) (ltb 0 (want c now past x)) r.1 in
      (r.0, eqb-true x.level k parts.0, ltb-true 0 (want c now past x) parts.1)

  pub own-nodes : HaveOwnNodes node_of c now past
  own-nodes j k x y jn kn hx hy same =
      let a = asker j x hx in
      let b = asker k y hy in
      let one = row-of x a.0 (asker-there x a.0 a.2) in
      let two = row-of y b.0 (asker-there y b.0 b.2) in
      (laws.named c past ready.ruled.checked ready.ruled.accepted ready.ruled.audited).distinct x y a.0 b.0 (nodes-differ d.threads x.id y.id families one two same)

  levels-are : length d.kernel ≡ length c.levels
  levels-are = ap length ready.recount.kernel ∙ length-map-numbers (kernel_part c now past) 0 (length c.levels)

  kernel-is : (k : ℕ) → k < length c.levels → kernel_left d k ≡ kernel_rem c now past k
  kernel-is k known = grind (arith, nat_tests, at_index)

  -- a thread with something left is told as the past tells it
  budget-is : (x : Thread) → Has (threads c past) x → 0 < thread_rem c now past x → budget_of d.jobs (node_of x.id) ≡ on_budget c past x
  budget-is x among some = grind (arith, nat_tests, worker-there)

  front-is : (k : ℕ) → k < length c.levels → slice_get (queue_at d.jobs.ready.lists k) 0 ≡ option_map (λ (x : Thread). node_of x.id) (ready_at c past k)
  front-is k known = grind (arith, nat_tests, front-found)

  -- whoever holds a mutex, or stands in a ready queue, has something left
  holder-left : (k : ℕ) (x : Thread) → past_holder_at c past k ≡ Some x → Has (threads c past) x × (0 < thread_rem c now past x)
  holder-left k x is = grind (arith, nat_tests, find-has, and_parts)

  ready-left : (k : ℕ) (x : Thread) → ready_at c past k ≡ Some x → Has (threads c past) x × (0 < thread_rem c now past x)
  ready-left k x is = grind (arith, nat_tests, find-has, and_parts, ltb-true)

  -- whoever sits on the first node of a queue has that node
  pub front-owned : (k node : ℕ) (x : ThreadId) → k < length c.levels → slice_get (queue_at d.jobs.ready.lists k) 0 ≡ Some node → (seat_at d.jobs node).thread ≡ x → node ≡ node_of x
  front-owned k node x known at sits = go (ready_at c past k) refl
    where
      go : (o : Option Thread) → ready_at c past k ≡ o → node ≡ node_of x
      go None is = let no : None ≡ Some node = sym (front-is k known ∙ ap (option_map (λ (y : Thread). node_of y.id)) is) ∙ at in absurd (cc)
      go (Some y) is =
          let r = ready-left k y is in
          let same : Some (node_of y.id) ≡ Some node = sym (front-is k known ∙ ap (option_map (λ (z : Thread). node_of z.id)) is) ∙ at in
          let node-is : node_of y.id ≡ node = cc in
          let seat = ready.recount.jobs.seats y r.0 (worker-there y r.0 r.1) in
          let who : y.id ≡ x = sym (ap (λ (s : Seat). s.thread) seat) ∙ ap (λ n. (seat_at d.jobs n).thread) node-is ∙ sits in
          sym node-is ∙ ap node_of who

  worker-is : (k : ℕ) → k < length c.levels
      → option_map (budget_of d.jobs) (first_worker d k) ≡ option_map (on_budget c past) (option_or (past_holder_at c past k) (ready_at c past k))
  worker-is k known = go (past_holder_at c past k) refl
    where
      first : (o : Option Thread) → past_holder_at c past k ≡ o
          → first_worker d k ≡ option_or (option_map (λ (x : Thread). node_of x.id) o) (option_map (λ (x : Thread). node_of x.id) (ready_at c past k))
      first o is =
          let holder = laws.holder c past d.mutexes k ready.recount.holders ready.recount.own_levels holders-fit ∙ ap (option_map (λ (x : Thread). x.id)) is in
          ap (λ h. option_or (option_map node_of h) (slice_get (queue_at d.jobs.ready.lists k) 0)) holder
          ∙ ap (option_or (option_map node_of (option_map (λ (x : Thread). x.id) o))) (front-is k known)
          ∙ ap (λ h. option_or h (option_map (λ (x : Thread). node_of x.id) (ready_at c past k))) (twice o)
        where
          twice : (o : Option Thread) → option_map node_of (option_map (λ (x : Thread). x.id) o) ≡ option_map (λ (x : Thread). node_of x.id) o
          twice None = refl
          twice (Some x) = refl

      next : (q : Option Thread) → ready_at c past k ≡ q
          → option_map (budget_of d.jobs) (option_map (λ (x : Thread). node_of x.id) q) ≡ option_map (on_budget c past) q
      next None is = refl
      next (Some x) is = let r = ready-left k x is in ap Some (budget-is x r.0 r.1)

      go : (o : Option Thread) → past_holder_at c past k ≡ o
          → option_map (budget_of d.jobs) (first_worker d k) ≡ option_map (on_budget c past) (option_or (past_holder_at c past k) (ready_at c past k))
      go None is =
          ap (option_map (budget_of d.jobs)) (first None is)
          ∙ next (ready_at c past k) refl
          ∙ ap (λ o. option_map (on_budget c past) (option_or o (ready_at c past k))) (sym is)
      go (Some x) is =
          let r = holder-left k x is in
          ap (option_map (budget_of d.jobs)) (first (Some x) is)
          ∙ ap Some (budget-is x r.0 r.1)
          ∙ ap (λ o. option_map (on_budget c past) (option_or o (ready_at c past k))) (sym is)

  pub work-is : (k : ℕ) → k < length c.levels → work_in d k ≡ work_at c past k
  work-is k known = grind (arith, nat_tests, kernel-is, worker-is)

  -- where a level has no work, each of its threads that asks for slack wishes for it
  no-ready : (k : ℕ) → work_at c past k ≡ None → ready_at c past k ≡ None
  no-ready k none = by-kernel (ltb 0 (kernel_rem c now past k)) none
    where
      by-thread : (o q : Option Thread) → option_map (on_budget c past) (option_or o q) ≡ None → q ≡ None
      by-thread None None e = refl
      by-thread None (Some x) e = absurd (cc)
      by-thread (Some x) q e = absurd (cc)

      by-kernel : (b : Bool) → cond b (Some (Choice.Kernel k)) (option_map (on_budget c past) (option_or (past_holder_at c past k) (ready_at c past k))) ≡ None → ready_at c past k ≡ None
      by-kernel true e = absurd (cc)
      by-kernel false e = by-thread (past_holder_at c past k) (ready_at c past k) e

  wishing-is : (k : ℕ) → work_at c past k ≡ None → filter (is_wishing c now past k) (threads c past) ≡ asking c now past k
  wishing-is k none =
      filter-same (is_wishing c now past k) (λ x. eqb x.level k && ltb 0 (want c now past x)) (threads c past)
      (λ x has. same x (find-none (is_ready c now past k) (threads c past) x (no-ready k none) has))
    where
      tests : (a b w : Bool) (n : ℕ) → b ≡ ltb 0 n → (a && b) ≡ false → (a && eqb n 0 && w) ≡ (a && w)
      tests false b w n is off = refl
      tests true true w n is off = absurd (cc)
      tests true false w n is off =
          let none' : eqb n 0 ≡ true = grind (arith, nat_tests) in
          rw none' refl

      same : (x : Thread) → is_ready c now past k x ≡ false → is_wishing c now past k x ≡ (eqb x.level k && ltb 0 (want c now past x))
      same x off = tests (eqb x.level k) (ltb 0 (thread_rem c now past x)) (ltb 0 (want c now past x)) (thread_rem c now past x) refl off

  -- the oldest wish
  front-wish : (k : ℕ) → k < length c.levels → work_at c past k ≡ None
      → first_node k d.slack.wishes ≡ option_map (λ (x : Thread). node_of x.id) (wish_at c past k)
  front-wish k known none =
      first-oldest c now past node_of k _ (ready.recount.wishes.wishes k known)
      ∙ ap (λ xs. option_map (λ (x : Thread). node_of x.id) (oldest c now past xs)) (sym (wishing-is k none))

  wisher : (k : ℕ) (x : Thread) → work_at c past k ≡ None → wish_at c past k ≡ Some x → Contains (asking c now past k) x
  wisher k x none is =
      has-contains (asking c now past k) x
      (subst (λ xs. Has xs x) (wishing-is k none) (oldest-has c now past (filter (is_wishing c now past k) (threads c past)) x is))

  loan-is : (k : ℕ) (x : Thread) → k < length c.levels → work_at c past k ≡ None → wish_at c past k ≡ Some x → loan_of d (node_of x.id) ≡ on_slack c past x
  loan-is k x known none is =
      let has = wisher k x none is in
      let a = asker k x has in
      let seat = ready.recount.jobs.seats x a.0 (asker-there x a.0 a.2) in
      let from = laws.source node_of c now past d.slack ready.recount.wishes in
      let enters = laws.switch node_of _ c now past d.slack k x ready.recount.wishes own-nodes known has in
      ap (λ (s : Seat). Choice.Slack s.thread (source d.slack.unclaimed d.slack.spares) (cond (is_entering (node_of x.id) d.slack.wishes) Phase.In Phase.Body)) seat
      ∙ ap (λ z. Choice.Slack x.id z (cond (is_entering (node_of x.id) d.slack.wishes) Phase.In Phase.Body)) from
      ∙ ap (λ b. Choice.Slack x.id (past_source c now past) (cond b Phase.In Phase.Body)) enters

  slack-is : (k : ℕ) → k < length c.levels → work_at c past k ≡ None → slack_in d k ≡ option_map (on_slack c past) (wish_at c past k)
  slack-is k known none =
      ap (option_map (loan_of d)) (front-wish k known none) ∙ go (wish_at c past k) refl
    where
      go : (o : Option Thread) → wish_at c past k ≡ o → option_map (loan_of d) (option_map (λ (x : Thread). node_of x.id) o) ≡ option_map (on_slack c past) o
      go None is = refl
      go (Some x) is = ap Some (loan-is k x known none is)

  fits-is : fits_in d ≡ fits c now past
  fits-is = sym (ap (λ t. fits c t past) (sym ready.recount.tick) ∙ laws.fit c past d.demand ready.recount.cells)

  choice-is : (k : ℕ) → k < length c.levels → choice_in d (fits_in d) k ≡ choice_at c past k
  choice-is k known =
      ap (λ b. choice_in d b k) fits-is
      ∙ ap (λ w. option_or w (cond (fits c now past) (slack_in d k) None)) (work-is k known)
      ∙ go (work_at c past k) refl
    where
      go : (w : Option Choice) → work_at c past k ≡ w
          → option_or (work_at c past k) (cond (fits c now past) (slack_in d k) None) ≡ option_or (work_at c past k) (slack_at c past k)
      go (Some choice) is = rw is refl
      go None is = ap (λ o. option_or (work_at c past k) (cond (fits c now past) o None)) (slack-is k known is)

  pub chooses : choice_of d ≡ chosen c past
  chooses = grind (arith, nat_tests, levels-are, first-same, choice-is)

  claims-is : (k : ℕ) → k < length c.levels → claims_in d k ≡ claims_slack_at c past k
  claims-is k known =
      ap (λ w. option_or (option_map (λ (choice : Choice). false) w) (option_map (λ (node : ℕ). true) (first_node k d.slack.wishes))) (work-is k known)
      ∙ go (work_at c past k) refl
    where
      asks : (o : Option Thread) → option_map (λ (node : ℕ). true) (option_map (λ (x : Thread). node_of x.id) o) ≡ option_map (λ (x : Thread). true) o
      asks None = refl
      asks (Some x) = refl

      go : (w : Option Choice) → work_at c past k ≡ w
          → option_or (option_map (λ (choice : Choice). false) (work_at c past k)) (option_map (λ (node : ℕ). true) (first_node k d.slack.wishes)) ≡ claims_slack_at c past k
      go (Some choice) is = rw is refl
      go None is =
          ap (λ o. option_or (option_map (λ (choice : Choice). false) (work_at c past k)) (option_map (λ (node : ℕ). true) o)) (front-wish k known is)
          ∙ ap (option_or (option_map (λ (choice : Choice). false) (work_at c past k))) (asks (wish_at c past k))

  claims-are : claims_slack d ≡ unwrap_or (first_of (claims_slack_at c past) (below (length c.levels))) false
  claims-are = grind (arith, nat_tests, levels-are, first-same, claims-is)

  pub denies : (first_unfit d.demand ≡ find (is_tight_at c now past) (below (length c.levels))) → denial_of d ≡ denied c past
  denies tight =
      ap (λ b. cond b (first_unfit d.demand) None) claims-are
      ∙ go (unwrap_or (first_of (claims_slack_at c past) (below (length c.levels))) false) (first_unfit d.demand) refl
    where
      tests : (b f : Bool) (o : Option ℕ) → (f ≡ is_none o) → cond b o None ≡ cond (b && cond f false true) o None
      tests false f o is = refl
      tests true f None is = rw is refl
      tests true f (Some j) is = rw is refl

      go : (b : Bool) (o : Option ℕ) → first_unfit d.demand ≡ o
          → cond b (first_unfit d.demand) None ≡ cond (b && cond (fits c now past) false true) (find (is_tight_at c now past) (below (length c.levels))) None
      go b o is =
          tests b (fits c now past) (first_unfit d.demand) (sym fits-is)
          ∙ ap (λ q. cond (b && cond (fits c now past) false true) q None) tight
