-- A tick on a thread's budget, and one of slack, make the tables the recount of the past with the tick's entry.
use Rattle.dk_recount.proofs.Names.{◌≡◌, ◌<◌, ◌≤◌, ◌+◌, ◌∙◌, inl, inr, ◌&&◌, Bool, true, false, cond, eqb, leb, ltb, ℕ, List, [], ◌∷◌, length, map, Some, None, refl, ap, sym, subst, arith, slice_index, Contains, option_map_or, option_or, nat_tests, MAX_TICKS, Configuration, ThreadId, Phase, Source, Work, Choice, Label, Entry, Has, is_same, is_of, payer, thread_of, quiet, Thread, threads, rem, job, thread_rem, Hold, held_by, innermost_left, is_holding, past_level, blocking, level_of, want, chosen, HasChosenLabel, Always, BlocksAtMost, working_level, spent, AreFamilies, has_row, row-slot, effective_level, holds_within, dropped_cells, held_cells, AreCells, Wish, want_in, wishes_at, dropped, lowered, spent_wish, asking, claiming_level, spares_of, AreCounted, HaveOwnNodes, length-map, same-self, has-contains, has-filter, Says, AreWishes, Seat, seat_at, left_on, spent_on, Tables, IsSound, node_in, IsReady, IsCharged, seat_of, HasWork, charged, counts, level_in, first_in, MayBudget, MaySlack, AreSeated, AreJobs}
use Rattle.dk_trace.specs.Holds.{hold_left}
use Rattle.dk_recount.specs.Needed.{ChoosingLaws as Laws}
use Rattle.dk_recount.proofs.Rows.{slot-is, nodes-differ}
use Rattle.dk_recount.proofs.Choosing.{holders-fit, worker-there, row-of, own-nodes, front-owned}
use Rattle.dk_recount.proofs.Charge.Labels.{TickLaws, levels-spent}
use Rattle.dk_recount.proofs.Charge.Recount.{same-threads, same-rows, same-loans, has-work, cell-at, wishes-kept, moves, counting, unpaid-jobs, jobs-before, counted-is, may-count, levels-of}
use Rattle.dk_recount.proofs.Holding.{last-least}

same-length : (node : ℕ) (wishes : List (List Wish)) → length (spent_wish node wishes) ≡ length wishes
same-length node wishes = go (eqb (want_in node wishes) 1)
  where
    go : (b : Bool) → length (cond b (dropped node wishes) (map (map (lowered node)) wishes)) ≡ length wishes
    go true = length-map wishes _
    go false = length-map wishes _

module _ (laws : Laws) (tick : TickLaws) (c : Configuration) (label : Label) (past : List Entry) (d : Tables) (ready : IsReady c past d) (families : AreFamilies d.threads.levels d.threads.families) (chose : HasChosenLabel (chosen c past) label) (sound : IsSound d) where
  abbrev now : ℕ
  now = length past

  abbrev after : List Entry
  after = quiet label ∷ past

  abbrev node_of : ThreadId → ℕ
  node_of = node_in d.threads

  -- no hold is at its end before its last tick
  holds-far : (y : Thread) → Has (threads c past) y → holds_within y.id 0 d.mutexes ≡ false
  holds-far y among =
      let ruled = ready.ruled in
      tick.within c past d.mutexes y.id 0 ready.recount.holders
      (last-least c 1 (held_by y.id past) (tick.nest c past ruled.checked ruled.accepted ruled.audited y.id))
      ∙ go (held_by y.id past) refl
    where
      go : (held : List Hold) → held_by y.id past ≡ held → (is_holding held && leb (innermost_left c held) 0) ≡ false
      go [] none = refl
      go (h ∷ held) some =
          let ruled = ready.ruled in
          let stands = laws.stand c past ruled.checked ruled.accepted ruled.audited y among (ap is_holding some) in
          let one = (stands.left h (subst (λ hs. Has hs h) (sym some) (inl refl))).0 in
          let off : leb (hold_left c h) 0 ≡ false = grind (arith, nat_tests) in
          off

  is-mine : (y : Thread) → thread_of label ≡ Some y.id → is_of y.id (quiet label) ≡ true
  is-mine y has = ap (λ o. option_map_or (is_same y.id) o false) has ∙ same-self y.id

  node-low : (y : Thread) → Has (threads c past) y → has_row c now y ≡ true → node_of y.id < length d.jobs.seats
  node-low y among there =
      let row = row-of laws c past d ready families y among there in
      let place = laws.places c past ready.ruled.checked ready.ruled.accepted ready.ruled.audited y among in
      let low = row-slot d.threads y.id.process row.row families row.among in
      let slot = slot-is d.threads y.id row in
      let known = place.process in
      let many = ready.recount.rows.processes in
      let nodes = sound.nodes in
      omega (arith, low, slot, known, many, nodes)

  seated : AreSeated node_of (has_row c now) c now past
  seated = record {
    named = (laws.named c past ready.ruled.checked ready.ruled.accepted ready.ruled.audited).distinct;
    apart = λ y z one two here there same.
        nodes-differ d.threads y.id z.id families (row-of laws c past d ready families y one here) (row-of laws c past d ready families z two there) same;
    workers = λ y h some. worker-there laws c past d ready families y h some;
  }

  module _ (y : Thread) (among : Has (threads c past) y) (some : 0 < thread_rem c now past y) (says : Says label None (Some y.id) None (Some y.id)) where
    there : has_row c now y ≡ true
    there = worker-there laws c past d ready families y among some

    seat-is : seat_at d.jobs (node_of y.id) ≡ seat_of c now past y
    seat-is = ready.recount.jobs.seats y among there

    level-is : level_in d y.id ≡ y.level
    level-is = ap (λ (s : Seat). s.level) seat-is

    first-is : first_in d y.id ≡ past_level c past y
    first-is = ap (λ l. effective_level y.id l d.mutexes) level-is ∙ tick.runs c past d.mutexes y ready.recount.holders (holders-fit laws c past d ready families)

    level-told : level_of (threads c past) y.id ≡ Some y.level
    level-told = tick.levels c past ready.ruled.checked ready.ruled.accepted ready.ruled.audited y among

    works : working_level (threads c past) label ≡ Some y.level
    works = grind (arith, nat_tests, level-told)

    claims : claiming_level (threads c after) (quiet label) ≡ Some y.level
    claims =
        ap (λ o. option_or o (option_map_or (level_of (threads c after)) (payer label) None)) says.kernel
        ∙ ap (λ o. option_map_or (level_of (threads c after)) o None) says.pays
        ∙ ap (λ xs. level_of xs y.id) (same-threads laws tick c label past d ready families chose)
        ∙ level-told

    known : y.level < length c.levels
    known = (laws.places c past ready.ruled.checked ready.ruled.accepted ready.ruled.audited y among).level

    paid-cells : AreCells c after (held_cells y.level (past_level c past y) 1 0 (dropped_cells y.level 1 d.demand))
    paid-cells =
        ((moves laws tick c label past d ready families chose).holder d.demand y
        (counting laws tick c label past d ready families chose) among says.pays).0

    spends : (z : Thread) → Has (threads c past) z → job c now after z ≡ cond (is_same z.id y.id) (spent c.costs.switch (job c now past z)) (job c now past z)
    spends z h = grind (arith, nat_tests, tick.spends c label past ready.ruled.checked ready.ruled.accepted ready.ruled.audited chose z h)

    paid-jobs : AreJobs node_of (has_row c now) c now after (spent_on (node_of y.id) d.jobs)
    paid-jobs =
        tick.budget node_of (has_row c now) c label past d.jobs y (jobs-before laws tick c label past d ready families chose) seated among there (node-low y among there)
        (record {
          rows = same-threads laws tick c label past d ready families chose;
          others = λ z h other. spends z h ∙ ap (λ b. cond b (spent c.costs.switch (job c now past z)) (job c now past z)) other;
          lowers = (let law = tick.lowers c label past ready.ruled.checked ready.ruled.accepted ready.ruled.audited chose y among in omega (arith, law));
        })
        (spends y among ∙ ap (λ b. cond b (spent c.costs.switch (job c now past y)) (job c now past y)) (same-self y.id))

    pub budget-charged : length past < MAX_TICKS → (part : Phase) → chosen c past ≡ Choice.Budget y.id part → IsCharged c label past (charged (Choice.Budget y.id part) d)
    budget-charged room part is = record {
      ruled = ready.ruled;
      chose = chose;
      room = room;
      recount = record {
        tick = ready.recount.tick;
        rows = same-rows laws tick c label past d ready families chose;
        loans = same-loans laws tick c label past d ready families chose;
        holders = tick.held c past d.mutexes y.id (quiet label) ready.recount.holders (is-mine y says.has) refl;
        own_levels = levels-spent c past after d.mutexes y.id ready.recount.own_levels (same-threads laws tick c label past d ready families chose);
        cells = grind (arith, nat_tests, level-is, first-is, paid-cells);
        wishes =
            subst (λ l. AreWishes node_of (spares_of c) c now after (counts (Some l) d.slack)) (sym level-is)
            (wishes-kept laws tick c label past d ready families chose (Some y.level) (inr (y.id, says)) claims);
        jobs = paid-jobs;
        kernel = tick.parts c label past d.kernel ready.recount.kernel says.kernel;
        releases = ready.recount.releases;
        rights = ready.recount.rights;
      };
    }

    blocked : (j : ℕ) → blocking c after j + cond (leb (past_level c past y) j && ltb j y.level) 1 0 ≡ blocking c past j
    blocked j = tick.blocks c label past ready.ruled.checked ready.ruled.accepted ready.ruled.audited chose y j among says.has

    between-on : (j : ℕ) → past_level c past y ≤ j → j < y.level → ◌≡◌ {A = ℕ} (cond (leb (past_level c past y) j && ltb j y.level) 1 0) 1
    between-on j low high = grind (arith, nat_tests)

    cell : (j : ℕ) → j < y.level → slice_index d.demand.blocking j ≡ blocking c past j
    cell j high = cell-at laws tick c label past d ready families chose (blocking c past) d.demand.blocking j ready.recount.cells.blocking (omega (arith, known))

    pub budget-may : Always BlocksAtMost → MayBudget y.id d
    budget-may blocks =
        let has = has-work laws tick c label past d ready families chose y.level works known in
        record {
          work = subst (λ l. HasWork l d.demand) (sym level-is) has;
          node = node-low y among there;
          left = (let same : left_on d.jobs (node_of y.id) ≡ thread_rem c now past y = ap (λ (s : Seat). rem d.jobs.switch s.job) seat-is ∙ ap (λ W. rem W (job c now past y)) ready.recount.jobs.switch in omega (arith, same));
          queued = tick.queued node_of (has_row c now) c now past d.jobs y (jobs-before laws tick c label past d ready families chose) among known some;
          front = grind (arith, nat_tests, levels-of, front-owned);
          holds = holds-far y among;
          blocks = λ j low high. (let law = blocked j in let f = first-is in let l = level-is in let on = between-on j (omega (arith, low, f)) (omega (arith, high, l)) in let cell = cell j (omega (arith, high, l)) in omega (arith, law, on, cell));
          few = λ j low high.
              (let l = level-is in
              let inside : j < length c.levels = omega (arith, high, l, known) in
              let most = blocks c past ready.ruled.checked ready.ruled.accepted ready.ruled.audited j inside in
              let fits = ready.ruled.accepted j inside in
              let short = ready.ruled.limits.periods j in
              let is = cell j (omega (arith, high, l)) in
              omega (arith, most, fits, short, is));
          count = may-count laws tick c label past d ready families chose (Some (level_in d y.id));
        }

  module _ (y : Thread) (among : Has (threads c past) y) (gone : thread_rem c now past y ≡ 0) (asks : 0 < want c now past y) (from : Source) (work : Work) (says : Says label None None (Some y.id) (Some y.id)) (is-label : label ≡ Label.Slack y.id from work) where
    asker-level : y.level < length c.levels
    asker-level = (laws.places c past ready.ruled.checked ready.ruled.accepted ready.ruled.audited y among).level

    asks-there : Contains (asking c now past y.level) y
    asks-there =
        let self : eqb y.level y.level ≡ true = grind (arith, nat_tests) in
        let on : ltb 0 (want c now past y) ≡ true = grind (arith, nat_tests) in
        has-contains (asking c now past y.level) y
        (has-filter (λ x. eqb x.level y.level && ltb 0 (want c now past x)) (threads c past) y among (rw (self, on) refl))

    own' : HaveOwnNodes node_of c now past
    own' = own-nodes laws c past d ready families

    holds-nothing : is_holding (held_by y.id past) ≡ false
    holds-nothing = grind (arith, nat_tests)

    no-claim : claiming_level (threads c after) (quiet label) ≡ None
    no-claim = grind (arith, nat_tests)

    pub slack-charged : length past < MAX_TICKS → (part : Phase) → chosen c past ≡ Choice.Slack y.id from part → IsCharged c label past (charged (Choice.Slack y.id from part) d)
    slack-charged room part is = record {
      ruled = ready.ruled;
      chose = chose;
      room = room;
      recount = record {
        tick = ready.recount.tick;
        rows = same-rows laws tick c label past d ready families chose;
        loans = same-loans laws tick c label past d ready families chose;
        holders = tick.held c past d.mutexes y.id (quiet label) ready.recount.holders (is-mine y says.has) refl;
        own_levels = levels-spent c past after d.mutexes y.id ready.recount.own_levels (same-threads laws tick c label past d ready families chose);
        cells =
            ((moves laws tick c label past d ready families chose).slack d.demand y
            (counting laws tick c label past d ready families chose) among says.borrows holds-nothing).0;
        wishes = record {
          nodes = ready.recount.wishes.nodes;
          switch = ready.recount.wishes.switch;
          levels = same-length (node_of y.id) d.slack.wishes ∙ ready.recount.wishes.levels;
          wishes = λ k known.
              subst (λ l. AreCounted node_of c now (record { label = l; event = None } ∷ past) k (wishes_at (spent_wish (node_of y.id) d.slack.wishes) k)) (sym is-label)
              (tick.wished node_of (spares_of c) c past d.slack y from work y.level k ready.recount.wishes own' asker-level asks-there known);
          unclaimed = counted-is laws tick c label past d ready families chose None no-claim;
          spares = ready.recount.wishes.spares;
        };
        jobs = (unpaid-jobs laws tick c label past d ready families chose says.pays);
        kernel = tick.parts c label past d.kernel ready.recount.kernel says.kernel;
        releases = ready.recount.releases;
        rights = ready.recount.rights;
      };
    }

    pub slack-may : MaySlack y.id d
    slack-may = record {
      wish = (let is = tick.wants node_of (spares_of c) c now past d.slack y.level y ready.recount.wishes own' asker-level asks-there in omega (arith, is, asks));
      holds = holds-far y among;
      count = may-count laws tick c label past d ready families chose None;
    }
