-- A tick that is charged makes the tables the recount of the past with the tick's entry.
use Rattle.dk_recount.proofs.Names.{◌≡◌, ◌<◌, ◌+◌, ◌^◌, ◌∙◌, ◌⊎◌, inl, inr, true, eqb, leb, ℕ, List, [], ◌∷◌, length, map, get_or, Option, Some, None, refl, ap, sym, arith, slice_index, length-map, nat_tests, MAX_TICKS, Configuration, length-map-numbers, at_index, ThreadId, Choice, Label, Entry, payer, borrower, quiet, Thread, threads, kernel_rem, own_demand, remaining_demand, unclaimed, chosen, HasChosenLabel, working_level, worked, threads-charged, Says, unclaimed-few, AreFamilies, has_row, AreThreads, AreLoans, quiet-loans, each_level, CountsAt, TickMovesCells, counted, claiming_level, unclaimed_of, spares_of, AreWishes, Tables, node_in, IsReady, IsCharged, charged, counts, HasWork, MayCount, MayKernel, kernel_left, AreJobs}
use Rattle.dk_recount.specs.Needed.{ChoosingLaws as Laws}
use Rattle.dk_recount.proofs.Charge.Labels.{TickLaws, levels-kept, raised-few}

pub ids-nodes : (node_of : ThreadId → ℕ) (xs : List Thread) → map (λ (x : Thread). node_of x.id) xs ≡ map node_of (map (λ (x : Thread). x.id) xs)
ids-nodes node_of [] = refl
ids-nodes node_of (x ∷ xs) = ap (λ rest. node_of x.id ∷ rest) (ids-nodes node_of xs)

module _ (laws : Laws) (tick : TickLaws) (c : Configuration) (label : Label) (past : List Entry) (d : Tables) (ready : IsReady c past d) (families : AreFamilies d.threads.levels d.threads.families) (chose : HasChosenLabel (chosen c past) label) where
  abbrev now : ℕ
  now = length past

  abbrev after : List Entry
  after = quiet label ∷ past

  abbrev node_of : ThreadId → ℕ
  node_of = node_in d.threads

  pub same-threads : threads c after ≡ threads c past
  same-threads = threads-charged c label past

  pub same-rows : AreThreads c now after d.threads
  same-rows = tick.rows c (quiet label) past d.threads ready.recount.rows

  pub same-loans : AreLoans c now after d.loans
  same-loans = ready.recount.loans ∙ sym (quiet-loans c now label past)

  -- the cells move by the law of their crate
  pub moves : TickMovesCells c label past
  moves = tick.cells c label past ready.ruled.checked ready.ruled.accepted ready.ruled.audited chose

  pub counting : CountsAt c now past d.demand
  counting = (ready.recount.cells, ready.recount.tick)

  -- the unclaimed ticks
  pub counted-is : (wl : Option ℕ) → claiming_level (threads c after) (quiet label) ≡ wl → counted wl d.slack.unclaimed ≡ unclaimed_of c now after
  counted-is wl is = grind (arith, nat_tests, same-threads)

  unclaimed-at : (j e : ℕ) → j < length d.slack.unclaimed → get_or d.slack.unclaimed j e + 1 < 2 ^ 32
  unclaimed-at j e inside = grind (arith, nat_tests, length-map-numbers, at_index, unclaimed-few)

  pub may-count : (wl : Option ℕ) → MayCount wl d.slack
  may-count wl = raised-few wl d.slack.unclaimed (λ t. t + 1 < 2 ^ 32) unclaimed-at

  -- a tick that nobody's budget pays
  -- the seats and the queues
  pub jobs-before : AreJobs node_of (has_row c now) c now past d.jobs
  jobs-before = ready.recount.jobs

  pub unpaid-jobs : payer label ≡ None → AreJobs node_of (has_row c now) c now after d.jobs
  unpaid-jobs pays =
      tick.jobs node_of (has_row c now) c now now past after d.jobs
      (record {
        rows = same-threads;
        jobs = grind (arith, nat_tests);
      })
      jobs-before

  pub wishes-kept : (wl : Option ℕ) → Says label wl None None None ⊎ ((x : ThreadId) × Says label None (Some x) None (Some x)) → claiming_level (threads c after) (quiet label) ≡ wl
      → AreWishes node_of (spares_of c) c now after (counts wl d.slack)
  wishes-kept wl says claims = record {
    nodes = ready.recount.wishes.nodes;
    switch = ready.recount.wishes.switch;
    levels = ready.recount.wishes.levels;
    wishes = λ k known. tick.wishes node_of c past label k _ (borrows says) (ready.recount.wishes.wishes k known);
    unclaimed = counted-is wl claims;
    spares = ready.recount.wishes.spares;
  }
    where
      borrows : Says label wl None None None ⊎ ((x : ThreadId) × Says label None (Some x) None (Some x)) → borrower label ≡ None
      borrows (inl s) = s.borrows
      borrows (inr s) = s.1.borrows

  pub cell-at : (f : ℕ → ℕ) (cells : List ℕ) (j : ℕ) → cells ≡ each_level c f → j < length c.levels → slice_index cells j ≡ f j
  cell-at f cells j are known = ap (λ ns. get_or ns j 0) are ∙ at_index f (length c.levels) j 0 known

  pub levels-of : length d.demand.windows.periods ≡ length c.levels
  levels-of = ap (λ w. length w.periods) ready.recount.cells.windows ∙ length-map c.levels (λ row. row.period)

  pub own-is : d.demand.own ≡ each_level c (own_demand c now past)
  own-is = ready.recount.cells.own ∙ ap (λ t. each_level c (own_demand c t past)) ready.recount.tick

  pub remaining-is : d.demand.remaining ≡ each_level c (remaining_demand c now past)
  remaining-is = ready.recount.cells.remaining ∙ ap (λ t. each_level c (remaining_demand c t past)) ready.recount.tick

  -- a level that has the tick has work, and so have all that count it
  pub has-work : (level : ℕ) → working_level (threads c past) label ≡ Some level → level < length c.levels → HasWork level d.demand
  has-work level is known = record {
    known = omega (arith, levels-of, known);
    own =
        (let law = tick.own c label past ready.ruled.checked ready.ruled.accepted ready.ruled.audited chose level in
        let self : eqb level level ≡ true = grind (arith, nat_tests) in
        let one : worked (λ i. eqb i level) (threads c past) label ≡ 1 = grind (arith, nat_tests) in
        let cell = cell-at (own_demand c now past) d.demand.own level own-is known in
        omega (arith, law, one, cell));
    remaining = λ j low high.
        (let law = tick.remaining c label past ready.ruled.checked ready.ruled.accepted ready.ruled.audited chose j in
        let on : leb level j ≡ true = grind (arith, nat_tests) in
        let one : worked (λ i. leb i j) (threads c past) label ≡ 1 = grind (arith, nat_tests) in
        let cell = cell-at (remaining_demand c now past) d.demand.remaining j remaining-is (omega (arith, levels-of, high)) in
        omega (arith, law, one, cell));
  }

  kernel-at : (k : ℕ) → k < length c.levels → kernel_left d k ≡ kernel_rem c now past k
  kernel-at k known = grind (arith, nat_tests, at_index)

  -- nobody's tick
  pub idle-charged : length past < MAX_TICKS → chosen c past ≡ Choice.Idle → Says label None None None None → IsCharged c label past (charged Choice.Idle d)
  idle-charged room is says =
      let claims : claiming_level (threads c after) (quiet label) ≡ None = grind (arith, nat_tests) in
      record {
        ruled = ready.ruled;
        chose = chose;
        room = room;
        recount = record {
          tick = ready.recount.tick;
          rows = same-rows;
          loans = same-loans;
          holders = tick.unheld c past d.mutexes (quiet label) ready.recount.holders says.has;
          own_levels = levels-kept c past after d.mutexes ready.recount.own_levels same-threads;
          cells = (moves.idle d.demand counting says.has says.kernel).0;
          wishes = wishes-kept None (inl says) claims;
          jobs = (unpaid-jobs says.pays);
          kernel = tick.parts c label past d.kernel ready.recount.kernel says.kernel;
          releases = ready.recount.releases;
          rights = ready.recount.rights;
        };
      }

  -- a tick of the kernel's own work
  pub kernel-charged : length past < MAX_TICKS → (k : ℕ) → chosen c past ≡ Choice.Kernel k → Says label (Some k) None None None → k < length c.levels → 0 < kernel_rem c now past k
      → IsCharged c label past (charged (Choice.Kernel k) d)
  kernel-charged room k is says known left =
      let claims : claiming_level (threads c after) (quiet label) ≡ Some k = grind (arith, nat_tests) in
      record {
        ruled = ready.ruled;
        chose = chose;
        room = room;
        recount = record {
          tick = ready.recount.tick;
          rows = same-rows;
          loans = same-loans;
          holders = tick.unheld c past d.mutexes (quiet label) ready.recount.holders says.has;
          own_levels = levels-kept c past after d.mutexes ready.recount.own_levels same-threads;
          cells = (moves.kernel d.demand k counting says.kernel).0;
          wishes = wishes-kept (Some k) (inl says) claims;
          jobs = (unpaid-jobs says.pays);
          kernel = tick.kernel c label past k d.kernel ready.recount.kernel says.kernel known left;
          releases = ready.recount.releases;
          rights = ready.recount.rights;
        };
      }

  pub kernel-may : (k : ℕ) → Says label (Some k) None None None → k < length c.levels → 0 < kernel_rem c now past k → MayKernel k d
  kernel-may k says known left =
      let works : working_level (threads c past) label ≡ Some k = grind (arith, nat_tests) in
      let part = kernel-at k known in
      record { work = has-work k works known; left = omega (arith, part, left); count = may-count (Some k) }
