-- The tables once an event is booked.
use Rattle.dk_recount.proofs.Names.{◌≡◌, ◌<◌, ◌∙◌, true, ℕ, List, ◌∷◌, length, map, Option, Some, None, refl, sym, subst, list_any, Configuration, below, ThreadId, Label, Event, Entry, Has, does, is_wait, quiet, Thread, threads, family, held_by, blocking, own_demand, remaining_demand, last_request, queue_at, has_row, recount, Lockable, HasLevels, AreHolders, Cells, AreCells, Wish, wishes_at, AreCounted, Roster, seat_at, Tables, node_in, IsCharged, IsBooked, seat_of, ready_nodes, IsUntold, entry_of, jobs-keep, map-same, AreJobs, nat_tests, arith}
use Rattle.dk_recount.proofs.Call.Unchanged.{rows-as, holders-as, own-as, remaining-as, blocking-as, unclaimed-as, parts-as, counted-as, job-as}

module _ (c : Configuration) (label : Label) (event : Option Event) (past : List Entry)
    (fam : (p : ℕ) → family c p (entry_of label event ∷ past) ≡ family c p (quiet label ∷ past))
    (same : threads c (entry_of label event ∷ past) ≡ threads c (quiet label ∷ past))
    (loans : recount c (length past) (entry_of label event ∷ past) ≡ recount c (length past) (quiet label ∷ past))
    (d : Tables) (charged : IsCharged c label past d) where
  abbrev now : ℕ
  now = length past

  abbrev new : List Entry
  new = entry_of label event ∷ past

  abbrev old : List Entry
  old = quiet label ∷ past

  abbrev node_of : ThreadId → ℕ
  node_of = node_in d.threads

  -- the tables with other holders, cells, wishes and jobs, and the event booked
  abbrev with_parts : List Lockable → Cells → List (List Wish) → Roster → Tables
  with_parts rows cells wishes jobs = record d { mutexes = rows; demand = cells; slack = record d.slack { wishes = wishes }; jobs = jobs }

  pub books : (rows : List Lockable) (cells : Cells) (wishes : List (List Wish)) (jobs : Roster)
      → cells.windows.tick ≡ now → AreHolders c new rows → HasLevels c new rows → AreCells c new cells
      → length wishes ≡ length c.levels → ((k : ℕ) → k < length c.levels → AreCounted node_of c now new k (wishes_at wishes k))
      → jobs.switch ≡ c.costs.switch
      → ((y : Thread) → Has (threads c new) y → has_row c now y ≡ true → seat_at jobs (node_of y.id) ≡ seat_of c now new y)
      → ((k : ℕ) → k < length c.levels → queue_at jobs.ready.lists k ≡ ready_nodes node_of c now new k)
      → IsBooked c (entry_of label event) past (with_parts rows cells wishes jobs)
  books rows cells wishes jobs tick holders levels counted many wished switch seats ready = grind (arith, nat_tests, rows-as, unclaimed-as, parts-as)

  pub levels-as : (rows : List Lockable) → HasLevels c old rows → HasLevels c new rows
  levels-as rows levels = λ m row h y at held among is. levels m row h y at held (subst (λ ys. Has ys y) same among) is

  module _ (stays : (y : Thread) (es : List Entry) → list_any (does is_wait y.id) (entry_of label event ∷ es) ≡ list_any (does is_wait y.id) (quiet label ∷ es)) where
    jobs-as : AreJobs node_of (has_row c now) c now new d.jobs
    jobs-as =
        let r = charged.recount in
        jobs-keep node_of (has_row c now) c now now old new d.jobs (record { rows = same; jobs = λ y h. job-as c label event past fam same now y (stays y) })
        r.jobs

    pub seats-as : (y : Thread) → Has (threads c new) y → has_row c now y ≡ true → seat_at d.jobs (node_of y.id) ≡ seat_of c now new y
    seats-as = jobs-as.seats

    pub queues-as : (k : ℕ) → k < length c.levels → queue_at d.jobs.ready.lists k ≡ ready_nodes node_of c now new k
    queues-as = jobs-as.ready

    -- the cells with another blocking
    pub cells-as : (blocks : List ℕ) → blocks ≡ map (blocking c new) (below (length c.levels)) → AreCells c new (record d.demand { blocking = blocks })
    cells-as blocks is =
        let r = charged.recount.cells in
        let t = d.demand.windows.tick in
        record {
          windows = r.windows;
          own = r.own ∙ map-same (own_demand c t old) (own_demand c t new) 0 (length c.levels) (λ j h. sym (own-as c label event past fam same t j stays));
          remaining = r.remaining ∙ map-same (remaining_demand c t old) (remaining_demand c t new) 0 (length c.levels) (λ j h. sym (remaining-as c label event past fam same t j stays));
          blocking = is;
        }

    pub blocks-as : ((x : ThreadId) → held_by x new ≡ held_by x old) → d.demand.blocking ≡ map (blocking c new) (below (length c.levels))
    blocks-as held = grind (arith, nat_tests, map-same, blocking-as)

    module _ (nothing : (y : Thread) (es : List Entry) → last_request y.id (entry_of label event ∷ es) ≡ last_request y.id (quiet label ∷ es)) where
      pub wishes-as : (k : ℕ) → k < length c.levels → AreCounted node_of c now new k (wishes_at d.slack.wishes k)
      wishes-as k known = grind (arith, nat_tests, counted-as)

      -- nothing at all changes
      pub stands : ((x : ThreadId) → held_by x new ≡ held_by x old) → IsBooked c (entry_of label event) past d
      stands held =
          books d.mutexes d.demand d.slack.wishes d.jobs
          charged.recount.tick
          (holders-as c label event past fam same d.mutexes held charged.recount.holders)
          (levels-as d.mutexes charged.recount.own_levels)
          (cells-as d.demand.blocking (blocks-as held))
          charged.recount.wishes.levels
          wishes-as
          charged.recount.jobs.switch
          seats-as
          queues-as

pub untold-booked : (c : Configuration) (label : Label) (past : List Entry) (event : Option Event) (d : Tables) → IsUntold event → IsCharged c label past d
    → IsBooked c (entry_of label event) past d
untold-booked c label past None d untold charged = grind (arith, nat_tests, stands)
untold-booked c label past (Some (Event.Put value)) d untold charged =
    stands c label (Some (Event.Put value)) past (λ p. refl) refl refl d charged (λ y es. refl) (λ y es. refl) (λ x. refl)
untold-booked c label past (Some (Event.Refused refusal)) d untold charged =
    stands c label (Some (Event.Refused refusal)) past (λ p. refl) refl refl d charged (λ y es. refl) (λ y es. refl) (λ x. refl)
untold-booked c label past (Some event) d untold charged = absurd (search untold)
