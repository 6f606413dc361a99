-- The tables in which a main has made a child are the recount of the past with its create.
use Rattle.dk_recount.proofs.Names.{◌≡◌, ◌<◌, ◌+◌, ◌*◌, ◌-◌, ◌∙◌, ◌⊎◌, inl, inr, ◌&&◌, Bool, true, false, eqb, ℕ, zero, suc, List, [], ◌∷◌, ◌++◌, length, map, take, Option, Some, None, option_map, refl, ap, sym, subst, arith, nat_lt, slice_get, filter, if◌then◌else◌, MatchOption, option_map_or, cases_Bool, and_parts, eqb-true, ltb-true, and-false, find-append, get_or-set_same, MAX_THREADS, Configuration, below, IsChecked, IsAccepted, period, window_end, ThreadId, Label, Event, Entry, is_same, is_of, stops, main_of, payer, thread_of, window, quiet, Has, Thread, threads, family, after_entry, new_rows, job, thread_rem, rem, is_closed, Request, request, want, level_of, last_request, no_request, Hold, held_by, is_holding, Audited, Follows, ThreadFollows, same-id, same-self, filter-has, contains-has, has-contains, has-filter, find-nothing, old-there, new-from, find-grown, map-alike, map-rests, label-payer, quiet-holds, family-charged, family-among, Always, ThreadsPlaced, AskersThere, HoldersKnown, ChosenHolds, AtEachEntry, AtEachTick, EventCloses, EventLowersRem, NewHaveNothing, closes, EventKeepsReady, AbsentHaveNothing, FamiliesStand, RowsAreNamed, TickSpends, TickLowersRem, threads-charged, row-same, request-kept, serial-low, payer-low, no-request, clock_at, end_at, ThreadRow, Family, Table, AreFamilies, rows_of, find_row, serials_at, free_slot, has_room, new_row, next_id, stands, changed_family, has_row, main_id, AreThreads, CreateAddsRow, FreesSlots, HasRow, row-there, changed-here, changed-there, begun-found, some-family, counted_lender, recount, lent_to, new_loan, changed_lender, CreateAddsLoan, QuietKeepsLoans, changed-lenders, quiet-lender, Holder, Lockable, left_at, HasLevels, hold_at, counted_left, AreHolders, EventEndsHolds, EventMovesCells, AreCells, Wish, wishes_at, spares_of, counted_wish, asking, AreCounted, AreOldestFirst, unclaimed_of, AreWishes, queue_at, seat_at, vacant, new_job, sat_down, Tables, IsSound, node_in, seat_of, is_ready, ready_nodes, IsCharged, IsBooked, IsRecount, free_node, new_seat, with_child, TickCountsUnclaimed, EventKeepsParts, set-other, nat_tests}
use Rattle.std.proofs.Common.{not}
use Rattle.dk_trace.specs.Holds.{hold_left}
use Rattle.dk_bound.specs.Moves.{released}
use Rattle.dk_threads.specs.Table.{begun}
use Rattle.dk_threads.specs.Recount.{entry_of}
use Rattle.dk_recount.proofs.Stop.Present.{asker-row, worker-row}
use Rattle.dk_recount.proofs.Charge.Recount.{ids-nodes}
use Rattle.dk_recount.proofs.Create.Node.{below-nodes}
use Rattle.dk_recount.proofs.Create.Node.{apart as no-node}
use Rattle.dk_recount.proofs.Charge.Unclaimed.{unclaimed-kept}

-- the laws of the crates below that a create needs
pub record Laws : Type 0 where
  pub families : Always FamiliesStand
  pub named : Always RowsAreNamed
  pub places : Always ThreadsPlaced
  pub works : Always ChosenHolds
  pub askers : Always AskersThere
  pub known : Always HoldersKnown
  pub absent : Always AbsentHaveNothing
  pub spends : AtEachTick TickSpends
  pub lowers : AtEachTick TickLowersRem
  pub job : AtEachEntry EventCloses
  pub rem : AtEachEntry EventLowersRem
  pub new : AtEachEntry NewHaveNothing
  pub cells : AtEachEntry EventMovesCells
  pub ready : AtEachEntry EventKeepsReady
  pub begins : CreateAddsRow
  pub lends : CreateAddsLoan
  pub loans_quiet : QuietKeepsLoans
  pub holds : EventEndsHolds
  pub free : FreesSlots
  pub unclaimed : TickCountsUnclaimed
  pub parts : EventKeepsParts
  pub ends : (c : Configuration) (tick level : ℕ) → end_at (clock_at c tick) level ≡ window_end c level tick

hold-among : (m : ℕ) (held : List Hold) (h : Hold) → hold_at m held ≡ Some h → is_holding held ≡ true
hold-among m held h is = grind (arith, nat_tests)

module _ (laws : Laws) (c : Configuration) (label : Label) (past : List Entry) (d : Tables) (p serial level quota : ℕ)
    (sound : IsSound d) (are : AreFamilies d.threads.levels d.threads.families)
    (charged : IsCharged c label past d) (follows : Follows c past (entry_of label (Event.Create serial level quota)))
    (own : thread_of label ≡ Some (main_id p)) (known : p < length c.processes) (fits : level < length c.levels)
    (room : has_room d.threads p ≡ true) (standing : stands d.threads p ≡ true) where
  abbrev now : ℕ
  now = length past

  abbrev e : Entry
  e = entry_of label (Event.Create serial level quota)

  abbrev before : List Entry
  before = quiet label ∷ past

  abbrev table' : Table
  table' = changed_family (begun p level (end_at d.demand.windows level)) p d.threads

  abbrev node : ThreadId → ℕ
  node = node_in d.threads

  abbrev node' : ThreadId → ℕ
  node' = node_in table'

  abbrev child : Thread
  child = record { id = record { process = p; serial = serial }; level = level; quota = quota; start = window_end c level (length past); stop = None }

  rec : IsRecount c now before d
  rec = charged.recount

  checked : IsChecked c
  checked = charged.ruled.checked

  accepted : IsAccepted c
  accepted = charged.ruled.accepted

  audited : Audited c past
  audited = charged.ruled.audited

  audited-on : Audited c (e ∷ past)
  audited-on = (audited, follows)

  met : ThreadFollows c past e (main_id p)
  met = subst (λ o. MatchOption o (Unit {0}) (ThreadFollows c past e)) own follows.thread

  serial-is : serial ≡ length (family c p past)
  serial-is = met.met.0

  serial-table : serial ≡ serials_at d.threads p + 1
  serial-table = serial-is ∙ sym (ap length (family-charged c p label past)) ∙ sym (rec.rows.serials p known)

  stays : (y : ThreadId) → stops y e ≡ false
  stays y = rw (and-false (is_of y e), and-false (is_of (main_of y) e)) (and-false (not (eqb y.serial 0)))

  same-after : (y : Thread) → after_entry e now y ≡ y
  same-after y = row-same e now y (stays y.id)

  closes-off : (y : Thread) → closes e y ≡ false
  closes-off y = grind (arith, nat_tests, stays, and-false)

  whose : (q : ℕ) → is_of (main_id q) e ≡ is_same (main_id q) (main_id p)
  whose q = ap (λ o. option_map_or (is_same (main_id q)) o false) own

  mine : is_of (main_id p) e ≡ true
  mine = whose p ∙ same-self (main_id p)

  -- the threads
  grown : (q : ℕ) → family c q (e ∷ past) ≡ family c q past ++ new_rows c q e past
  grown q = ap (λ xs. xs ++ new_rows c q e past) (map-rests (after_entry e now) (family c q past) (λ y h. same-after y))

  more-child : (q : ℕ) (y : Thread) → Has (new_rows c q e past) y → y ≡ child
  more-child q y h = go (is_of (main_id q) e) refl h
    where
      go : (b : Bool) → is_of (main_id q) e ≡ b
          → Has (if b then record { id = record { process = q; serial = serial }; level = level; quota = quota; start = window_end c level (length past); stop = None } ∷ [] else []) y → y ≡ child
      go false off h' = absurd h'
      go true on (inr none') = absurd none'
      go true on (inl is) =
          let here : q ≡ p = ap (λ (i : ThreadId). i.process) (same-id (main_id q) (main_id p) (sym (whose q) ∙ on)) in
          sym is ∙ ap (λ k. record { id = record { process = k; serial = serial }; level = level; quota = quota; start = window_end c level (length past); stop = None }) here

  child-there : Has (new_rows c p e past) child
  child-there = rw mine (inl refl)

  has-old : (y : Thread) → Has (threads c past) y → Has (threads c (e ∷ past)) y
  has-old y h = old-there (λ q. family c q past) (λ q. family c q (e ∷ past)) (λ q. new_rows c q e past) grown (below (length c.processes)) y h

  from : (y : Thread) → Has (threads c (e ∷ past)) y → Has (threads c past) y ⊎ (y ≡ child)
  from y h =
      elim (new-from (λ q. family c q past) (λ q. family c q (e ∷ past)) (λ q. new_rows c q e past) grown (below (length c.processes)) y h) [
        | inl old ↦ inl old
        | inr new ↦ inr (more-child new.0 y new.1)
      ]

  has-before : (y : Thread) → Has (threads c past) y → Has (threads c before) y
  has-before y h = subst (λ xs. Has xs y) (sym (threads-charged c label past)) h

  of-before : (y : Thread) → Has (threads c before) y → Has (threads c past) y
  of-before y h = subst (λ xs. Has xs y) (threads-charged c label past) h

  -- the child isn't among those of the past
  not-old : (y : Thread) → Has (threads c past) y → y.id ≡ child.id → ⊥
  not-old y h name =
      let place = (laws.named c past checked accepted audited).place y h in
      let low = serial-low c checked accepted laws.families laws.named past y.id.process y audited place.0 place.1 in
      let low' : serial < length (family c p past) = subst (λ (i : ThreadId). i.serial < length (family c i.process past)) name low in
      let is = serial-is in
      omega (arith, low', is)

  -- the rows
  windows : d.demand.windows ≡ clock_at c now
  windows = rec.cells.windows ∙ ap (clock_at c) rec.tick

  start-is : end_at d.demand.windows level ≡ window_end c level now
  start-is = ap (λ w. end_at w level) windows ∙ laws.ends c now level

  rows-new : AreThreads c now (e ∷ past) table'
  rows-new = grind (arith, nat_tests, start-is, checked, serial-table, rec, laws.begins c label past d.threads p serial level quota checked known fits own serial-table rec.rows)

  has-row : (y : Thread) → Has (threads c past) y → has_row c now y ≡ true → HasRow d.threads y.id
  has-row y h there =
      let place = (laws.named c past checked accepted audited).place y h in
      row-there c now before d.threads y rec.rows place.0 (subst (λ xs. Has xs y) (sym (family-charged c y.id.process label past)) place.1) there

  fam : (f : Family) × (slice_get d.threads.families p ≡ Some f)
  fam = some-family d.threads p standing

  next-row : ThreadRow
  next-row = new_row (record { process = p; serial = fam.0.serials + 1 }) level (free_slot fam.0.children) (end_at d.demand.windows level)

  rows-p : rows_of d.threads p ≡ fam.0.main ∷ fam.0.children
  rows-p = ap (λ o. option_map_or (λ (z : Family). z.main ∷ z.children) o []) fam.1

  rows-p' : rows_of table' p ≡ (fam.0.main ∷ fam.0.children) ++ next-row ∷ []
  unfolding next-row
  rows-p' = ap (λ o. option_map_or (λ (z : Family). z.main ∷ z.children) o []) (changed-here (begun p level (end_at d.demand.windows level)) p d.threads fam.0 fam.1)

  found-kept : (y : ThreadId) (h : HasRow d.threads y) → find_row table' y ≡ Some h.row
  found-kept y h = grind (arith, nat_tests, eqb-true, fam, rows-p, rows-p', find-append, next-row, changed-there, windows)

  kept : (y : ThreadId) → HasRow d.threads y → node' y ≡ node y
  kept y h = ap (λ o. MAX_THREADS * y.process + option_map_or (λ (r : ThreadRow). r.slot) o 0) (found-kept y h ∙ sym h.found)

  child-id : child.id ≡ next_id d.threads p
  child-id = ap (λ s. record { process = p; serial = s }) serial-table

  node-child : node' child.id ≡ free_node d.threads p
  node-child = grind (arith, nat_tests, child-id, begun-found, windows)

  apart : (y : ThreadId) → HasRow d.threads y → eqb (free_node d.threads p) (node y) ≡ false
  apart = no-node laws.free d.threads p are room standing

  inside : free_node d.threads p < length d.jobs.seats
  inside = grind (arith, nat_tests, below-nodes)

  -- the jobs
  moved : EventCloses c e past
  moved = laws.job c e past checked accepted audited-on

  job-same : (y : Thread) → Has (threads c past) y → job c now (e ∷ past) y ≡ job c now before y
  job-same y h = grind (arith, nat_tests, same-after, moved, closes-off)

  child-job : job c now (e ∷ past) child ≡ released 0
  child-job = laws.new c e past checked accepted audited-on p child known child-there

  positive : (y : Thread) → Has (threads c past) y → 0 < period c y.level
  positive y h = checked.positive y.level (laws.places c past checked accepted audited y h).level

  worker : (y : Thread) → Has (threads c past) y → 0 < thread_rem c now before y → has_row c now y ≡ true
  worker y h some = grind (arith, nat_tests, same-after, job-same, worker-row, checked, accepted, audited, audited-on, positive, laws.lowers c label past checked accepted audited charged.chose, laws.rem c e past checked accepted audited-on, laws.absent c past checked accepted audited)

  asker : (y : Thread) → Has (threads c past) y → nat_lt 0 (want c now before y) ≡ true → has_row c now y ≡ true
  asker y h some = asker-row c label past (laws.spends c label past checked accepted audited charged.chose) (laws.askers c past checked accepted audited) y h some

  seats-new : (y : Thread) → Has (threads c (e ∷ past)) y → has_row c now y ≡ true
      → seat_at (sat_down (free_node d.threads p) (new_seat d.threads p level) d.jobs) (node' y.id) ≡ seat_of c now (e ∷ past) y
  seats-new y h there = go (from y h)
    where
      go : Has (threads c past) y ⊎ (y ≡ child) → seat_at (sat_down (free_node d.threads p) (new_seat d.threads p level) d.jobs) (node' y.id) ≡ seat_of c now (e ∷ past) y
      go (inl old) =
          let r = has-row y old there in
          ap (seat_at (sat_down (free_node d.threads p) (new_seat d.threads p level) d.jobs)) (kept y.id r)
          ∙ set-other d.jobs.seats (free_node d.threads p) (node y.id) (new_seat d.threads p level) vacant (apart y.id r)
          ∙ rec.jobs.seats y (has-before y old) there
          ∙ ap (λ j. record { thread = y.id; level = y.level; job = j }) (sym (job-same y old))
      go (inr is) =
          subst (λ (z : Thread). seat_at (sat_down (free_node d.threads p) (new_seat d.threads p level) d.jobs) (node' z.id) ≡ seat_of c now (e ∷ past) z) (sym is)
          (ap (seat_at (sat_down (free_node d.threads p) (new_seat d.threads p level) d.jobs)) node-child
          ∙ get_or-set_same d.jobs.seats (free_node d.threads p) (new_seat d.threads p level) vacant inside
          ∙ ap (λ i. record { thread = i; level = level; job = new_job 0 }) (sym child-id)
          ∙ ap (λ j. record { thread = child.id; level = level; job = j }) (sym child-job))

  ready-new : (k : ℕ) → k < length c.levels → queue_at d.jobs.ready.lists k ≡ ready_nodes node' c now (e ∷ past) k
  ready-new k in-levels =
      rec.jobs.ready k in-levels
      ∙ map-alike (λ (x : Thread). node x.id) (λ (x : Thread). node' x.id) (filter (is_ready c now before k) (threads c before)) one
      ∙ ids-nodes node' (filter (is_ready c now before k) (threads c before))
      ∙ ap (map node') (sym (laws.ready c e past checked accepted audited-on k (λ x h. closes-off x)))
      ∙ sym (ids-nodes node' (filter (is_ready c now (e ∷ past) k) (threads c (e ∷ past))))
    where
      one : (x : Thread) → Has (filter (is_ready c now before k) (threads c before)) x → node x.id ≡ node' x.id
      one x h =
          let r = filter-has (is_ready c now before k) (threads c before) x h in
          let parts = and_parts (eqb x.level k) (nat_lt 0 (thread_rem c now before x)) r.1 in
          let old = of-before x r.0 in
          sym (kept x.id (has-row x old (worker x old (ltb-true 0 (thread_rem c now before x) parts.1))))

  cells-new : AreCells c (e ∷ past) d.demand
  cells-new = ((laws.cells c e past checked accepted audited-on).keeps d.demand (rec.cells, rec.tick) refl refl).0

  -- the holders
  holders-new : AreHolders c (e ∷ past) d.mutexes
  holders-new = grind (arith, nat_tests, rec, stays)

  not-holder : (m : ℕ) (r : Lockable) (h : Holder) → slice_get d.mutexes m ≡ Some r → r.holder ≡ Some h → h.thread ≡ child.id → ⊥
  not-holder m r h at held same =
      let x = h.thread in
      let left : left_at x d.mutexes m ≡ Some h.left = grind (arith, nat_tests, same-self) in
      go (hold_at m (held_by x before)) refl (sym (rec.holders.holds x m) ∙ left)
    where
      go : (o : Option Hold) → hold_at m (held_by h.thread before) ≡ o → counted_left c before h.thread m ≡ Some h.left → ⊥
      go None none' is = let no' : None ≡ Some h.left = sym (ap (option_map (hold_left c)) none') ∙ is in absurd (cc)
      go (Some k) some is =
          let holding = sym (quiet-holds h.thread label past) ∙ hold-among m (held_by h.thread before) k some in
          let w = laws.known c past checked accepted audited h.thread holding in
          not-old w.thread w.among (w.name ∙ same)

  levels-new : HasLevels c (e ∷ past) d.mutexes
  levels-new m r h y at held among same =
      elim (from y among) [
        | inl old ↦ rec.own_levels m r h y at held (has-before y old) same
        | inr is ↦ absurd (not-holder m r h at held (sym (same-id y.id h.thread same) ∙ ap (λ (z : Thread). z.id) is))
      ]

  -- the wishes
  request-same : (x : Thread) → Has (threads c past) x → request c now (e ∷ past) x ≡ request c now before x
  request-same x h = subst (λ z. request c now (e ∷ past) z ≡ request c now before x) (same-after x) (request-kept c e past moved refl x h (closes-off x))

  want-same : (x : Thread) → Has (threads c past) x → want c now (e ∷ past) x ≡ want c now before x
  want-same x h = ap (λ (r : Request). r.amount - r.spent) (request-same x h)

  none-asked : (b : Bool) (n : ℕ) → (last_request child.id (take n past)).amount ≡ 0
  none-asked b n = let is = serial-is in no-request c checked accepted laws.families laws.named past n child.id audited known (omega (arith, is))

  asked-nothing : (n : ℕ) → (last_request child.id (take n (e ∷ past))).amount ≡ 0
  asked-nothing zero = refl
  asked-nothing (suc n) = grind (arith, nat_tests, none-asked)

  child-wants : want c now (e ∷ past) child ≡ 0
  child-wants = go (is_closed c now (e ∷ past) child) (last_request child.id (window c now (e ∷ past) level)) (asked-nothing _)
    where
      go : (b : Bool) (r : Request) → r.amount ≡ 0 → (let q = (if b then no_request else r) in q.amount - q.spent) ≡ 0
      go true r is = refl
      go false r is = omega (arith, is)

  wish-same : (x : Thread) → Has (threads c past) x → nat_lt 0 (want c now before x) ≡ true → counted_wish node c now before x ≡ counted_wish node' c now (e ∷ past) x
  wish-same x h some =
      ap (λ n. record { node = n; amount = want c now before x; entering = (counted_wish node c now before x).entering }) (sym (kept x.id (has-row x h (asker x h some))))
      ∙ ap (λ (r : Request). record { node = node' x.id; amount = r.amount - r.spent; entering = 2 * c.costs.switch - r.spent }) (sym (request-same x h))

  asks-in : (k : ℕ) (x : Thread) → Has (asking c now before k) x → Has (threads c past) x × ((eqb x.level k ≡ true) × (nat_lt 0 (want c now before x) ≡ true))
  asks-in k x h = grind (arith, nat_tests, filter-has, of-before, and_parts)

  asks-on : (k : ℕ) (x : Thread) → Has (asking c now before k) x → Has (asking c now (e ∷ past) k) x
  asks-on k x h = grind (arith, nat_tests, asks-in, want-same, has-filter, has-old)

  asked-before : (k : ℕ) (x : Thread) → Has (asking c now (e ∷ past) k) x → Has (asking c now before k) x
  asked-before k x h =
      let r = filter-has (λ y. eqb y.level k && nat_lt 0 (want c now (e ∷ past) y)) (threads c (e ∷ past)) x h in
      let parts = and_parts (eqb x.level k) (nat_lt 0 (want c now (e ∷ past) x)) r.1 in
      elim (from x r.0) [
        | inl old ↦ grind (arith, nat_tests, want-same, has-filter, has-before)
        | inr is ↦ grind (arith, nat_tests, child-wants)
      ]

  order-same : (xs : List Thread) → ((x : Thread) → Has xs x → Has (threads c past) x) → AreOldestFirst c now before xs → AreOldestFirst c now (e ∷ past) xs
  order-same [] there order = tt
  order-same (x ∷ xs) there order = (
    (λ y h.
        let first = order.0 y h in
        let a = ap (λ (r : Request). r.age) (request-same x (there x (inl refl))) in
        let b = ap (λ (r : Request). r.age) (request-same y (there y (inr (contains-has xs y h)))) in
        omega (arith, first, a, b)),
    order-same xs (λ y h. there y (inr h)) order.1,
  )

  wishes-same : (k : ℕ) (ws : List Wish) → AreCounted node c now before k ws → AreCounted node' c now (e ∷ past) k ws
  wishes-same k ws counted =
      let xs = counted.0 in
      let known-in : (x : Thread) → Has xs x → Has (asking c now before k) x = λ x h. contains-has (asking c now before k) x ((counted.1 x).0 (has-contains xs x h)) in (
        xs,
        (λ x. (
          (λ h. has-contains (asking c now (e ∷ past) k) x (asks-on k x (contains-has (asking c now before k) x ((counted.1 x).0 h)))),
          (λ h. (counted.1 x).1 (has-contains (asking c now before k) x (asked-before k x (contains-has (asking c now (e ∷ past) k) x h)))),
        )),
        order-same xs (λ x h. (asks-in k x (known-in x h)).0) counted.2,
        counted.3 ∙ map-alike (counted_wish node c now before) (counted_wish node' c now (e ∷ past)) xs
            (λ x h. let r = asks-in k x (known-in x h) in wish-same x r.0 r.1.1),
      )

  -- the ticks that nobody claimed
  not-payer : (t : Entry) (x : ThreadId) → Has (e ∷ past) t → payer t.label ≡ Some x → is_same x child.id ≡ false
  not-payer t x h pays =
      elim (cases_Bool (is_same x child.id)) [
        | inr off ↦ off
        | inl on ↦
            let name = same-id x child.id on in
            let is = serial-is in
            elim h [
              | inl here ↦
                  let main : Some x ≡ Some (main_id p) = sym (label-payer label x (ap (λ (z : Entry). payer z.label) here ∙ pays)) ∙ own in
                  let main' : x ≡ main_id p = cc in
                  let a : serial ≡ 0 = ap (λ (i : ThreadId). i.serial) (sym name ∙ main') in
                  let b = serial-table in
                  absurd (omega (arith, a, b))
              | inr old ↦
                  let low = payer-low c checked accepted laws.families laws.named laws.works past t x audited old pays in
                  let low' : serial < length (family c p past) = subst (λ (i : ThreadId). i.serial < length (family c i.process past)) name low in
                  absurd (omega (arith, low', is))
            ]
      ]

  level-same : (x : ThreadId) → is_same x child.id ≡ false → level_of (threads c (e ∷ past)) x ≡ level_of (threads c past) x
  level-same x off =
      ap (λ o. option_map_or (λ (y : Thread). Some y.level) o None)
      (find-grown (λ q. family c q past) (λ q. family c q (e ∷ past)) (λ q. new_rows c q e past) grown (λ y. is_same x y.id) (below (length c.processes))
      (λ q. find-nothing (λ y. is_same x y.id) (new_rows c q e past) (λ y h. ap (λ (z : Thread). is_same x z.id) (more-child q y h) ∙ off)))

  unclaimed-same : unclaimed_of c now (e ∷ past) ≡ unclaimed_of c now before
  unclaimed-same = unclaimed-kept laws.unclaimed c e past (λ t x h pays. level-same x (not-payer t x h pays))

  wishes-new : AreWishes node' (spares_of c) c now (e ∷ past) d.slack
  wishes-new = record {
    nodes = rec.wishes.nodes;
    switch = rec.wishes.switch;
    levels = rec.wishes.levels;
    wishes = λ k in-levels. wishes-same k (wishes_at d.slack.wishes k) (rec.wishes.wishes k in-levels);
    unclaimed = rec.wishes.unclaimed ∙ sym unclaimed-same;
    spares = rec.wishes.spares;
  }

  -- the loans
  level-known : (q : ℕ) → q < length c.processes → (y : Thread) → Has (family c q past) y → y.level < length c.levels
  level-known q there y h = (laws.places c past checked accepted audited y (family-among c q past y there h)).level

  loans-own : counted_lender c now (e ∷ past) p ≡ lent_to (new_loan (clock_at c now) serial level quota) (counted_lender c now past p)
  loans-own = laws.lends c past e p serial level quota (record {
    own = mine;
    event = refl;
    child = (let is = serial-table in omega (arith, is));
    stays = λ y h. stays y.id;
  })

  loans-others : (q : ℕ) → q < length c.processes → eqb q p ≡ false → counted_lender c now (e ∷ past) q ≡ counted_lender c now before q
  loans-others q there off = grind (arith, nat_tests, checked, level-known, whose, stays, quiet-lender)

  loans-new : changed_lender p (lent_to (new_loan d.demand.windows (serials_at d.threads p + 1) level quota)) d.loans ≡ recount c now (e ∷ past)
  loans-new =
      ap (λ b. changed_lender p (lent_to (new_loan d.demand.windows (serials_at d.threads p + 1) level quota)) b) rec.loans
      ∙ ap (λ w. changed_lender p (lent_to (new_loan w (serials_at d.threads p + 1) level quota)) (recount c now before)) windows
      ∙ ap (λ s. changed_lender p (lent_to (new_loan (clock_at c now) s level quota)) (recount c now before)) (sym serial-table)
      ∙ changed-lenders c now p before (e ∷ past) (lent_to (new_loan (clock_at c now) serial level quota)) known
      (loans-own ∙ ap (lent_to (new_loan (clock_at c now) serial level quota)) (sym (quiet-lender c now p label past)))
      loans-others

  -- all tables
  pub created-recount : IsRecount c now (e ∷ past) (with_child p level quota d)
  created-recount = record {
    tick = rec.tick;
    rows = rows-new;
    loans = loans-new;
    holders = holders-new;
    own_levels = levels-new;
    cells = cells-new;
    wishes = wishes-new;
    jobs = record {
      switch = rec.jobs.switch;
      seats = seats-new;
      ready = ready-new;
    };
    kernel = laws.parts c e past d.kernel rec.kernel;
    releases = rec.releases;
    rights = rec.rights;
  }

  pub created-booked : IsBooked c e past (with_child p level quota d)
  created-booked = record {
    ruled = charged.ruled;
    chose = charged.chose;
    recount = created-recount;
  }
