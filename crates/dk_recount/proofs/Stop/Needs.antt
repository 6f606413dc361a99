-- What the tables of a charged tick owe the stop of a child.
use Rattle.dk_recount.proofs.Names.{◌≡◌, ◌<◌, ◌≤◌, ◌+◌, ◌*◌, ◌∙◌, true, ltb, leb, ℕ, List, ◌∷◌, length, Some, ap, sym, subst, arith, slice_index, IsSome, option_map_or, nat_tests, MAX_THREADS, Configuration, IsChecked, IsAccepted, ThreadId, Label, Entry, Has, Thread, threads, job, thread_rem, held_by, greatest_left, thread_blocking, blocking, own_demand, remaining_demand, Audited, ThreadRow, AreFamilies, find_row, runs, is_child, has_row, HasRow, row-there, row-slot, rows-family, RowOf, left_up_to, threads-charged, holder, left_on, dropped_on, Tables, IsSound, node_in, IsCharged, IsRecount, node_on, MayShut, MayStopChild, Laws, eq-eqb, slice_get_within, rem, sum_by-term, family-charged, family-among, quiet, at_index, Seat}
use Rattle.dk_recount.proofs.Stop.Child.{mutexes-there}

leb-on : (a b j : ℕ) → a ≡ b → b ≤ j → leb a j ≡ true
leb-on a b j same low = grind (arith, nat_tests)

ltb-on : (j a b : ℕ) → a ≡ b → j < b → ltb j a ≡ true
ltb-on j a b same low = grind (arith, nat_tests)

module _ (laws : Laws) (c : Configuration) (label : Label) (past : List Entry) (d : Tables) (row : ThreadRow)
    (sound : IsSound d) (are : AreFamilies d.threads.levels d.threads.families) (charged : IsCharged c label past d)
    (found : find_row d.threads row.id ≡ Some row) (x : Thread) (of : RowOf c past row x) where
  abbrev now : ℕ
  now = length past

  abbrev before : List Entry
  before = quiet label ∷ past

  abbrev node : ThreadId → ℕ
  node = node_in d.threads

  rec : IsRecount c now before d
  rec = charged.recount

  checked : IsChecked c
  checked = charged.ruled.checked

  accepted : IsAccepted c
  accepted = charged.ruled.accepted

  audited : Audited c past
  audited = charged.ruled.audited

  among : Has (threads c past) x
  among = family-among c x.id.process past x of.process of.family

  here : Has (threads c before) x
  here = subst (λ xs. Has xs x) (sym (threads-charged c label past)) among

  known : x.level < length c.levels
  known = (laws.places c past checked accepted audited x among).level

  pub node-row : node x.id ≡ node_on row
  node-row = grind (arith, nat_tests)

  pub row-known : (y : Thread) → Has (threads c past) y → has_row c now y ≡ true → HasRow d.threads y.id
  row-known y h there =
      let place = (laws.named c past checked accepted audited).place y h in
      row-there c now before d.threads y rec.rows place.0 (subst (λ xs. Has xs y) (sym (family-charged c y.id.process label past)) place.1) there

  pub node-known : node x.id < length d.jobs.seats
  node-known =
      let r = row-known x among of.there in
      let low = row-slot d.threads x.id.process r.row are r.among in
      let f = rows-family d.threads x.id.process r.row r.among in
      let within = slice_get_within d.threads.families x.id.process f.0 f.1 in
      let nodes = sound.nodes in
      let slot : node x.id ≡ MAX_THREADS * x.id.process + r.row.slot = ap (λ o. MAX_THREADS * x.id.process + option_map_or (λ (z : ThreadRow). z.slot) o 0) r.found in
      omega (arith, low, within, nodes, slot)

  left-here : left_on d.jobs (node x.id) ≡ thread_rem c now before x
  left-here = ap (λ (s : Seat). rem d.jobs.switch s.job) (rec.jobs.seats x here of.there) ∙ ap (λ w. rem w (job c now before x)) rec.jobs.switch

  dropped-low : dropped_on (node_on row) d.jobs ≤ thread_rem c now before x
  dropped-low = grind (arith, nat_tests, node-row, left-here)

  in-queue : 0 < left_on d.jobs (node x.id) → IsSome (holder d.jobs.ready.lists (node x.id))
  in-queue left =
      laws.queued node (has_row c now) c now before d.jobs x (record { switch = rec.jobs.switch; seats = rec.jobs.seats; ready = rec.jobs.ready }) here known
      (let e = left-here in omega (arith, e, left))

  periods-many : length d.demand.windows.periods ≡ length c.levels
  periods-many = sym sound.levels ∙ rec.rows.levels

  level-in : row.level < length c.levels
  level-in = subst (λ l. l < length c.levels) of.level known

  own-cell : (j : ℕ) → j < length c.levels → slice_index d.demand.own j ≡ own_demand c now before j
  own-cell j in-levels = grind (arith, nat_tests, rec, at_index)

  remaining-cell : (j : ℕ) → j < length c.levels → slice_index d.demand.remaining j ≡ remaining_demand c now before j
  remaining-cell j in-levels = grind (arith, nat_tests, rec, at_index)

  blocking-cell : (j : ℕ) → j < length c.levels → slice_index d.demand.blocking j ≡ blocking c before j
  blocking-cell j in-levels = ap (λ ns. slice_index ns j) rec.cells.blocking ∙ at_index (blocking c before) (length c.levels) j 0 in-levels

  own-room : thread_rem c now before x ≤ own_demand c now before row.level
  own-room = grind (arith, nat_tests, eq-eqb, sum_by-term, here)

  remaining-room : (j : ℕ) → row.level ≤ j → thread_rem c now before x ≤ remaining_demand c now before j
  remaining-room j low = grind (arith, nat_tests, leb-on, sum_by-term, here)

  blocking-room : (j : ℕ) → j < row.level → left_up_to row.id j d.mutexes ≤ blocking c before j
  blocking-room j low =
      let left : left_up_to row.id j d.mutexes ≡ greatest_left c j (held_by x.id before) =
      laws.lefts c before d.mutexes row.id j rec.holders (mutexes-there c label past (laws.known c past checked accepted audited))
      ∙ ap (λ i. greatest_left c j (held_by i before)) (sym of.id) in
      let on : ltb j x.level ≡ true = ltb-on j x.level row.level of.level low in
      let t : thread_blocking c before j x ≤ blocking c before j = sum_by-term (thread_blocking c before j) (threads c before) x here in
      let t' : greatest_left c j (held_by x.id before) ≤ blocking c before j = grind (arith, nat_tests) in
      omega (arith, left, t')

  pub may-shut : MayShut row d
  may-shut = record {
    closes = record {
      inside = subst (λ n. n < length d.jobs.seats) node-row node-known;
      known = (let a = periods-many in let b = level-in in omega (arith, a, b));
      queued = λ left. subst (λ n. IsSome (holder d.jobs.ready.lists n)) node-row (in-queue (subst (λ n. 0 < left_on d.jobs n) (sym node-row) left));
      own = (let a = dropped-low in let b = own-room in let cell = own-cell row.level level-in in omega (arith, a, b, cell));
      remaining = grind (arith, nat_tests, periods-many, dropped-low, remaining-room, remaining-cell);
    };
    blocking = grind (arith, nat_tests, level-in, blocking-room, blocking-cell);
  }

  pub may-stop : is_child row.id ≡ true → runs d.threads row.id ≡ true → MayStopChild row d
  may-stop child running = record {
    shut = may-shut;
    child = child;
    runs = running;
    process = grind (arith, nat_tests, rec);
  }
