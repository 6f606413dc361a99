-- The tables in which a process was stopped are the recount of the past with its main's end.
use Rattle.dk_recount.proofs.Names.{◌≡◌, ◌<◌, ◌≤◌, ◌+◌, ◌-◌, ◌∙◌, inl, inr, ◌&&◌, ◌||◌, Bool, true, false, eqb, ℕ, suc, List, [], ◌∷◌, length, map, Option, Some, None, is_none, refl, ap, sym, subst, arith, filter, find, nat_lt, nat_le, slice_get, slice_index, sum_by, if◌then◌else◌, option_map_or, cases_Bool, and_parts, eq-eqb, eqb-true, length-map, sum_by-cons, slice_get_within, Configuration, IsChecked, IsAccepted, ThreadId, Entry, is_same, is_of, is_end, is_delete_of, has_event, does, main_of, stops, quiet, Has, Thread, threads, family, after_entry, made_by, is_main, Hold, held_by, greatest_left, is_holding, thread_blocking, blocking, own_demand, remaining_demand, Audited, Follows, same-id, same-self, find-has, filter-has, list_any-has, map-has, has-filter, sum_by-map, any-has, sum-filter, quiet-stops, family-charged, family-after, threads-after, family-among, family-sum, end-no-delete, end-plain, whose, some-event, Always, HoldersStand, AtEachEntry, GivenUp, closes, given_up, IsMainsEnd, ProcessIsClosed, WhoCloses, FamiliesStand, RowsAreNamed, Clock, clock_at, ThreadRow, Family, is_row_of, Table, AreFamilies, all_stopped, children_at, find_row, is_running, rows_of, changed_family, counted_row, has_row, main_id, unplaced, AreThreads, row-there, one-row, rows-family, process-descends, row-was, running-row, row-runs, RowOf, paired-sum, future_shares, IsFamilyOf, counted_lender, counted_stop, recount, stopped_process, changed_lender, MainsStopEndsLoans, TellsFutureShares, changed-lenders, quiet-lender, left_up_to, by_level, each_level, AreCells, length-map-numbers, at_index, eqb-flip, none-stop, spares_of, AreWishes, dropped_on, Tables, IsSound, node_in, IsBooked, IsCharged, IsRecount, node_on, stopped, stops_in, MayStopProcess, StopsProcess, cells_lost, running_children, shut_all, without_process, Laws, nat_tests}
use Rattle.std.proofs.Common.{not}
use Rattle.dk_bound.specs.Moves.{shares_to_come}
use Rattle.dk_recount.proofs.Slots.{node-kept}
use Rattle.dk_recount.proofs.Stop.Shut.{shut-kernel, shut-releases, shut-rights, shut-windows}
use Rattle.dk_recount.proofs.Stop.ShutTables.{AreApart, CanShut, blocking-part, may-all, own-part, remaining-part, slack-shut, switch-shut}
use Rattle.dk_recount.proofs.Stop.ShutRecount.{Shuts, blocking-new, dropped-is, held-by-stops, holders-new, lefts-are, levels-new, may-one, own-new, ready-new, remaining-new, seats-new, wishes-new}
use Rattle.dk_recount.proofs.Stop.FamilyRows.{family-apart, filter-apart, found-row, in-family, owner, paired}

-- the laws of the crates below that the stop of a process needs
pub record ProcessLaws : Type 0 where
  pub shared : Laws
  pub process : AtEachEntry ProcessIsClosed
  pub given : AtEachEntry GivenUp
  pub who : AtEachEntry WhoCloses
  pub stand : Always HoldersStand
  pub ends : (c : Configuration) (e : Entry) (past : List Entry) (table : Table) (p : ℕ) → IsChecked c → AreFamilies table.levels table.families
      → p < length c.processes → is_of (main_id p) e ≡ true → has_event is_end e ≡ true → AreThreads c (length past) (quiet e.label ∷ past) table
      → AreThreads c (length past) (e ∷ past) (changed_family (all_stopped (clock_at c (length past))) p table)
  pub loans : MainsStopEndsLoans
  pub future : TellsFutureShares

nothing : (b : Bool) → ◌≡◌ {A = ℕ} (if b then 0 else 0) 0
nothing b = grind (arith, nat_tests)

some-and : (o : Option ℕ) (b : Bool) → is_none o ≡ false → (is_none o && b) ≡ false
some-and o b off = ap (λ t. t && b) off

module _ (laws : ProcessLaws) (c : Configuration) (e : Entry) (past : List Entry) (d : Tables) (main : ThreadRow)
    (sound : IsSound d) (are : AreFamilies d.threads.levels d.threads.families)
    (charged : IsCharged c e.label past d) (follows : Follows c past e) (ends : StopsProcess e main.id)
    (found : find_row d.threads main.id ≡ Some main) where
  abbrev now : ℕ
  now = length past

  abbrev before : List Entry
  before = quiet e.label ∷ past

  abbrev after : Thread → Thread
  after = after_entry e (length past)

  abbrev p : ℕ
  p = main.id.process

  abbrev rows : List ThreadRow
  rows = main ∷ running_children d.threads p

  rec : IsRecount c now before d
  rec = charged.recount

  checked : IsChecked c
  checked = charged.ruled.checked

  accepted : IsAccepted c
  accepted = charged.ruled.accepted

  audited : Audited c past
  audited = charged.ruled.audited

  audited-on : Audited c (e ∷ past)
  audited-on = (audited, follows)

  family-stands : FamiliesStand c past
  family-stands = laws.shared.families c past checked accepted audited

  row-names : RowsAreNamed c past
  row-names = laws.shared.named c past checked accepted audited

  -- The rows of the process.
  main-among : Has (rows_of d.threads p) main
  main-among = (find-has (is_row_of main.id) (rows_of d.threads p) main found).0

  abbrev f : Family
  f = (rows-family d.threads p main main-among).0

  f-is : slice_get d.threads.families p ≡ Some f
  f-is = (rows-family d.threads p main main-among).1

  known : p < length c.processes
  known = grind (arith, nat_tests, slice_get_within, f-is, rec)

  first-row : main ≡ f.main
  first-row =
      let here : rows_of d.threads p ≡ f.main ∷ f.children = ap (λ o. option_map_or (λ (z : Family). z.main ∷ z.children) o []) f-is in
      let among : Has (rows_of d.threads p) f.main = subst (λ xs. Has xs f.main) (sym here) (inl refl) in
      let one : main.id.serial ≡ 0 = eqb-true main.id.serial 0 ends.main in
      one-row d.threads p main f.main are main-among among (one ∙ sym (are p f f-is).main_serial)

  children-are : children_at d.threads p ≡ f.children
  children-are = ap (λ o. option_map_or (λ (z : Family). z.children) o []) f-is

  rows-are : rows_of d.threads p ≡ main ∷ children_at d.threads p
  rows-are = grind (arith, nat_tests, f-is, first-row, children-are)

  -- The main's thread has not been stopped.
  abbrev x : Thread
  x = (owner c e.label past d.threads p known are rec.rows family-stands main main-among).0

  x-is : RowOf c past main x
  x-is = (owner c e.label past d.threads p known are rec.rows family-stands main main-among).1

  x-among : Has (threads c past) x
  x-among = family-among c x.id.process past x x-is.process x-is.family

  x-process : x.id.process ≡ p
  x-process = ap (λ (i : ThreadId). i.process) x-is.id

  x-ends : is_of x.id e ≡ true
  x-ends = subst (λ i. is_of i e ≡ true) (sym x-is.id) ends.own

  x-main : is_main x ≡ true
  x-main = ap (λ (i : ThreadId). eqb i.serial 0) x-is.id ∙ ends.main

  x-runs : x.stop ≡ None
  x-runs = let event = some-event e.event ends.end in laws.shared.callers c e past checked accepted audited-on x event.0 x-among x-ends event.1

  main-end : IsMainsEnd c e past x
  main-end = record { among = x-among; main = x-main; own = x-ends; end = ends.end }

  main-runs : is_running main ≡ true
  main-runs = row-runs c past main x x-is ∙ ap is_none x-runs

  running-are : filter is_running (rows_of d.threads p) ≡ rows
  running-are = ap (filter is_running) rows-are ∙ rw main-runs refl

  main-name : main.id ≡ main_id p
  main-name = ap (λ s. record { process = main.id.process; serial = s }) (eqb-true main.id.serial 0 ends.main)

  -- Whose window is closed, and who is stopped.
  shuts-is : (y : Thread) → closes e y ≡ (is_none y.stop && eqb y.id.process p)
  shuts-is y = (laws.who c e past checked accepted audited-on).main x y x-main x-ends ends.end ∙ ap (λ q. is_none y.stop && eqb y.id.process q) x-process

  stops-is : (y : ThreadId) → stops y e ≡ eqb y.process p
  stops-is y =
      let a : does is_end y e ≡ is_same y main.id = rw (whose y main.id e ends.own, ends.end) (on (is_same y main.id)) in
      let zero-serial : eqb 0 main.id.serial ≡ true = eqb-flip 0 main.id.serial ∙ ends.main in
      let b : does is_end (main_of y) e ≡ eqb y.process p = rw (whose (main_of y) main.id e ends.own, ends.end, zero-serial) (twice (eqb y.process p)) in
      let n : has_event (is_delete_of y.serial) e ≡ false = end-no-delete y.serial e.event ends.end in
      rw (a, b, n) (all (eqb y.process p) (eqb y.serial main.id.serial) (not (eqb y.serial 0)) (is_of (main_of y) e))
    where
      on : (t : Bool) → (t && true) ≡ t
      on true = refl
      on false = refl

      twice : (t : Bool) → ((t && true) && true) ≡ t
      twice true = refl
      twice false = refl

      all : (q s n o : Bool) → (((q && s) || q) || (n && (o && false))) ≡ q
      all true true n o = refl
      all true false n o = refl
      all false s true true = refl
      all false s true false = refl
      all false s false o = refl

  running-shuts : (y : Thread) → y.stop ≡ None → y.id.process ≡ p → closes e y ≡ true
  running-shuts y runs process = grind (arith, nat_tests, eq-eqb, shuts-is)

  -- a row that is shut is one of the process's that runs
  of-rows : (r : ThreadRow) → Has rows r → Has (rows_of d.threads p) r × (is_running r ≡ true)
  of-rows r h = filter-has is_running (rows_of d.threads p) r (subst (λ rs. Has rs r) (sym running-are) h)

  each-row : (r : ThreadRow) → Has rows r → (y : Thread) × RowOf c past r y × (find_row d.threads r.id ≡ Some r) × (closes e y ≡ true)
  each-row r h =
      let o = of-rows r h in
      let y = owner c e.label past d.threads p known are rec.rows family-stands r o.0 in
      let runs : is_none y.0.stop ≡ true = sym (row-runs c past r y.0 y.1) ∙ o.1 in
      let process : y.0.id.process ≡ p = ap (λ (i : ThreadId). i.process) y.1.id ∙ y.2 in
      (y.0, y.1, found-row c e.label past d.threads p known are rec.rows family-stands r o.0, running-shuts y.0 (none-stop y.0.stop runs) process)

  -- and a thread of the process that runs has its row among them
  row-of-running : (y : Thread) → Has (threads c past) y → y.stop ≡ None → y.id.process ≡ p → (r : ThreadRow) × Has rows r × (r.id ≡ y.id)
  row-of-running y h runs process =
      let place = row-names.place y h in
      let own = row-there c now before d.threads y rec.rows place.0
      (subst (λ xs. Has xs y) (sym (family-charged c y.id.process e.label past)) place.1) (running-row c now y runs) in
      let among : Has (rows_of d.threads p) own.row = subst (λ q. Has (rows_of d.threads q) own.row) process own.among in
      let z = owner c e.label past d.threads p known are rec.rows family-stands own.row among in
      let z-among = family-among c z.0.id.process past z.0 z.1.process z.1.family in
      let same : z.0 ≡ y = row-names.distinct z.0 y z-among h (z.1.id ∙ own.name) in
      let on : is_running own.row ≡ true = row-runs c past own.row z.0 z.1 ∙ ap (λ (t : Thread). is_none t.stop) same ∙ ap is_none runs in
      (own.row, subst (λ rs. Has rs own.row) running-are (has-filter is_running (rows_of d.threads p) own.row among on), own.name)

  shut-parts : (y : Thread) → closes e y ≡ true → (y.stop ≡ None) × (y.id.process ≡ p)
  shut-parts y shut = grind (arith, nat_tests, and_parts, shuts-is, none-stop, eqb-true)

  -- whoever was stopped before holds nothing
  holds-nothing : (i : ThreadId) → i.process ≡ p → ((y : Thread) → Has (threads c past) y → y.id ≡ i → y.stop ≡ None → ⊥) → held_by i before ≡ []
  holds-nothing i process stopped =
      ap (λ b. if b then [] else if is_of i (quiet e.label) then map aged' (held_by i past) else held_by i past) (quiet-stops i e.label)
      ∙ none (held_by i past) refl (is_of i (quiet e.label))
    where
      aged' : Hold → Hold
      aged' h = record { mutex = h.mutex; ticks = h.ticks + 1 }

      none : (held : List Hold) → held_by i past ≡ held → (b : Bool) → (if b then map aged' (held_by i past) else held_by i past) ≡ []
      none [] at true = ap (map aged') at
      none [] at false = at
      none (h ∷ held) at b =
          let holder = laws.shared.known c past checked accepted audited i (ap is_holding at) in
          let holds : is_holding (held_by holder.thread.id past) ≡ true = ap (λ k. is_holding (held_by k past)) holder.name ∙ ap is_holding at in
          absurd (stopped holder.thread holder.among holder.name (laws.stand c past checked accepted audited holder.thread holder.among holds).running)

  shuts : Shuts c e past d rows
  shuts = record {
    plain = end-plain e.event ends.end;
    apart = subst AreApart running-are (filter-apart is_running (rows_of d.threads p) (family-apart d.threads p main are main-among));
    each = each-row;
    all = λ y h shut. let is = shut-parts y shut in row-of-running y h is.0 is.1;
    held =
        held-by-stops c e past rows (laws.shared.holds c e past checked accepted audited-on) (end-plain e.event ends.end)
        (λ i on.
        let r = any-has (λ (q : ThreadRow). is_same i q.id) rows on in
        let process : i.process ≡ p = ap (λ (k : ThreadId). k.process) (same-id i r.0.id r.2)
        ∙ (owner c e.label past d.threads p known are rec.rows family-stands r.0 (of-rows r.0 r.1).0).2 in
        stops-is i ∙ eq-eqb i.process p process)
        (λ i on off.
        holds-nothing i (eqb-true i.process p (sym (stops-is i) ∙ on))
        (λ y h id runs.
        let process : y.id.process ≡ p = ap (λ (k : ThreadId). k.process) id ∙ eqb-true i.process p (sym (stops-is i) ∙ on) in
        let r = row-of-running y h runs process in
        let same : is_same i r.0.id ≡ true = subst (λ k. is_same i k ≡ true) (sym (r.2 ∙ id)) (same-self i) in
        let in-rows = list_any-has (λ (q : ThreadRow). is_same i q.id) rows r.0 r.1 same in
        let both : true ≡ false = sym in-rows ∙ off in cc));
  }

  -- What demand and blocking lose.
  pair-paired : map unplaced rows ≡ map (counted_row c now) (filter (λ (y : Thread). is_none y.stop) (family c p past))
  pair-paired = ap (map unplaced) (sym running-are) ∙ paired c e.label past d.threads p known are rec.rows family-stands

  among-all : (y : Thread) → Has (family c p past) y → Has (threads c past) y
  among-all y h = family-among c p past y known h

  process-of : (y : Thread) → Has (family c p past) y → y.id.process ≡ p
  process-of y h = in-family c e.label past d.threads p known are rec.rows family-stands y h

  row-thread : (r : ThreadRow) (h : Has rows r) (y : Thread) → Has (family c p past) y → counted_row c now y ≡ unplaced r → (shuts.each r h).0 ≡ y
  row-thread r h y k at =
      let z = shuts.each r h in
      row-names.distinct z.0 y (family-among c z.0.id.process past z.0 z.1.process z.1.family) (among-all y k) (z.1.id ∙ sym (ap (λ (q : ThreadRow). q.id) at))

  given-sum : (test test' : ℕ → Bool) → ((i : ℕ) → test i ≡ test' i)
      → sum_by (λ (r : ThreadRow). if test r.level then dropped_on (node_on r) d.jobs else 0) rows
      ≡ sum_by (λ y. if test' y.level then given_up c e past y else 0) (family c p past)
  given-sum test test' same =
      paired-sum c now (λ r. if test r.level then dropped_on (node_on r) d.jobs else 0) (λ y. if test' y.level then given_up c e past y else 0)
      rows (filter (λ (y : Thread). is_none y.stop) (family c p past)) pair-paired one
      ∙ sum-filter (λ (y : Thread). is_none y.stop) (λ y. if test' y.level then given_up c e past y else 0) (family c p past) none
    where
      one : (r : ThreadRow) (y : Thread) → Has rows r → Has (filter (λ (z : Thread). is_none z.stop) (family c p past)) y → counted_row c now y ≡ unplaced r
          → (if test r.level then dropped_on (node_on r) d.jobs else 0) ≡ (if test' y.level then given_up c e past y else 0)
      one r y h k at =
          let k' = (filter-has (λ (z : Thread). is_none z.stop) (family c p past) y k).0 in
          let level : r.level ≡ y.level = sym (ap (λ (q : ThreadRow). q.level) at) in
          let amount : dropped_on (node_on r) d.jobs ≡ given_up c e past y =
          dropped-is laws.shared c e past d rows sound are charged follows shuts r h ∙ ap (given_up c e past) (row-thread r h y k' at) in
          ap (λ b. if b then dropped_on (node_on r) d.jobs else 0) (ap test level ∙ same y.level) ∙ ap (λ n. if test' y.level then n else 0) amount

      none : (y : Thread) → Has (family c p past) y → is_none y.stop ≡ false → (if test' y.level then given_up c e past y else 0) ≡ 0
      none y h off =
          let zero-given = (laws.given c e past checked accepted audited-on).unclosed y (among-all y h) (shuts-is y ∙ some-and y.stop (eqb y.id.process p) off) in
          ap (λ n. if test' y.level then n else 0) zero-given ∙ nothing (test' y.level)

  blocking-sum : (j : ℕ) → blocking-part rows j d ≡ sum_by (thread_blocking c before j) (family c p past)
  blocking-sum j =
      paired-sum c now (λ r. if nat_lt j r.level then left_up_to r.id j d.mutexes else 0) (thread_blocking c before j)
      rows (filter (λ (y : Thread). is_none y.stop) (family c p past)) pair-paired one
      ∙ sum-filter (λ (y : Thread). is_none y.stop) (thread_blocking c before j) (family c p past) none
    where
      one : (r : ThreadRow) (y : Thread) → Has rows r → Has (filter (λ (z : Thread). is_none z.stop) (family c p past)) y → counted_row c now y ≡ unplaced r
          → (if nat_lt j r.level then left_up_to r.id j d.mutexes else 0) ≡ thread_blocking c before j y
      one r y h k at =
          let k' = (filter-has (λ (z : Thread). is_none z.stop) (family c p past) y k).0 in
          let level : r.level ≡ y.level = sym (ap (λ (q : ThreadRow). q.level) at) in
          let amount : left_up_to r.id j d.mutexes ≡ greatest_left c j (held_by y.id before) =
          lefts-are laws.shared c e past d rows sound are charged follows shuts r h j ∙ ap (λ (z : Thread). greatest_left c j (held_by z.id before)) (row-thread r h y k' at) in
          ap (λ l. if nat_lt j l then left_up_to r.id j d.mutexes else 0) level ∙ ap (λ n. if nat_lt j y.level then n else 0) amount

      none : (y : Thread) → Has (family c p past) y → is_none y.stop ≡ false → thread_blocking c before j y ≡ 0
      none y h off =
          let free = holds-nothing y.id (process-of y h)
          (λ z k id runs.
          let same : z ≡ y = row-names.distinct z y k (among-all y h) id in
          let on : is_none y.stop ≡ true = sym (ap (λ (t : Thread). is_none t.stop) same) ∙ ap is_none runs in
          let both : true ≡ false = sym on ∙ off in
          cc) in
          ap (λ held. if nat_lt j y.level then greatest_left c j held else 0) free ∙ nothing (nat_lt j y.level)

  closed-process : ProcessIsClosed c e past
  closed-process = laws.process c e past checked accepted audited-on

  own-law : (j : ℕ) → j < length c.levels → own_demand c now (e ∷ past) j + own-part rows j d ≡ own_demand c now before j
  own-law j h =
      ap (λ n. own_demand c now (e ∷ past) j + n)
      (given-sum (λ i. eqb j i) (λ i. eqb i j) (λ i. eqb-flip j i)
      ∙ ap (λ q. sum_by (λ y. if eqb y.level j then given_up c e past y else 0) (family c q past)) (sym x-process))
      ∙ closed-process.own x j main-end

  blocking-law : (j : ℕ) → blocking c (e ∷ past) j + blocking-part rows j d ≡ blocking c before j
  blocking-law j = grind (arith, nat_tests, blocking-sum, x-process, closed-process, main-end, closed-process.blocking x j main-end)

  -- the process and its threads, for the loans
  family-is : IsFamilyOf c now before p (family-stands p known).main (family-stands p known).children
  family-is = grind (arith, nat_tests, family-stands, known, family-charged)

  abbrev future : ℕ → ℕ
  future j = future_shares d.loans d.demand.windows p j

  windows-are : d.demand.windows ≡ clock_at c now
  windows-are = rec.cells.windows ∙ ap (clock_at c) rec.tick

  future-is : (j : ℕ) → future j ≡ shares_to_come c now before j p
  future-is j = grind (arith, nat_tests, rec, windows-are, family-stands, known, checked, family-is, laws.future c now j before p (family-stands p known).main (family-stands p known).children checked known family-is)

  remaining-law : (j : ℕ) → j < length c.levels → (remaining_demand c now (e ∷ past) j + future j) + remaining-part rows j d ≡ remaining_demand c now before j
  remaining-law j h =
      let lost = future-is j ∙ ap (shares_to_come c now before j) (sym x-process) in
      let given = given-sum (λ i. nat_le i j) (λ i. nat_le i j) (λ i. refl)
      ∙ ap (λ q. sum_by (λ y. if nat_le y.level j then given_up c e past y else 0) (family c q past)) (sym x-process) in
      let law = closed-process.remaining x j h main-end in
      omega (arith, lost, given, law)

  abbrev next : Tables
  next = shut_all rows d

  own-new' : next.demand.own ≡ each_level c (own_demand c now (e ∷ past))
  own-new' = own-new laws.shared c e past d rows sound are charged follows shuts own-law

  needs : next.demand.remaining ≡ each_level c (λ j. remaining_demand c now (e ∷ past) j + future j)
  needs = remaining-new laws.shared c e past d rows sound are charged follows shuts (λ j. remaining_demand c now (e ∷ past) j + future j) remaining-law

  -- The tables may be changed so.
  levels-many : length d.demand.windows.periods ≡ length c.levels
  levels-many = sym sound.levels ∙ rec.rows.levels

  own-before : d.demand.own ≡ each_level c (own_demand c now before)
  own-before = rec.cells.own ∙ ap (λ t. each_level c (own_demand c t before)) rec.tick

  remaining-before : d.demand.remaining ≡ each_level c (remaining_demand c now before)
  remaining-before = rec.cells.remaining ∙ ap (λ t. each_level c (remaining_demand c t before)) rec.tick

  each-many : (g : ℕ → ℕ) → length (each_level c g) ≡ length d.demand.windows.periods
  each-many g = length-map-numbers g 0 (length c.levels) ∙ sym levels-many

  cell-is : (ns : List ℕ) (g : ℕ → ℕ) (j : ℕ) → ns ≡ each_level c g → j < length d.demand.windows.periods → slice_index ns j ≡ g j
  cell-is ns g j is h = ap (λ ms. slice_index ms j) is ∙ at_index g (length c.levels) j 0 (subst (λ n. j < n) levels-many h)

  in-levels : (j : ℕ) → j < length d.demand.windows.periods → j < length c.levels
  in-levels j h = subst (λ n. j < n) levels-many h

  can-shut : CanShut rows d
  can-shut = record {
    apart = shuts.apart;
    inside = λ r h. (may-one laws.shared c e past d rows sound are charged follows shuts r h).closes.inside;
    levels = λ r h. (may-one laws.shared c e past d rows sound are charged follows shuts r h).closes.known;
    queued = λ r h. (may-one laws.shared c e past d rows sound are charged follows shuts r h).closes.queued;
    owns = ap (λ (ns : List ℕ). length ns) own-before ∙ each-many (own_demand c now before);
    needs = ap (λ (ns : List ℕ). length ns) remaining-before ∙ each-many (remaining_demand c now before);
    waits = ap (λ (ns : List ℕ). length ns) rec.cells.blocking ∙ each-many (blocking c before);
    own = λ j h. (let law = own-law j (in-levels j h) in let cell = cell-is d.demand.own (own_demand c now before) j own-before h in omega (arith, law, cell));
    remaining = grind (arith, nat_tests, remaining-law, in-levels, cell-is, remaining-before);
    blocking = λ j h. (let law = blocking-law j in let cell = cell-is d.demand.blocking (blocking c before) j rec.cells.blocking h in omega (arith, law, cell));
  }

  pub may-stop-process : MayStopProcess main d
  may-stop-process =
      let all = may-all rows d can-shut in
      record {
        process = (let many = sound.lenders in let count = rec.rows.processes in let low = known in omega (arith, many, count, low));
        stands = ap (λ o. option_map_or (λ (z : Family). is_running z.main) o false) f-is ∙ ap is_running (sym first-row) ∙ main-runs;
        few =
            (let is = are p f f-is in
            let room = is.room in let few = is.few in
            let count = ap (λ (rs : List ThreadRow). length rs) children-are in
            omega (arith, room, few, count));
        main_shut = all.0;
        children_shut = all.1;
        shares = λ j h. (let cell = cell-is next.demand.remaining (λ i. remaining_demand c now (e ∷ past) i + future i) j needs h in omega (arith, cell));
        each = ap (λ (ns : List ℕ). length ns) needs ∙ each-many (λ j. remaining_demand c now (e ∷ past) j + future j);
      }

  -- All tables.
  makes : (q : ℕ) → made_by c q now e.event ≡ []
  makes q = (end-plain e.event ends.end).makes c q now

  abbrev threads-new : Table
  threads-new = changed_family (all_stopped d.demand.windows) p d.threads

  rows-new : AreThreads c now (e ∷ past) threads-new
  rows-new =
      subst (λ w. AreThreads c now (e ∷ past) (changed_family (all_stopped w) p d.threads)) (sym windows-are)
      (laws.ends c e past d.threads p checked are known (subst (λ i. is_of i e ≡ true) main-name ends.own) ends.end rec.rows)

  kept : (y : Thread) → Has (threads c past) y → has_row c now (after y) ≡ true → node_in threads-new y.id ≡ node_in d.threads y.id
  kept y h there =
      let place = row-names.place y h in
      node-kept d.threads threads-new y.id are (process-descends d.demand.windows p y.id.process d.threads)
      (row-there c now before d.threads y rec.rows place.0 (subst (λ xs. Has xs y) (sym (family-charged c y.id.process e.label past)) place.1) (row-was c e now now y there))
      (row-there c now (e ∷ past) threads-new (after y) rows-new place.0
      (subst (λ xs. Has xs (after y)) (sym (family-after c e past makes y.id.process)) (map-has after (family c y.id.process past) y place.1)) there)

  level-known : (q : ℕ) → q < length c.processes → (y : Thread) → Has (family c q past) y → y.level < length c.levels
  level-known q k y h = (laws.shared.places c past checked accepted audited y (family-among c q past y k h)).level

  loans-own : counted_lender c now (e ∷ past) p ≡ stopped_process (clock_at c now) (counted_lender c now past p)
  loans-own =
      laws.loans c past e p checked
      (record {
        levels = level-known p known;
        makes_none = λ h. makes p;
        children = λ y h child. stops-is y.id ∙ eq-eqb y.id.process p (process-of y h);
        mains = λ y h main'. stops-is y.id ∙ eq-eqb y.id.process p (process-of y h);
      })
      none-stopped
    where
      none-stopped : counted_stop c past p ≡ None
      none-stopped =
          let s = family-stands p known in
          let among : Has (threads c past) s.main = among-all s.main (subst (λ xs. Has xs s.main) (sym s.rows) (inl refl)) in
          let first : is_main s.main ≡ true = ap (λ (i : ThreadId). eqb i.serial 0) s.id in
          let same : s.main ≡ x = row-names.distinct s.main x among x-among (s.id ∙ sym main-name ∙ sym x-is.id) in
          ap (λ xs. option_map_or (λ (y : Thread). y.stop) (find is_main xs) None) s.rows
          ∙ rw first (ap (λ (y : Thread). y.stop) same ∙ x-runs)

  loans-others : (q : ℕ) → q < length c.processes → eqb q p ≡ false → counted_lender c now (e ∷ past) q ≡ counted_lender c now before q
  loans-others q k off =
      laws.shared.loans_quiet c past e q checked (record {
        levels = level-known q k;
        makes_none = λ h. makes q;
        children = λ y h child. elsewhere y h;
        mains = λ y h main'. elsewhere y h;
      })
      ∙ sym (quiet-lender c now q e.label past)
    where
      elsewhere : (y : Thread) → Has (family c q past) y → stops y.id e ≡ false
      elsewhere y h =
          let process = in-family c e.label past d.threads q k are rec.rows family-stands y h in
          stops-is y.id ∙ ap (λ i. eqb i p) process ∙ off

  loans-new : changed_lender p (stopped_process d.demand.windows) d.loans ≡ recount c now (e ∷ past)
  loans-new = grind (arith, nat_tests, rec, windows-are, changed-lenders, known, loans-own, quiet-lender, loans-others)

  tick-is : next.demand.windows.tick ≡ now
  tick-is = ap (λ (w : Clock). w.tick) (shut-windows rows d) ∙ rec.tick

  cells-new : AreCells c (e ∷ past) (cells_lost d.loans p next.demand)
  cells-new = record {
    windows = shut-windows rows d ∙ rec.cells.windows ∙ ap (λ (w : Clock). clock_at c w.tick) (sym (shut-windows rows d));
    own = own-new' ∙ sym (ap (λ t. each_level c (own_demand c t (e ∷ past))) tick-is);
    remaining =
        ap (λ w. by_level (λ j n. n - future_shares d.loans w p j) next.demand.remaining) (shut-windows rows d)
        ∙ ap (by_level (λ j n. n - future j)) needs
        ∙ laws.shared.cells c (λ j n. n - future j) (λ j. remaining_demand c now (e ∷ past) j + future j) (remaining_demand c now (e ∷ past)) (λ j h. omega arith)
        ∙ sym (ap (λ t. each_level c (remaining_demand c t (e ∷ past))) tick-is);
    blocking = blocking-new laws.shared c e past d rows sound are charged follows shuts blocking-law;
  }

  stopped-recount : IsRecount c now (e ∷ past) (without_process main d)
  stopped-recount = record {
    tick = tick-is;
    rows = rows-new;
    loans = loans-new;
    holders = holders-new laws.shared c e past d rows sound are charged follows shuts;
    own_levels = levels-new laws.shared c e past d rows sound are charged follows shuts;
    cells = cells-new;
    wishes =
        subst (AreWishes (node_in threads-new) (spares_of c) c now (e ∷ past)) (sym (slack-shut rows d))
        (wishes-new laws.shared c e past d rows sound are charged follows shuts (node_in threads-new) kept);
    jobs = record {
      switch = switch-shut rows d ∙ rec.jobs.switch;
      seats = seats-new laws.shared c e past d rows sound are charged follows shuts (node_in threads-new) kept;
      ready = ready-new laws.shared c e past d rows sound are charged follows shuts (node_in threads-new) kept;
    };
    kernel = laws.shared.parts c e past _ (shut-kernel rows d ∙ rec.kernel);
    releases = shut-releases rows d ∙ rec.releases;
    rights = shut-rights rows d ∙ rec.rights;
  }

  pub process-booked : IsBooked c e past (without_process main d)
  process-booked = grind (arith, nat_tests, stopped-recount)

  -- The rows that are shut are of threads that stop in the tick.
  pub counts : 1 + length (running_children d.threads p) ≤ stopped c (e ∷ past)
  counts =
      let many : length rows ≡ length (filter (λ (y : Thread). is_none y.stop) (family c p past)) =
      sym (length-map rows unplaced) ∙ ap (λ (rs : List ThreadRow). length rs) pair-paired
      ∙ length-map (filter (λ (y : Thread). is_none y.stop) (family c p past)) (counted_row c now) in
      let here = all-stop (family c p past) (λ y h. h) in
      let part = family-sum c p past one known in
      let all : stopped c (e ∷ past) ≡ sum_by one (threads c past) = grind (arith, nat_tests, threads-after, makes, sum_by-map) in
      omega (arith, many, here, part, all)
    where
      one : Thread → ℕ
      one y = if stops_in now (after y) then 1 else 0

      all-stop : (ys : List Thread) → ((y : Thread) → Has ys y → Has (family c p past) y) → length (filter (λ (y : Thread). is_none y.stop) ys) ≤ sum_by one ys
      all-stop [] among = omega arith
      all-stop (y ∷ ys) among =
          let rest = all-stop ys (λ z h. among z (inr h)) in
          let sum = sum_by-cons one y ys in
          elim (cases_Bool (is_none y.stop)) [
            | inr off ↦ rw off (let goal : length (filter (λ (z : Thread). is_none z.stop) ys) ≤ sum_by one (y ∷ ys) = omega (arith, rest, sum) in goal)
            | inl on ↦
                let runs = none-stop y.stop on in
                let stops' : stops y.id e ≡ true = stops-is y.id ∙ eq-eqb y.id.process p (process-of y (among y (inl refl))) in
                let stop : (after y).stop ≡ Some now = rw (runs, stops') refl in
                let here : stops_in now (after y) ≡ true = ap (λ o. option_map_or (λ t. eqb t now) o false) stop ∙ eq-eqb now now refl in
                let counted : one y ≡ 1 = ap (λ b. if b then 1 else 0) here in
                rw on (let goal : suc (length (filter (λ (z : Thread). is_none z.stop) ys)) ≤ sum_by one (y ∷ ys) = omega (arith, rest, sum, counted) in goal)
          ]
