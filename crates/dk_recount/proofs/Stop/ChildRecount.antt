-- The tables in which a child was stopped are the recount of the past with its end.
use Rattle.dk_recount.proofs.Names.{◌≡◌, ◌<◌, ◌+◌, ◌∙◌, ◌&&◌, true, false, eqb, ltb, ℕ, List, [], ◌∷◌, length, Some, refl, ap, sym, subst, arith, if◌then◌else◌, nat_tests, and-false, eq-eqb, both_ways, Configuration, IsChecked, IsAccepted, ThreadId, Entry, is_same, stops, quiet, Has, Thread, threads, family, after_entry, made_by, is_main, held_by, greatest_left, thread_blocking, blocking, own_demand, remaining_demand, Audited, Follows, same-self, map-has, family-charged, family-after, family-among, AtEachEntry, OneIsClosed, RowsAreNamed, clock_at, ThreadRow, Table, AreFamilies, find_row, runs, child_stopped, changed_family, has_row, AreThreads, row-there, stop-descends, row-was, RowOf, named, named-one, counted_lender, recount, stopped_child, changed_lender, ChildsStopEndsLoan, changed-lenders, quiet-lender, left_up_to, each_level, AreCells, Tables, IsSound, node_in, IsBooked, IsCharged, IsRecount, StopsChild, shut, without_child, Laws}
use Rattle.dk_recount.proofs.Slots.{node-kept}
use Rattle.dk_recount.proofs.Stop.Causes.{alone, plain, stops-one}
use Rattle.dk_recount.proofs.Stop.ShutTables.{blocking-part, own-part, remaining-part}
use Rattle.dk_recount.proofs.Stop.ShutRecount.{Shuts, blocking-new, held-by-stops, holders-new, levels-new, own-new, ready-new, remaining-new, seats-new, wishes-new}
use Rattle.dk_recount.proofs.Stop.OneClosed.{first-part, lefts-here}
use Rattle.dk_recount.proofs.Stop.OneClosed.{own-law as one-own, remaining-law as one-remaining, shuts as one-shuts}
use Rattle.dk_recount.proofs.Stop.FamilyRows.{in-family}

-- the laws of the crates below that the stop of a child needs
pub record ChildLaws : Type 0 where
  pub shared : Laws
  pub one : AtEachEntry OneIsClosed
  pub ends : (c : Configuration) (e : Entry) (past : List Entry) (table : Table) (x : ThreadId) → IsChecked c → AreFamilies table.levels table.families
      → x.process < length c.processes → runs table x ≡ true → StopsChild e x → AreThreads c (length past) (quiet e.label ∷ past) table
      → AreThreads c (length past) (e ∷ past) (changed_family (child_stopped x (clock_at c (length past))) x.process table)
  pub loans : ChildsStopEndsLoan

apart-serials : (a b : ℕ) → eqb a 0 ≡ true → eqb b 0 ≡ false → eqb a b ≡ false
apart-serials a b one two = grind (arith, nat_tests)

module _ (laws : ChildLaws) (c : Configuration) (e : Entry) (past : List Entry) (d : Tables) (row : ThreadRow)
    (sound : IsSound d) (are : AreFamilies d.threads.levels d.threads.families)
    (charged : IsCharged c e.label past d) (follows : Follows c past e) (ends : StopsChild e row.id)
    (found : find_row d.threads row.id ≡ Some row) (running : runs d.threads row.id ≡ true)
    (x : Thread) (of : RowOf c past row x) where
  abbrev now : ℕ
  now = length past

  abbrev before : List Entry
  before = quiet e.label ∷ past

  abbrev after : Thread → Thread
  after = after_entry e (length past)

  abbrev rows : List ThreadRow
  rows = row ∷ []

  rec : IsRecount c now before d
  rec = charged.recount

  checked : IsChecked c
  checked = charged.ruled.checked

  accepted : IsAccepted c
  accepted = charged.ruled.accepted

  audited : Audited c past
  audited = charged.ruled.audited

  row-names : RowsAreNamed c past
  row-names = laws.shared.named c past checked accepted audited

  -- The event closes the child alone.
  ends-x : StopsChild e x.id
  ends-x = subst (StopsChild e) (sym of.id) ends

  stops-is : (y : ThreadId) → stops y e ≡ is_same y row.id
  stops-is y = stops-one e row.id ends y

  held : (i : ThreadId) → held_by i (e ∷ past) ≡ (if named rows i then [] else held_by i before)
  held =
      held-by-stops c e past rows (laws.shared.holds c e past checked accepted (audited, follows)) (plain e row.id ends)
      (λ i on. stops-is i ∙ sym (named-one row i) ∙ on)
      (λ i on off. absurd (both_ways (is_same i row.id) (sym (named-one row i) ∙ off) (sym (stops-is i) ∙ on)))

  shuts : Shuts c e past d rows
  shuts = one-shuts laws.shared laws.one c e past d row sound are charged follows found x of (alone e x ends-x) (plain e row.id ends) held

  own-law : (j : ℕ) → j < length c.levels → own_demand c now (e ∷ past) j + own-part rows j d ≡ own_demand c now before j
  own-law = one-own laws.shared laws.one c e past d row sound are charged follows found x of (alone e x ends-x) (plain e row.id ends) held

  remaining-law : (j : ℕ) → j < length c.levels → remaining_demand c now (e ∷ past) j + remaining-part rows j d ≡ remaining_demand c now before j
  remaining-law = one-remaining laws.shared laws.one c e past d row sound are charged follows found x of (alone e x ends-x) (plain e row.id ends) held

  blocking-law : (j : ℕ) → blocking c (e ∷ past) j + blocking-part rows j d ≡ blocking c before j
  blocking-law j =
      let one = laws.one c e past checked accepted (audited, follows) in
      let stopped : stops x.id e ≡ true = stops-is x.id ∙ ap (is_same x.id) (sym of.id) ∙ same-self x.id in
      ap (λ n. blocking c (e ∷ past) j + n)
      (first-part (ltb j row.level) (ltb j x.level) (left_up_to row.id j d.mutexes) (greatest_left c j (held_by x.id before)) (ap (ltb j) (sym of.level))
      (lefts-here laws.shared laws.one c e past d row sound are charged follows found x of (alone e x ends-x) (plain e row.id ends) held j))
      ∙ subst (λ b. blocking c (e ∷ past) j + (if b then thread_blocking c before j x else 0) ≡ blocking c before j) stopped
      (one.blocking x j (family-among c x.id.process past x of.process of.family) (alone e x ends-x))

  cells-new : AreCells c (e ∷ past) (shut row d).demand
  cells-new = record {
    windows = rec.cells.windows;
    own = own-new laws.shared c e past d rows sound are charged follows shuts own-law ∙ sym (ap (λ t. each_level c (own_demand c t (e ∷ past))) rec.tick);
    remaining =
        remaining-new laws.shared c e past d rows sound are charged follows shuts (remaining_demand c now (e ∷ past)) remaining-law
        ∙ sym (ap (λ t. each_level c (remaining_demand c t (e ∷ past))) rec.tick);
    blocking = blocking-new laws.shared c e past d rows sound are charged follows shuts blocking-law;
  }

  -- The rows.
  makes : (q : ℕ) → made_by c q now e.event ≡ []
  makes q = (plain e row.id ends).makes c q now

  abbrev threads-new : Table
  threads-new = changed_family (child_stopped row.id d.demand.windows) row.id.process d.threads

  known : row.id.process < length c.processes
  known = subst (λ (i : ThreadId). i.process < length c.processes) of.id of.process

  rows-new : AreThreads c now (e ∷ past) threads-new
  rows-new =
      subst (λ w. AreThreads c now (e ∷ past) (changed_family (child_stopped row.id w) row.id.process d.threads)) (sym windows)
      (laws.ends c e past d.threads row.id checked are known running ends rec.rows)
    where
      windows : d.demand.windows ≡ clock_at c now
      windows = rec.cells.windows ∙ ap (clock_at c) rec.tick

  kept : (y : Thread) → Has (threads c past) y → has_row c now (after y) ≡ true → node_in threads-new y.id ≡ node_in d.threads y.id
  kept y h there =
      let place = row-names.place y h in
      node-kept d.threads threads-new y.id are (stop-descends row.id d.demand.windows y.id.process d.threads)
      (row-there c now before d.threads y rec.rows place.0 (subst (λ xs. Has xs y) (sym (family-charged c y.id.process e.label past)) place.1) (row-was c e now now y there))
      (row-there c now (e ∷ past) threads-new (after y) rows-new place.0
      (subst (λ xs. Has xs (after y)) (sym (family-after c e past makes y.id.process)) (map-has after (family c y.id.process past) y place.1)) there)

  -- The loans.
  process-of : (q : ℕ) → q < length c.processes → (y : Thread) → Has (family c q past) y → y.id.process ≡ q
  process-of q k y h = in-family c e.label past d.threads q k are rec.rows (laws.shared.families c past checked accepted audited) y h

  level-known : (q : ℕ) → q < length c.processes → (y : Thread) → Has (family c q past) y → y.level < length c.levels
  level-known q k y h = (laws.shared.places c past checked accepted audited y (family-among c q past y k h)).level

  loans-own : counted_lender c now (e ∷ past) row.id.process ≡ stopped_child (clock_at c now) row.id.serial (counted_lender c now past row.id.process)
  loans-own =
      laws.loans c past e row.id.process row.id.serial checked (record {
        levels = level-known row.id.process known;
        makes_none = λ h. makes row.id.process;
        children = λ y h child. stops-is y.id ∙ named-here y (process-of row.id.process known y h);
        mains = λ y h main. stops-is y.id ∙ not-main y main;
      })
    where
      named-here : (y : Thread) → y.id.process ≡ row.id.process → is_same y.id row.id ≡ eqb y.id.serial row.id.serial
      named-here y same = rw (eq-eqb y.id.process row.id.process same) refl

      not-main : (y : Thread) → is_main y ≡ true → is_same y.id row.id ≡ false
      not-main y main = ap (λ b. eqb y.id.process row.id.process && b) (apart-serials y.id.serial row.id.serial main ends.child) ∙ and-false (eqb y.id.process row.id.process)

  loans-others : (q : ℕ) → q < length c.processes → eqb q row.id.process ≡ false → counted_lender c now (e ∷ past) q ≡ counted_lender c now before q
  loans-others q k off =
      laws.shared.loans_quiet c past e q checked (record {
        levels = level-known q k;
        makes_none = λ h. makes q;
        children = λ y h child. stops-is y.id ∙ elsewhere y (process-of q k y h);
        mains = λ y h main. stops-is y.id ∙ elsewhere y (process-of q k y h);
      })
      ∙ sym (quiet-lender c now q e.label past)
    where
      elsewhere : (y : Thread) → y.id.process ≡ q → is_same y.id row.id ≡ false
      elsewhere y same = rw (subst (λ k. eqb k row.id.process ≡ false) (sym same) off) refl

  loans-new : changed_lender row.id.process (stopped_child d.demand.windows row.id.serial) d.loans ≡ recount c now (e ∷ past)
  loans-new = grind (arith, nat_tests, rec, changed-lenders, known, loans-own, quiet-lender, loans-others)

  -- All tables.
  stopped-recount : IsRecount c now (e ∷ past) (without_child row d)
  stopped-recount = record {
    tick = rec.tick;
    rows = rows-new;
    loans = loans-new;
    holders = holders-new laws.shared c e past d rows sound are charged follows shuts;
    own_levels = levels-new laws.shared c e past d rows sound are charged follows shuts;
    cells = cells-new;
    wishes = wishes-new laws.shared c e past d rows sound are charged follows shuts (node_in threads-new) kept;
    jobs = record {
      switch = rec.jobs.switch;
      seats = seats-new laws.shared c e past d rows sound are charged follows shuts (node_in threads-new) kept;
      ready = ready-new laws.shared c e past d rows sound are charged follows shuts (node_in threads-new) kept;
    };
    kernel = laws.shared.parts c e past d.kernel rec.kernel;
    releases = rec.releases;
    rights = rec.rights;
  }

  pub child-booked : IsBooked c e past (without_child row d)
  child-booked = grind (arith, nat_tests, stopped-recount)
