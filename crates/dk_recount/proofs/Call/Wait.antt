-- A wait of the tables is one of the past.
use Rattle.dk_recount.proofs.Names.{◌≡◌, ◌<◌, ◌∙◌, inl, Bool, true, false, cond, ℕ, List, [], ◌∷◌, length, map, Some, None, refl, ap, sym, subst, arith, filter, is_some, not, if◌then◌else◌, length-map, Configuration, ThreadId, Label, Event, Refusal, Entry, Has, is_same, is_of, quiet, Thread, threads, Hold, aged, held_by, is_holding, innermost_left, first_refusal, Audited, same-id, quiet-stops, none-of-one, IsPlain, quiet-held, family-among, Always, HoldsNest, AtEachEntry, given_up, IsClosedAlone, OneIsClosed, nested-quiet, ThreadRow, AreFamilies, find_row, HasRow, RowOf, named, named-one, last_locked, TellsInnermost, dropped_cells, EventMovesCells, freed_cells, AreCells, wishes_at, is_wish_of, dropped, AreCounted, closed_on, dropped_on, Tables, IsSound, node_in, IsBooked, level_in, MayClose, job_closed, node_on, IsCalling, CallIsRight, MayWait, refusal_of, wait_refusal_in, waited, with_event, Laws, CallerLaws}
use Rattle.dk_recount.proofs.Call.Unchanged.{holders-as}
use Rattle.dk_recount.proofs.Call.Booking.{books, levels-as}
use Rattle.dk_recount.proofs.Holding.{last-least}
use Rattle.dk_recount.proofs.Stop.Child.{thread-of-row}
use Rattle.dk_recount.proofs.Stop.Needs.{may-shut, node-row}
use Rattle.dk_recount.proofs.Stop.ShutRecount.{Shuts, ready-new, seats-new, wishes-new}
use Rattle.dk_recount.proofs.Stop.OneClosed.{dropped-here as one-dropped, shuts as one-shuts}
use Rattle.dk_recount.proofs.Call.Caller as calls

pub record WaitLaws : Type 0 where
  pub caller : CallerLaws
  pub shared : Laws
  pub nest : Always HoldsNest
  pub one : AtEachEntry OneIsClosed
  pub cells : AtEachEntry EventMovesCells
  pub innermost : TellsInnermost

module _ (laws : WaitLaws) (x : ThreadId) (c : Configuration) (label : Label) (past : List Entry) (d : Tables) (calling : IsCalling x c label past d) (sound : IsSound d) (families : AreFamilies d.threads.levels d.threads.families) where
  abbrev now : ℕ
  now = length past

  abbrev node_of : ThreadId → ℕ
  node_of = node_in d.threads

  abbrev e : Entry
  e = with_event label Event.Wait

  abbrev new : List Entry
  new = e ∷ past

  abbrev old : List Entry
  old = quiet label ∷ past

  abbrev caller : Thread
  caller = (calls.caller laws.caller x c label past d calling sound families).row

  same-caller : caller.id ≡ x
  same-caller = (calls.caller laws.caller x c label past d calling sound families).id

  caller-among : Has (threads c past) caller
  caller-among = (calls.caller laws.caller x c label past d calling sound families).among

  -- it holds nothing
  holding-is : is_some (last_locked (held_by x old)) ≡ is_holding (held_by caller.id old)
  holding-is = told (held_by x old) ∙ ap (λ i. is_holding (held_by i old)) (sym same-caller)
    where
      told : (held : List Hold) → is_some (last_locked held) ≡ is_holding held
      told [] = refl
      told (h ∷ held) = refl

  refuses : wait_refusal_in d x ≡ refusal_of c label past x Event.Wait
  refuses =
      let ruled = calling.charged.ruled in
      let last = last-least c 0 (held_by x old) (nested-quiet c x label past (laws.nest c past ruled.checked ruled.accepted ruled.audited x)) in
      ap (λ o. first_refusal ((is_some o, Refusal.HoldsWait) ∷ [])) (laws.innermost c old d.mutexes x calling.charged.recount.holders last)
      ∙ ap (λ b. first_refusal ((b, Refusal.HoldsWait) ∷ [])) holding-is
      ∙ sym (calls.refusal-is laws.caller x c label past d calling sound families Event.Wait)

  -- Its row.
  own : HasRow d.threads x
  own = calls.own-row laws.caller x c label past d calling sound families

  abbrev row : ThreadRow
  row = own.row

  found : find_row d.threads row.id ≡ Some row
  found = subst (λ i. find_row d.threads i ≡ Some row) (sym own.name) own.found

  row-is : RowOf c past row caller
  row-is =
      let ruled = calling.charged.ruled in
      let t = thread-of-row c label past d.threads row calling.charged.recount.rows (laws.shared.families c past ruled.checked ruled.accepted ruled.audited) found in
      let same : t.0 ≡ caller = (laws.shared.named c past ruled.checked ruled.accepted ruled.audited).distinct t.0 caller
      (family-among c t.0.id.process past t.0 t.1.process t.1.family) caller-among (t.1.id ∙ own.name ∙ sym same-caller) in
      subst (RowOf c past row) same t.1

  node-is : node_on row ≡ node_of x
  node-is = sym (node-row laws.shared c label past d row sound families calling.charged found caller row-is) ∙ ap node_of same-caller

  level-is : row.level ≡ level_in d x
  level-is = sym row-is.level ∙ sym (calls.own-level laws.caller x c label past d calling sound families)

  may : MayWait x d
  may =
      subst (λ n. MayClose n (level_in d x) d) node-is
      (subst (λ l. MayClose (node_on row) l d) level-is (may-shut laws.shared c label past d row sound families calling.charged found caller row-is).closes)

  module _ (none : wait_refusal_in d x ≡ None) where
    none-held : held_by x past ≡ []
    none-held =
        let off : is_some (last_locked (held_by x old)) ≡ false =
        holding-is ∙ none-of-one (is_holding (held_by caller.id old)) Refusal.HoldsWait
        (sym (calls.refusal-is laws.caller x c label past d calling sound families Event.Wait) ∙ sym refuses ∙ none) in
        by (is_of x (quiet label)) (held_by x past) (subst (λ held. is_some (last_locked held) ≡ false) (quiet-held x label past) off)
      where
        by : (b : Bool) (held : List Hold) → is_some (last_locked (cond b (map aged held) held)) ≡ false → held ≡ []
        by b [] off = refl
        by true (h ∷ held) off = absurd (cc)
        by false (h ∷ held) off = absurd (cc)

    audited : Audited c new
    audited =
        calls.follows laws.caller x c label past d calling sound families Event.Wait (λ h. absurd (cc)) tt tt
        (λ last. let left : innermost_left c (held_by x past) ≡ 0 = ap (innermost_left c) none-held in absurd (omega (arith, last, left)))
        (sym refuses ∙ none)

    mine : is_of caller.id e ≡ true
    mine = subst (λ i. is_of i e ≡ true) (sym same-caller) (calls.own-of laws.caller x c label past d calling sound families)

    closed : IsClosedAlone e caller
    closed = inl (mine, refl)

    plain : IsPlain (Some Event.Wait)
    plain = record { makes = λ k p tick. refl; asks = refl; keeps = λ held. refl }

    -- whoever waits held nothing, and the others hold what they held
    held : (i : ThreadId) → held_by i new ≡ (if named (row ∷ []) i then [] else held_by i old)
    held i = go (is_same i row.id) refl ∙ sym (ap (λ b. if b then [] else held_by i old) (named-one row i))
      where
        none-old : held_by x old ≡ []
        none-old = quiet-held x label past ∙ by (is_of x (quiet label)) (held_by x past) none-held
          where
            by : (b : Bool) (hs : List _) → hs ≡ [] → cond b (map aged hs) hs ≡ []
            by true hs is = ap (map aged) is
            by false hs is = is

        go : (b : Bool) → is_same i row.id ≡ b → held_by i new ≡ (if is_same i row.id then [] else held_by i old)
        go true same = rw same (ap (λ k. held_by k old) (same-id i row.id same ∙ own.name) ∙ none-old)
        go false other = rw other refl

    shuts : Shuts c e past d (row ∷ [])
    shuts = one-shuts laws.shared laws.one c e past d row sound families calling.charged audited.1 found caller row-is closed plain held

    cells : AreCells c new (dropped_cells row.level (dropped_on (node_on row) d.jobs) d.demand)
    cells =
        let r = calling.charged.recount in
        let ruled = calling.charged.ruled in
        let gone = given_up c e past caller in
        subst (λ n. AreCells c new (dropped_cells row.level n d.demand))
        (sym (one-dropped laws.shared laws.one c e past d row sound families calling.charged audited.1 found caller row-is closed plain held))
        (subst (λ l. AreCells c new (dropped_cells l gone d.demand)) row-is.level
        (subst (λ b. AreCells c new (freed_cells c caller.level (if b then held_by caller.id old else []) (dropped_cells caller.level gone d.demand)))
        (quiet-stops caller.id label)
        ((laws.cells c e past ruled.checked ruled.accepted audited).closed d.demand caller (r.cells, r.tick) caller-among closed).0))

    wished : (k : ℕ) → k < length c.levels → AreCounted node_of c now new k (wishes_at (dropped (node_on row) d.slack.wishes) k)
    wished = (wishes-new laws.shared c e past d (row ∷ []) sound families calling.charged audited.1 shuts node_of (λ y h there. refl)).wishes

    done : IsBooked c e past (waited x d)
    done =
        let r = calling.charged.recount in
        subst (λ n. IsBooked c e past (job_closed n (level_in d x) d)) node-is
        (subst (λ l. IsBooked c e past (job_closed (node_on row) l d)) level-is
        (books c label (Some Event.Wait) past (λ p. refl) refl refl d calling.charged
        d.mutexes (dropped_cells row.level (dropped_on (node_on row) d.jobs) d.demand) (dropped (node_on row) d.slack.wishes) (closed_on (node_on row) d.jobs)
        r.tick
        (holders-as c label (Some Event.Wait) past (λ p. refl) refl d.mutexes (λ y. refl) r.holders)
        (levels-as c label (Some Event.Wait) past (λ p. refl) refl refl d calling.charged d.mutexes r.own_levels)
        cells
        (length-map d.slack.wishes (filter (λ w. not (is_wish_of (node_on row) w))) ∙ r.wishes.levels)
        wished
        r.jobs.switch
        (seats-new laws.shared c e past d (row ∷ []) sound families calling.charged audited.1 shuts node_of (λ y h there. refl))
        (ready-new laws.shared c e past d (row ∷ []) sound families calling.charged audited.1 shuts node_of (λ y h there. refl))))

  pub waits : CallIsRight x Event.Wait (wait_refusal_in d x) (MayWait x d) (waited x d) c label past d
  waits = record { refuses = refuses; may = λ none. may; done = done }
