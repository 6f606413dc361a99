-- A lock and an unlock of the tables are those of the past.
use Rattle.dk_recount.proofs.Names.{◌≡◌, ◌<◌, ◌≤◌, ◌+◌, ◌-◌, ◌∙◌, ◌⊎◌, ◌||◌, ◌&&◌, inl, inr, Bool, true, false, cond, eqb, leb, ltb, ℕ, zero, suc, List, [], ◌∷◌, length, map, set, get_or, Option, Some, None, refl, ap, sym, subst, arith, slice_get, slice_index, not, option_map_or, not-false, nat_tests, MAX_PROCESSES, MAX_SPAN, Configuration, ceiling, longest_hold, is_user, user-mutex, at_index, ThreadId, Label, Event, Refusal, Entry, Has, is_of, quiet, Thread, threads, thread_body_left, Hold, aged, given_back, held_by, past_left, is_held, is_holding, innermost_left, is_past_innermost, level_holding, least_ceiling, past_level, blocking, past_lock_refusal, past_unlock_refusal, Audited, same-id, filter-has, aged-held, ceiling-most, has-aged, innermost-aged, between-given, between-is, ceiling-given, quiet-held, quiet-stops, none-of-three, none-of-two, AreFamilies, Holder, Lockable, hold_of, is_free, hold_left, given_to, effective_level, unlock_refusal, HasLevels, HoldersFit, LastIsLeast, AreHolders, level-aged, nested-quiet, between, adjusted, AreCells, Tables, IsSound, IsBooked, level_in, IsCalling, CallIsRight, MayLock, MayUnlock, body_in, runs_at, lock_refusal_in, rows_locked, locked, unlock_refusal_in, rows_unlocked, unlocked, refusal_of, with_event, HoldLaws}
use Rattle.dk_recount.proofs.Cells.{by-same}
use Rattle.dk_recount.proofs.Call.Booking.{books, seats-as, queues-as, wishes-as}
use Rattle.dk_recount.proofs.Holding.{last-least}
use Rattle.dk_recount.proofs.Call.Caller as calls

-- a row of a changed table is the new one or an old one
set-at : (xs : List Lockable) (m : ℕ) (r : Lockable) (k : ℕ) (row : Lockable) → slice_get (set xs m r) k ≡ Some row → (row ≡ r) ⊎ (slice_get xs k ≡ Some row)
set-at [] m r k row at = inr at
set-at (x ∷ xs) zero r zero row at = inl (cc)
set-at (x ∷ xs) zero r (suc k) row at = inr at
set-at (x ∷ xs) (suc m) r zero row at = inr at
set-at (x ∷ xs) (suc m) r (suc k) row at = set-at xs m r k row at

given-at : (o : Option Holder) (m : ℕ) (rows : List Lockable) (k : ℕ) (row : Lockable) → slice_get (given_to o m rows) k ≡ Some row → (row.holder ≡ o) ⊎ (slice_get rows k ≡ Some row)
given-at o m rows k row at = go (slice_get rows m) at
  where
    go : (q : Option Lockable) → slice_get (option_map_or (λ (r : Lockable). set rows m (record r { holder = o })) q rows) k ≡ Some row → (row.holder ≡ o) ⊎ (slice_get rows k ≡ Some row)
    go None h = inr h
    go (Some r) h = elim (set-at rows m (record r { holder = o }) k row h) [ inl is ↦ inl (ap (λ (z : Lockable). z.holder) is) | inr was ↦ inr was ]

module _ (laws : HoldLaws) (x : ThreadId) (c : Configuration) (label : Label) (past : List Entry) (d : Tables) (calling : IsCalling x c label past d) (sound : IsSound d) (families : AreFamilies d.threads.levels d.threads.families) where
  abbrev now : ℕ
  now = length past

  abbrev old : List Entry
  old = quiet label ∷ past

  abbrev caller : Thread
  caller = (calls.caller laws.caller x c label past d calling sound families).row

  same-caller : caller.id ≡ x
  same-caller = (calls.caller laws.caller x c label past d calling sound families).id

  caller-among : Has (threads c past) caller
  caller-among = (calls.caller laws.caller x c label past d calling sound families).among

  abbrev held : List Hold
  held = held_by x old

  last-held : LastIsLeast c held
  last-held = let ruled = calling.charged.ruled in last-least c 0 held (nested-quiet c x label past (laws.nest c past ruled.checked ruled.accepted ruled.audited x))

  abbrev holders : AreHolders c old d.mutexes
  holders = calling.charged.recount.holders

  caller-held : held_by caller.id old ≡ held
  caller-held = ap (λ i. held_by i old) same-caller

  old-held : held ≡ map aged (held_by x past)
  old-held = quiet-held x label past ∙ ap (λ b. cond b (map aged (held_by x past)) (held_by x past)) (calls.own-of laws.caller x c label past d calling sound families)

  body-is : body_in d x ≡ thread_body_left c now old caller
  body-is = grind (arith, nat_tests, calls.own-seat laws.caller x c label past d calling sound families)

  process-low : x.process < MAX_PROCESSES
  process-low = grind (arith, nat_tests, same-caller, caller-among)

  -- what the level tells
  holding-old : (y : ThreadId) → is_holding (held_by y old) ≡ true → is_holding (held_by y past) ≡ true
  holding-old y holds = by (is_of y (quiet label)) (held_by y past) (subst (λ h. is_holding h ≡ true) (quiet-held y label past) holds)
    where
      by : (b : Bool) (h : List Hold) → is_holding (cond b (map aged h) h) ≡ true → is_holding h ≡ true
      by b [] holds = by-none b holds
        where
          by-none : (b : Bool) → is_holding (cond b [] []) ≡ true → is_holding [] ≡ true
          by-none true holds = holds
          by-none false holds = holds
      by b (h ∷ hs) holds = refl

  level-old : (y : Thread) → past_level c old y ≡ past_level c past y
  level-old y = ap (level_holding c y.level) (quiet-held y.id label past) ∙ by (is_of y.id (quiet label))
    where
      by : (b : Bool) → level_holding c y.level (cond b (map aged (held_by y.id past)) (held_by y.id past)) ≡ past_level c past y
      by true = level-aged c y.level (held_by y.id past)
      by false = refl

  old-mutex : (y : ThreadId) (h : Hold) → Has (held_by y old) h → h.mutex < length c.mutexes
  old-mutex y h has =
      let ruled = calling.charged.ruled in
      let r = by (is_of y (quiet label)) (subst (λ hs. Has hs h) (quiet-held y label past) has) in
      let holder = laws.known c past ruled.checked ruled.accepted ruled.audited y (some-held (held_by y past) r.0 r.1) in
      let k = user-mutex c r.0.mutex y.process (holder.users r.0 r.1) in
      omega (arith, k, r.2)
    where
      some-held : (hs : List Hold) (k : Hold) → Has hs k → is_holding hs ≡ true
      some-held [] k has = absurd has
      some-held (z ∷ hs) k has = refl

      by : (b : Bool) → Has (cond b (map aged (held_by y past)) (held_by y past)) h → (k : Hold) × Has (held_by y past) k × (k.mutex ≡ h.mutex)
      by true has = let r = has-aged (held_by y past) h has in (r.0, r.1, ap (λ (z : Hold). z.mutex) r.2)
      by false has = (h, has, refl)

  fit-old : HoldersFit c old
  fit-old =
      let ruled = calling.charged.ruled in
      record {
        mutexes = old-mutex;
        known = λ y holds.
            let holder = laws.known c past ruled.checked ruled.accepted ruled.audited y (holding-old y holds) in
            (holder.thread, calls.has-now laws.caller x c label past d calling sound families holder.thread holder.among, holder.name);
        apart = λ y z hy hz one two same.
            laws.differ c past ruled.checked ruled.accepted ruled.audited y z
            (calls.has-before laws.caller x c label past d calling sound families y hy) (calls.has-before laws.caller x c label past d calling sound families z hz)
            (holding-old y.id one) (holding-old z.id two) (sym (level-old y) ∙ same ∙ level-old z);
      }

  runs-by : (rows : List Lockable) → runs_at d rows x ≡ effective_level caller.id caller.level rows
  runs-by rows = grind (arith, nat_tests, same-caller, calls.own-level laws.caller x c label past d calling sound families)

  runs-old : runs_at d d.mutexes x ≡ level_holding c caller.level held
  runs-old = runs-by d.mutexes ∙ laws.level c old d.mutexes caller holders fit-old ∙ ap (level_holding c caller.level) caller-held

  level-low : (hs : List Hold) → ((h : Hold) → Has hs h → h.mutex < length c.mutexes) → level_holding c caller.level hs < length c.levels
  level-low [] known = (calls.placed laws.caller x c label past d calling sound families caller caller-among).level
  level-low (h ∷ hs) known =
      let low = ceiling-most c (ceiling c h.mutex) hs in
      let there = calling.charged.ruled.limits.ceilings h.mutex (known h (inl refl)) in
      omega (arith, low, there)

  -- what blocking is
  cell-is : (j : ℕ) → j < length c.levels → slice_index d.demand.blocking j ≡ blocking c old j
  cell-is j known = ap (λ ms. get_or ms j 0) calling.charged.recount.cells.blocking ∙ at_index (blocking c old) (length c.levels) j 0 known

  blocking-low : (j : ℕ) → j < length c.levels → blocking c old j ≤ MAX_SPAN
  blocking-low j known =
      let ruled = calling.charged.ruled in
      let fall = laws.tick c label past ruled.checked ruled.accepted ruled.audited calling.charged.chose caller j caller-among (calling.caller ∙ ap Some (sym same-caller)) in
      let most = laws.most c past ruled.checked ruled.accepted ruled.audited j known in
      let fits = ruled.accepted j known in
      let period' = ruled.limits.periods j in
      omega (arith, fall, most, fits, period')

  -- after an event that is no stop
  module _ (event : Event) (audited : Audited c (with_event label event ∷ past)) (same : threads c (with_event label event ∷ past) ≡ threads c old) where
    abbrev new : List Entry
    new = with_event label event ∷ past

    fit-new : HoldersFit c new
    fit-new =
        let ruled = calling.charged.ruled in
        record {
          mutexes = λ y h has.
              let holder = laws.known c new ruled.checked ruled.accepted audited y (some-held (held_by y new) h has) in
              user-mutex c h.mutex y.process (holder.users h has);
          known = λ y holds. let holder = laws.known c new ruled.checked ruled.accepted audited y holds in (holder.thread, holder.among, holder.name);
          apart = laws.differ c new ruled.checked ruled.accepted audited;
        }
      where
        some-held : (hs : List Hold) (k : Hold) → Has hs k → is_holding hs ≡ true
        some-held [] k has = absurd has
        some-held (z ∷ hs) k has = refl

    runs-new : (rows : List Lockable) → AreHolders c new rows → runs_at d rows x ≡ level_holding c caller.level (held_by x new)
    runs-new rows holders' = grind (arith, nat_tests, runs-by, fit-new, same-caller, laws.level c new rows caller holders' fit-new)

    left-new : (rows : List Lockable) → AreHolders c new rows → hold_left x rows ≡ innermost_left c (held_by x new)
    left-new rows holders' =
        let ruled = calling.charged.ruled in
        laws.left c new rows x holders' (last-least c 1 (held_by x new) (laws.nest c new ruled.checked ruled.accepted audited x))

  left-old : hold_left x d.mutexes ≡ innermost_left c held
  left-old = laws.left c old d.mutexes x holders last-held

  -- the given rows tell the level of each of their holders
  given-levels : (o : Option Holder) (m : ℕ) (event : Event) → threads c (with_event label event ∷ past) ≡ threads c old
      → ((h : Holder) → o ≡ Some h → (h.thread ≡ x) × (h.level ≡ level_in d x)) → HasLevels c (with_event label event ∷ past) (given_to o m d.mutexes)
  given-levels o m event same told k row h y at holds among is =
      let among-old : Has (threads c old) y = subst (λ ys. Has ys y) same among in
      elim (given-at o m d.mutexes k row at) [
        | inl new ↦
            let t = told h (sym new ∙ holds) in
            let ruled = calling.charged.ruled in
            let named : y.id ≡ caller.id = same-id y.id h.thread is ∙ t.0 ∙ sym same-caller in
            let y-is : y ≡ caller =
            (laws.caller.named c past ruled.checked ruled.accepted ruled.audited).distinct y caller (calls.has-before laws.caller x c label past d calling sound families y among-old) caller-among named in
            t.1 ∙ calls.own-level laws.caller x c label past d calling sound families ∙ ap (λ (z : Thread). z.level) (sym y-is)
        | inr was ↦ calling.charged.recount.own_levels k row h y was holds among-old is
      ]

  module _ (m : ℕ) where
    -- Lock.

    lock-refuses : lock_refusal_in d x m ≡ refusal_of c label past x (Event.Lock m)
    lock-refuses = grind (arith, nat_tests, body-is, same-caller, caller-held, last-held, process-low, calls.refusal-is laws.caller x c label past d calling sound families (Event.Lock m))

    module _ (none : lock_refusal_in d x m ≡ None) where
      unrefused : past_lock_refusal c now old caller m ≡ None
      unrefused = sym (calls.refusal-is laws.caller x c label past d calling sound families (Event.Lock m)) ∙ sym lock-refuses ∙ none

      reasons : (not (is_user c m caller.id.process) ≡ false) × (is_held m (held_by caller.id old) ≡ false)
          × ((ltb (thread_body_left c now old caller) (longest_hold c m) || (is_holding (held_by caller.id old) && leb (innermost_left c (held_by caller.id old)) (longest_hold c m))) ≡ false)
      reasons = none-of-three _ _ _ Refusal.NotUser Refusal.Holding Refusal.TooLittle unrefused

      mutex-there : m < length c.mutexes
      mutex-there = user-mutex c m caller.id.process (not-false (is_user c m caller.id.process) reasons.0)

      pub nobody-past : (y : ThreadId) → is_held m (held_by y past) ≡ false
      nobody-past =
          let ruled = calling.charged.ruled in
          laws.free c past ruled.checked ruled.accepted ruled.audited (quiet label) x caller m calling.charged.chose calling.caller
          (calls.caller laws.caller x c label past d calling sound families).found unrefused

      nobody : (y : ThreadId) → is_held m (held_by y old) ≡ false
      nobody y = ap (is_held m) (quiet-held y label past) ∙ by (is_of y (quiet label))
        where
          by : (b : Bool) → is_held m (cond b (map aged (held_by y past)) (held_by y past)) ≡ false
          by true = aged-held m (held_by y past) ∙ nobody-past y
          by false = nobody-past y

      free : is_free m d.mutexes ≡ true
      free = laws.nobody c old d.mutexes m holders nobody

      lock-audited : Audited c (with_event label (Event.Lock m) ∷ past)
      lock-audited =
          calls.follows laws.caller x c label past d calling sound families (Event.Lock m) (λ h. absurd (cc)) tt tt
          (λ last. absurd (never (held_by x past) last (ap (λ hs. is_holding hs && leb (innermost_left c hs) (longest_hold c m)) (sym (caller-held ∙ old-held)) ∙ third)))
          (sym lock-refuses ∙ none)
        where
          right-false : (a b : Bool) → (a || b) ≡ false → b ≡ false
          right-false true b h = absurd (cc)
          right-false false b h = h

          third : (is_holding (held_by caller.id old) && leb (innermost_left c (held_by caller.id old)) (longest_hold c m)) ≡ false
          third = right-false (ltb (thread_body_left c now old caller) (longest_hold c m)) _ reasons.2

          never : (hs : List Hold) → innermost_left c hs ≡ 1 → (is_holding (map aged hs) && leb (innermost_left c (map aged hs)) (longest_hold c m)) ≡ false → ⊥
          never [] last off = omega (arith, last)
          never (h ∷ hs) last off =
              let fall : past_left c (aged h) ≡ past_left c h - 1 = omega arith in
              let zero-left : past_left c (aged h) ≡ 0 = omega (arith, fall, last) in
              let test : leb (past_left c (aged h)) (longest_hold c m) ≡ true = low (past_left c (aged h)) (longest_hold c m) zero-left in
              let clash : true ≡ false = sym test ∙ off in
              absurd (cc)
            where
              low : (n k : ℕ) → n ≡ 0 → leb n k ≡ true
              low n k e = grind (arith, nat_tests)

      abbrev lock-new : List Entry
      lock-new = with_event label (Event.Lock m) ∷ past

      lock-holders : AreHolders c lock-new (rows_locked x m d)
      lock-holders = grind (arith, nat_tests, mutex-there, free, laws.locks c past d.mutexes x (level_in d x) m (with_event label (Event.Lock m)) holders (calls.own-of laws.caller x c label past d calling sound families) refl mutex-there free, calls.own-of laws.caller x c label past d calling sound families)

      lock-held : held_by x lock-new ≡ record { mutex = m; ticks = 0 } ∷ given_back m held
      lock-held = grind (arith, nat_tests, quiet-stops, old-held)

      lock-left : hold_left x (rows_locked x m d) ≡ longest_hold c m
      lock-left =
          let e : longest_hold c m - 0 ≡ longest_hold c m = omega arith in
          left-new (Event.Lock m) lock-audited refl (rows_locked x m d) lock-holders ∙ ap (innermost_left c) lock-held ∙ e

      lock-runs : runs_at d (rows_locked x m d) x ≡ least_ceiling c (ceiling c m) held
      lock-runs =
          runs-new (Event.Lock m) lock-audited refl (rows_locked x m d) lock-holders
          ∙ ap (level_holding c caller.level) lock-held
          ∙ ceiling-given c m held

      lock-may : MayLock x m d
      lock-may =
          let low = level-low held (λ h has. old-mutex x h has) in
          let is = runs-old in
          let many = calls.levels-are laws.caller x c label past d calling sound families in
          record {
            free = free;
            level = omega (arith, low, is, many);
            room = grind (arith, nat_tests, cell-is, blocking-low, lock-left);
          }

      lock-tests : (j : ℕ) → (leb (runs_at d (rows_locked x m d) x) j && ltb j (runs_at d d.mutexes x)) ≡ (leb (ceiling c m) j && ltb j (past_level c old caller))
      lock-tests j = grind (arith, nat_tests, lock-runs, runs-old, between-is, caller-held)

      lock-cells : AreCells c lock-new (locked x m d).demand
      lock-cells =
          let ruled = calling.charged.ruled in
          let r = calling.charged.recount in
          let left = hold_left x (rows_locked x m d) in
          subst (λ ns. AreCells c lock-new (record d.demand { blocking = ns }))
          (by-same (between (ceiling c m) (past_level c old caller) (adjusted 0 (longest_hold c m)))
          (between (runs_at d (rows_locked x m d) x) (runs_at d d.mutexes x) (adjusted 0 left)) d.demand.blocking
          (λ j n h.
          ap (λ l. cond (leb (ceiling c m) j && ltb j (past_level c old caller)) (adjusted 0 l n) n) (sym lock-left)
          ∙ ap (λ b. cond b (adjusted 0 left n) n) (sym (lock-tests j))))
          ((laws.cells c (with_event label (Event.Lock m)) past ruled.checked ruled.accepted lock-audited).lock d.demand caller m (r.cells, r.tick) caller-among
          (subst (λ i. is_of i (with_event label (Event.Lock m)) ≡ true) (sym same-caller) (calls.own-of laws.caller x c label past d calling sound families)) refl).0

      lock-done : IsBooked c (with_event label (Event.Lock m)) past (locked x m d)
      lock-done =
          let r = calling.charged.recount in
          books c label (Some (Event.Lock m)) past (λ p. refl) refl refl d calling.charged
          (rows_locked x m d) (locked x m d).demand d.slack.wishes d.jobs
          r.tick
          lock-holders
          (given-levels (Some (record { thread = x; level = level_in d x; left = hold_of d.mutexes m })) m (Event.Lock m) refl
          (λ h is. let e : record { thread = x; level = level_in d x; left = hold_of d.mutexes m } ≡ h = cc in (ap (λ (z : Holder). z.thread) (sym e), ap (λ (z : Holder). z.level) (sym e))))
          lock-cells
          r.wishes.levels
          (wishes-as c label (Some (Event.Lock m)) past (λ p. refl) refl refl d calling.charged (λ y es. refl) (λ y es. refl))
          r.jobs.switch
          (seats-as c label (Some (Event.Lock m)) past (λ p. refl) refl refl d calling.charged (λ y es. refl))
          (queues-as c label (Some (Event.Lock m)) past (λ p. refl) refl refl d calling.charged (λ y es. refl))

    pub locking : CallIsRight x (Event.Lock m) (lock_refusal_in d x m) (MayLock x m d) (locked x m d) c label past d
    locking = record { refuses = lock-refuses; may = lock-may; done = lock-done }

    -- Unlock.

    unlock-past : unlock_refusal_in d x m ≡ past_unlock_refusal old caller m
    unlock-past =
        ap (λ i. unlock_refusal i m d.mutexes) (sym same-caller)
        ∙ laws.unlock_refusals c old d.mutexes caller m holders (subst (λ hs. LastIsLeast c hs) (sym caller-held) last-held)

    unlock-refuses : unlock_refusal_in d x m ≡ refusal_of c label past x (Event.Unlock m)
    unlock-refuses = unlock-past ∙ sym (calls.refusal-is laws.caller x c label past d calling sound families (Event.Unlock m))

    module _ (none : unlock_refusal_in d x m ≡ None) where
      unlock-reasons : (not (is_held m held) ≡ false) × (not (is_past_innermost m held) ≡ false)
      unlock-reasons = grind (arith, nat_tests, none-of-two, caller-held, unlock-past)

      inner : is_past_innermost m held ≡ true
      inner = not-false (is_past_innermost m held) unlock-reasons.1

      unlock-audited : Audited c (with_event label (Event.Unlock m) ∷ past)
      unlock-audited =
          calls.follows laws.caller x c label past d calling sound families (Event.Unlock m) (λ h. absurd (cc)) tt tt
          (λ last. sym (innermost-aged m (held_by x past)) ∙ ap (is_past_innermost m) (sym old-held) ∙ inner)
          (sym unlock-refuses ∙ none)

      abbrev unlock-new : List Entry
      unlock-new = with_event label (Event.Unlock m) ∷ past

      unlock-holders : AreHolders c unlock-new (rows_unlocked m d)
      unlock-holders =
          laws.unlocks c past d.mutexes x m (with_event label (Event.Unlock m)) holders
          (calls.own-of laws.caller x c label past d calling sound families) refl
          (laws.held c old d.mutexes x m holders ∙ not-false (is_held m held) unlock-reasons.0)

      unlock-held : held_by x unlock-new ≡ given_back m held
      unlock-held = grind (arith, nat_tests, quiet-stops, old-held)

      unlock-runs : runs_at d (rows_unlocked m d) x ≡ level_holding c caller.level (given_back m held)
      unlock-runs =
          runs-new (Event.Unlock m) unlock-audited refl (rows_unlocked m d) unlock-holders ∙ ap (level_holding c caller.level) unlock-held

      unlock-low : level_holding c caller.level (given_back m held) < length c.levels
      unlock-low = level-low (given_back m held) (λ h has. old-mutex x h (filter-has (λ (k : Hold). not (eqb k.mutex m)) held h has).0)

      unlock-after : held_by caller.id unlock-new ≡ given_back m held
      unlock-after = ap (λ i. held_by i unlock-new) same-caller ∙ unlock-held

      unlock-left : hold_left x d.mutexes ≡ innermost_left c (held_by caller.id old)
      unlock-left = left-old ∙ ap (innermost_left c) (sym caller-held)

      unlock-mine : is_of caller.id (with_event label (Event.Unlock m)) ≡ true
      unlock-mine = grind (arith, nat_tests, same-caller)

      unlock-law : (j : ℕ) → blocking c unlock-new j + cond (leb (ceiling c m) j && ltb j (level_holding c caller.level (given_back m held))) (hold_left x d.mutexes) 0 ≡ blocking c old j
      unlock-law j = grind (arith, nat_tests, unlock-left, unlock-after, unlock-audited, caller-among, unlock-mine)

      unlock-tests : (j : ℕ) → (leb (runs_at d d.mutexes x) j && ltb j (runs_at d (rows_unlocked m d) x)) ≡ (leb (ceiling c m) j && ltb j (level_holding c caller.level (given_back m held)))
      unlock-tests j = grind (arith, nat_tests, runs-old, unlock-runs, between-given, inner)

      unlock-may : MayUnlock x m d
      unlock-may =
          let low' = unlock-low in
          let is = unlock-runs in
          let many = calls.levels-are laws.caller x c label past d calling sound families in
          record {
            level = omega (arith, low', is, many);
            low = λ j from to.
                let known : j < length c.levels = omega (arith, low', is, to) in
                let cell = cell-is j known in
                let law = subst (λ b. blocking c unlock-new j + cond b (hold_left x d.mutexes) 0 ≡ blocking c old j) (sym (unlock-tests j) ∙ both (runs_at d d.mutexes x) (runs_at d (rows_unlocked m d) x) j from to) (unlock-law j) in
                omega (arith, cell, law);
            high = grind (arith, nat_tests, cell-is, blocking-low);
          }
        where
          both : (a b j : ℕ) → a ≤ j → j < b → (leb a j && ltb j b) ≡ true
          both a b j from to = grind (arith, nat_tests)

      unlock-cells : AreCells c unlock-new (unlocked x m d).demand
      unlock-cells =
          let ruled = calling.charged.ruled in
          let r = calling.charged.recount in
          let left = hold_left x d.mutexes in
          subst (λ ns. AreCells c unlock-new (record d.demand { blocking = ns }))
          (by-same (between (ceiling c m) (past_level c unlock-new caller) (adjusted (innermost_left c (held_by caller.id old)) 0))
          (between (runs_at d d.mutexes x) (runs_at d (rows_unlocked m d) x) (adjusted left 0)) d.demand.blocking
          (λ j n h.
          ap (λ l. cond (leb (ceiling c m) j && ltb j (past_level c unlock-new caller)) (adjusted l 0 n) n) (sym unlock-left)
          ∙ ap (λ hs. cond (leb (ceiling c m) j && ltb j (level_holding c caller.level hs)) (adjusted left 0 n) n) unlock-after
          ∙ ap (λ b. cond b (adjusted left 0 n) n) (sym (unlock-tests j))))
          ((laws.cells c (with_event label (Event.Unlock m)) past ruled.checked ruled.accepted unlock-audited).unlock d.demand caller m (r.cells, r.tick) caller-among
          unlock-mine refl).0

      unlock-done : IsBooked c (with_event label (Event.Unlock m)) past (unlocked x m d)
      unlock-done =
          let r = calling.charged.recount in
          books c label (Some (Event.Unlock m)) past (λ p. refl) refl refl d calling.charged
          (rows_unlocked m d) (unlocked x m d).demand d.slack.wishes d.jobs
          r.tick
          unlock-holders
          (given-levels None m (Event.Unlock m) refl (λ h is. absurd (cc)))
          unlock-cells
          r.wishes.levels
          (wishes-as c label (Some (Event.Unlock m)) past (λ p. refl) refl refl d calling.charged (λ y es. refl) (λ y es. refl))
          r.jobs.switch
          (seats-as c label (Some (Event.Unlock m)) past (λ p. refl) refl refl d calling.charged (λ y es. refl))
          (queues-as c label (Some (Event.Unlock m)) past (λ p. refl) refl refl d calling.charged (λ y es. refl))

    pub unlocking : CallIsRight x (Event.Unlock m) (unlock_refusal_in d x m) (MayUnlock x m d) (unlocked x m d) c label past d
    unlocking = record { refuses = unlock-refuses; may = unlock-may; done = unlock-done }
