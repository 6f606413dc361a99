-- From stage to stage of a tick.
use Rattle.dk_dispatch.proofs.Names.{ℕ, ◌≡◌, ◌∙◌, inl, inr, List, ◌∷◌, length, map, ap, sym, subst, arith, length-map, LevelRow, Clock, Configuration, MAX_TICKS, ThreadId, Label, Event, Entry, quiet, Audited, HasChosenLabel, Table, Tables, IsReady, IsCharged, IsBooked, IsClosed, IsUntold, moved, stopped, Note, noted, Past, Closed, Ready, choice_at, closed, entries_after, with_entry, Dispatched, Stands, StandsAt, dispatched, IsEnding, IsShut, IsWhole}
use Rattle.std.specs.Prelude.{◌<◌, ◌≤◌, ◌+◌, ◌*◌, Option}
use Rattle.dk_recount.specs.Events.{entry_of}
use Rattle.dk_past.specs.Past.{charged, opened}
use Rattle.dk_dispatch.proofs.Counting.{kernel-length}

-- between two ticks
module _ (p : Past) (d : Tables) (v : Dispatched) (is : dispatched p d ≡ v) (ready : v.past.tick ≡ Ready) (stands : Stands p d) where
  pub is-ready : IsReady p.config p.entries d
  is-ready =
      subst (λ tick. StandsAt tick p.config p.entries d) (subst (λ (w : Dispatched). w.past.tick ≡ Ready) (sym is) ready) stands

  pub ready-levels : length d.kernel ≡ length v.past.config.levels
  ready-levels =
      kernel-length p.config (length p.entries) p.entries d is-ready.recount
      ∙ ap (λ (w : Dispatched). length w.past.config.levels) is

  -- what holds of the rows and of what the tables are the recount of holds of what contracts see
  pub at-ready : (P : Configuration → List Entry → Table → Type 0) → (IsReady p.config p.entries d → P p.config p.entries d.threads)
      → P v.past.config v.past.entries v.threads
  at-ready P f = subst (λ (w : Dispatched). P w.past.config w.past.entries w.threads) is (f is-ready)

  -- the charge
  pub stands-charged : (p' : Past) (d' : Tables) → p' ≡ charged p → ((label : Label) → HasChosenLabel (choice_at p) label → IsCharged p.config label p.entries d') → Stands p' d'
  stands-charged p' d' next books = subst (λ (q : Past). Stands q d') (sym next) books

-- the close
module _ (p : Past) (d : Tables) (v : Dispatched) (is : dispatched p d ≡ v) (e : Entry) (whole : IsWhole e v.past) (stands : Stands p d)
    (untold : (c : Configuration) (label : Label) (past : List Entry) (event : Option Event) (d : Tables)
    → IsUntold event → IsCharged c label past d → IsBooked c (entry_of label event) past d) where
  is-whole : IsWhole e p
  is-whole = subst (λ (w : Dispatched). IsWhole e w.past) (sym is) whole

  pub is-booked : IsBooked p.config e p.entries d
  is-booked =
      elim is-whole.told [
        | inl tick ↦ subst (λ t. StandsAt t p.config p.entries d) tick stands is-whole.follows
        | inr quiet_tick ↦
            untold p.config e.label p.entries e.event d quiet_tick.1
            (subst (λ t. StandsAt t p.config p.entries d) quiet_tick.0 stands e.label is-whole.follows.choice)
      ]

  pub below-most : length v.past.entries < MAX_TICKS → d.demand.windows.tick < MAX_TICKS
  below-most room =
      subst (λ (n : ℕ). n < MAX_TICKS) (sym (is-booked.recount.tick ∙ ap (λ (w : Dispatched). length w.past.entries) is)) room

  pub stands-closed : (p' : Past) (d' : Tables) → p' ≡ closed e p → (IsBooked p.config e p.entries d → IsClosed p.config e p.entries d') → Stands p' d'
  stands-closed p' d' next moves =
      subst (λ (q : Past). Stands q d') (sym next) (moves is-booked, (is-booked.ruled.audited, is-whole.follows))

-- the opening
module _ (p : Past) (d : Tables) (v : Dispatched) (is : dispatched p d ≡ v) (shut : IsShut v.past) (stands : Stands p d) where
  at-tick : p.tick ≡ Closed shut.entry
  at-tick = subst (λ (w : Dispatched). w.past.tick ≡ Closed shut.entry) (sym is) shut.closed

  pub is-closed : IsClosed p.config shut.entry p.entries d × Audited p.config (shut.entry ∷ p.entries)
  is-closed = subst (λ t. StandsAt t p.config p.entries d) at-tick stands

  pub some-periods : 0 < length d.demand.windows.periods
  some-periods =
      let levels = p.config.levels in
      let same : length d.demand.windows.periods ≡ length (map (λ (row : LevelRow). row.period) levels) = ap (λ (w : Clock). length w.periods) is-closed.0.recount.cells.windows in
      let long : length (map (λ (row : LevelRow). row.period) levels) ≡ length levels = length-map levels (λ (row : LevelRow). row.period) in
      let some = is-closed.0.ruled.limits.some_levels in
      omega (arith, same, long, some)

  pub stands-opened : (p' : Past) (d' : Tables) → p' ≡ opened p → IsReady p.config (shut.entry ∷ p.entries) d' → Stands p' d'
  stands-opened p' d' next now =
      subst (λ (q : Past). Stands q d') (sym next) (subst (λ t. IsReady p.config (entries_after t p.entries) d') (sym at-tick) now)

  pub opened-steps : (before after : ℕ) (n : ℕ) → after ≤ before + 3 + n → n ≤ 3 * length p.config.levels + 2 * moved p.config (shut.entry ∷ p.entries)
      → (p' : Past) → p' ≡ opened p → after ≤ before + 3 + 3 * length p'.config.levels + 2 * moved p'.config p'.entries
  opened-steps before after n first second p' next =
      let few : after ≤ before + 3 + 3 * length p.config.levels + 2 * moved p.config (shut.entry ∷ p.entries) = omega (arith, first, second) in
      subst (λ (q : Past). after ≤ before + 3 + 3 * length q.config.levels + 2 * moved q.config q.entries) (sym next)
      (subst (λ t. after ≤ before + 3 + 3 * length p.config.levels + 2 * moved p.config (entries_after t p.entries)) (sym at-tick) few)

-- the stop
module _ (x : ThreadId) (p : Past) (d : Tables) (v : Dispatched) (is : dispatched p d ≡ v) (e : Entry) (ending : IsEnding x e v.past)
    (stands : Stands p d) where
  pub is-ending : IsEnding x e p
  is-ending = subst (λ (w : Dispatched). IsEnding x e w.past) (sym is) ending

  pub is-charged : IsCharged p.config e.label p.entries d
  is-charged = subst (λ t. StandsAt t p.config p.entries d) is-ending.charged stands e.label is-ending.follows.choice

  pub ends-as : (note : Note) → noted v.past note ≡ with_entry e v.past → noted p note ≡ with_entry e p
  ends-as note next = subst (λ (w : Dispatched). noted w.past note ≡ with_entry e w.past) (sym is) next

  pub stands-stopped : (p' : Past) (d' : Tables) → p' ≡ with_entry e p → IsBooked p.config e p.entries d' → Stands p' d'
  stands-stopped p' d' next booked = subst (λ (q : Past). Stands q d') (sym next) (λ follows. booked)

  pub stop-steps : (before after : ℕ) → after ≤ before + (length d.kernel + 6) * (stopped p.config (e ∷ p.entries) + 1)
      → after ≤ before + (length v.past.config.levels + 6) * (stopped v.past.config (e ∷ v.past.entries) + 1)
  stop-steps before after few =
      subst (λ (w : Dispatched). after ≤ before + (length w.past.config.levels + 6) * (stopped w.past.config (e ∷ w.past.entries) + 1)) is
      (subst (λ (n : ℕ). after ≤ before + (n + 6) * (stopped p.config (e ∷ p.entries) + 1))
      (kernel-length p.config (length p.entries) (quiet e.label ∷ p.entries) d is-charged.recount) few)
