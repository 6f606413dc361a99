-- Ticks that all go to one choice, one after the other.
use Rattle.dk_dispatch.proofs.Names.{ℕ, zero, suc, ◌≡◌, ◌∙◌, ◌+◌, ◌<◌, ◌≤◌, ◌++◌, inl, inr, List, length, map, Some, ap, sym, subst, arith, length-append, replicate, cases_lt, length-map, length-replicate, Configuration, LevelRow, MAX_TICKS, ThreadId, Work, Choice, Entry, quiet, thread_of, held_by, innermost_left, chosen, label_of, quiet-follows, Clock, HasFamilies, Tables, IsReady, choice_of, HasRoomFor, IsPassed, Passes, Past, Ready, later, Dispatched, Stands, StandsAt, dispatched, Goes}
use Rattle.dk_dispatch.proofs.Ticking.{is-ready}

module _ (choice : Choice) (c : Configuration) (past : List Entry) (d : Tables) (stands : IsReady c past d) where
  abbrev after : ℕ → List Entry
  after n = replicate n (quiet (label_of choice Work.Run)) ++ past

  -- so many ticks later
  pub record Gone (n : ℕ) (last : Tables) : Type 0 where
    pub ready : IsReady c (after n) last
    pub rows : last.threads ≡ d.threads
    pub chosen : (i : ℕ) → i < n → choice ≡ chosen c (after i)
    pub free : (i : ℕ) (x : ThreadId) → i < n → thread_of (label_of choice Work.Run) ≡ Some x → innermost_left c (held_by x (after i)) ≡ 0

  below : (n : ℕ) → length past + suc n ≤ MAX_TICKS → length (after n) < MAX_TICKS
  below n room =
      let all = length-append {A = Entry} (replicate n (quiet (label_of choice Work.Run))) past in
      let count = length-replicate {A = Entry} n (quiet (label_of choice Work.Run)) in
      omega (arith, all, count, room)

  pub gone : (n : ℕ) (last : Tables) → Passes choice n d last → length past + n ≤ MAX_TICKS → Gone n last
  gone zero last same room = record {
    ready = subst (λ (t : Tables). IsReady c past t) same stands;
    rows = ap (λ (t : Tables). t.threads) (sym same);
    chosen = λ i never. absurd (omega (arith, never));
    free = λ i x never own. absurd (omega (arith, never));
  }
  gone (suc n) last passes room =
      let before = gone n passes.0 passes.1 (omega (arith, room)) in
      let passed : IsPassed choice passes.0 last = passes.2 in
      let chose = passed.chosen c (after n) before.ready in
      let held : (x : ThreadId) → thread_of (label_of choice Work.Run) ≡ Some x → innermost_left c (held_by x (after n)) ≡ 0 = λ x own. passed.free c (after n) x before.ready own in
      let follows = quiet-follows c (after n) choice chose held in
      record {
        ready = passed.ready c (after n) before.ready (below n room) (before.ready.ruled.audited, follows);
        rows = passed.rows ∙ before.rows;
        chosen = λ i within. elim (cases_lt i n) [
          | inl earlier ↦ before.chosen i earlier
          | inr late ↦ (let same : n ≡ i = omega (arith, within, late) in subst (λ k. choice ≡ chosen c (after k)) same chose)
        ];
        free = λ i x within own. elim (cases_lt i n) [
          | inl earlier ↦ before.free i x earlier own
          | inr late ↦ (let same : n ≡ i = omega (arith, within, late) in subst (λ k. innermost_left c (held_by x (after k)) ≡ 0) same (held x own))
        ];
      }

-- there is a fastest level
pub some-levels : (n : ℕ) (d : Tables) → HasRoomFor n d → 0 < length d.demand.windows.periods
some-levels n d has =
    let levels = has.config.levels in
    let is : length d.demand.windows.periods ≡ length (map (λ (row : LevelRow). row.period) levels) = ap (λ (w : Clock). length w.periods) has.stands.recount.cells.windows in
    let same : length (map (λ (row : LevelRow). row.period) levels) ≡ length levels = length-map levels (λ (row : LevelRow). row.period) in
    let some = has.stands.ruled.limits.some_levels in
    omega (arith, is, same, some)

-- The tables choose as long as the past does, where they pass from tables to tables as long as they choose.
module _ (choice : Choice) (c : Configuration) (past : List Entry) (d : Tables) (stands : IsReady c past d) (after : ℕ → Tables) (families : (m : ℕ) → HasFamilies (after m))
    (law : (c : Configuration) (past : List Entry) (d : Tables) → IsReady c past d → HasFamilies d → choice_of d ≡ chosen c past)
    (n : ℕ) (room : length past + n ≤ MAX_TICKS)
    (goes : (i : ℕ) → i < n → choice ≡ chosen c (replicate i (quiet (label_of choice Work.Run)) ++ past))
    (pass : (m : ℕ) → m ≤ n → ((i : ℕ) → i < m → choice_of (after i) ≡ choice) → Passes choice m d (after m)) where
  next-chosen : (m : ℕ) → m < n → ((i : ℕ) → i < m → choice_of (after i) ≡ choice) → choice_of (after m) ≡ choice
  next-chosen m less chose =
      let went = gone choice c past d stands m (after m) (pass m (omega (arith, less)) chose) (omega (arith, less, room)) in
      law c _ (after m) went.ready (families m) ∙ sym (goes m less)

  pub chosen-to : (m : ℕ) → m ≤ n → (i : ℕ) → i < m → choice_of (after i) ≡ choice
  chosen-to zero less i earlier = absurd (omega (arith, earlier))
  chosen-to (suc m) less i earlier =
      let so-far = chosen-to m (omega (arith, less)) in
      elim (cases_lt i m) [
        | inl before ↦ so-far i before
        | inr late ↦
            let same : m ≡ i = omega (arith, earlier, late) in
            subst (λ k. choice_of (after k) ≡ choice) same (next-chosen m (omega (arith, less)) so-far)
      ]

-- from what contracts see
module _ (p : Past) (d : Tables) (v : Dispatched) (is : dispatched p d ≡ v) (ready : v.past.tick ≡ Ready) (stands : Stands p d) where
  at-ready-tick : p.tick ≡ Ready
  at-ready-tick = subst (λ (w : Dispatched). w.past.tick ≡ Ready) (sym is) ready

  has-room-at : (n : ℕ) → length v.past.entries + n ≤ MAX_TICKS → length p.entries + n ≤ MAX_TICKS
  has-room-at n room = subst (λ (w : Dispatched). length w.past.entries + n ≤ MAX_TICKS) (sym is) room

  pub has-room : (n : ℕ) → length v.past.entries + n ≤ MAX_TICKS → HasRoomFor n d
  has-room n room = record { config = p.config; past = p.entries; stands = is-ready p d v is ready stands; room = has-room-at n room }

  module _ (choice : Choice) (n : ℕ) (last : Tables) (passes : Passes choice n d last) (room : length v.past.entries + n ≤ MAX_TICKS) where
    went : Gone choice p.config p.entries d (is-ready p d v is ready stands) n last
    went = gone choice p.config p.entries d (is-ready p d v is ready stands) n last passes (has-room-at n room)

    pub goes : Goes choice n v.past
    goes = subst (λ (w : Dispatched). Goes choice n w.past) is (record { chosen = went.chosen; free = went.free })

    pub stands-later : (p' : Past) → p' ≡ later choice n p → Stands p' last
    stands-later p' next =
        subst (λ (q : Past). Stands q last) (sym next)
        (subst (λ t. StandsAt t p.config (later choice n p).entries last) (sym at-ready-tick) went.ready)

    pub rows-later : last.threads ≡ v.threads
    rows-later = went.rows ∙ ap (λ (w : Dispatched). w.threads) is
