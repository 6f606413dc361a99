-- What holds of the tables once the threads are shut whose windows an event closes.
use Rattle.dk_recount.proofs.Names.{◌≡◌, ◌<◌, ◌≤◌, ◌+◌, ◌-◌, ◌∙◌, inl, inr, ◌&&◌, Bool, true, false, eqb, ℕ, List, [], ◌∷◌, length, map, Some, None, refl, ap, sym, subst, arith, filter, nat_lt, if◌then◌else◌, cases_Bool, and_parts, eq-eqb, eqb-true, ltb-true, nat_tests, Configuration, IsChecked, IsAccepted, period, ThreadId, Entry, is_same, is_of, stops, quiet, Has, Thread, threads, after_entry, made_by, job, rem, thread_rem, held_by, held_after, greatest_left, blocking, own_demand, remaining_demand, want, Audited, Follows, list_any-has, any-has, family-charged, after-has, threads-after, levels-stay, family-among, IsPlain, EventCloses, EventMovesHolds, closes, closed_if, given_up, TickSpends, RowsAreNamed, threads-charged, after-open, request-kept, want-shut, ThreadRow, AreFamilies, find_row, has_row, HasRow, row-there, row-was, RowOf, named, left_up_to, left_at, HasLevels, hold_at, AreHolders, by_level, each_level, wishes_at, AreCounted, ShutsAskers, spares_of, AreWishes, queue_at, Seat, closed, dropped_on, left_on, seat_at, leaves, seat-shut, Tables, IsSound, node_in, IsCharged, IsRecount, is_ready, ready_nodes, seat_of, node_on, MayShut, shut_all, Laws}
use Rattle.std.proofs.Common.{not}
use Rattle.std.specs.Option.{option_map}
use Rattle.dk_trace.specs.Holds.{hold_left}
use Rattle.dk_recount.proofs.Rows.{nodes-differ}
use Rattle.dk_recount.proofs.Stop.Present.{asker-row, worker-has-row, worker-row}
use Rattle.dk_recount.proofs.Charge.Unclaimed.{unclaimed-kept}
use Rattle.dk_recount.proofs.Stop.Child.{mutexes-there}
use Rattle.dk_recount.proofs.Stop.Needs.{may-shut, node-row}
use Rattle.dk_recount.proofs.Stop.ShutTables.{AreApart, AreInside, blocking-part, blocking-shut, held-before, left-shut, mutexes-shut, own-part, own-shut, queues-shut, remaining-part, remaining-shut, seats-shut, sits, wishes-length, wishes-shut}

-- The rows are those of the threads whose windows the event closes, each once. Those hold nothing any more, and the others
-- what they held.
pub record Shuts (c : Configuration) (e : Entry) (past : List Entry) (d : Tables) (rows : List ThreadRow) : Type 0 where
  pub plain : IsPlain e.event
  pub apart : AreApart rows
  pub each : (r : ThreadRow) → Has rows r → (x : Thread) × RowOf c past r x × (find_row d.threads r.id ≡ Some r) × (closes e x ≡ true)
  pub all : (x : Thread) → Has (threads c past) x → closes e x ≡ true → (r : ThreadRow) × Has rows r × (r.id ≡ x.id)
  pub held : (x : ThreadId) → held_by x (e ∷ past) ≡ (if named rows x then [] else held_by x (quiet e.label ∷ past))

-- the holds after a plain event, where it stops the rows' threads and nobody else who holds a mutex
pub held-by-stops : (c : Configuration) (e : Entry) (past : List Entry) (rows : List ThreadRow) → EventMovesHolds c e past → IsPlain e.event
    → ((x : ThreadId) → named rows x ≡ true → stops x e ≡ true)
    → ((x : ThreadId) → stops x e ≡ true → named rows x ≡ false → held_by x (quiet e.label ∷ past) ≡ [])
    → (x : ThreadId) → held_by x (e ∷ past) ≡ (if named rows x then [] else held_by x (quiet e.label ∷ past))
held-by-stops c e past rows holds plain stopped free x = holds x ∙ go (named rows x) (stops x e) refl refl
  where
    either : (b : Bool) → (if b then held_after e.event (held_by x (quiet e.label ∷ past)) else held_by x (quiet e.label ∷ past)) ≡ held_by x (quiet e.label ∷ past)
    either true = plain.keeps (held_by x (quiet e.label ∷ past))
    either false = refl

    go : (n s : Bool) → named rows x ≡ n → stops x e ≡ s
        → (if stops x e then [] else if is_of x e then held_after e.event (held_by x (quiet e.label ∷ past)) else held_by x (quiet e.label ∷ past))
        ≡ (if named rows x then [] else held_by x (quiet e.label ∷ past))
    go true false on off = let on' = stopped x on in absurd (cc)
    go true true on is = rw (is, on) refl
    go false true off is = rw (is, off) (sym (free x is off))
    go false false off is = rw (is, off) (either (is_of x e))

none-left : (m n : ℕ) → n ≤ m → nat_lt 0 m ≡ false → nat_lt 0 n ≡ false
none-left m n low h = grind (arith, nat_tests)

kept-on : (n : ℕ) → not (eqb n 0) ≡ nat_lt 0 n
kept-on n = elim (cases_Bool (eqb n 0)) [ inl none ↦ grind (arith, nat_tests) | inr some ↦ grind (arith, nat_tests) ]

module _ (laws : Laws) (c : Configuration) (e : Entry) (past : List Entry) (d : Tables) (rows : List ThreadRow)
    (sound : IsSound d) (are : AreFamilies d.threads.levels d.threads.families)
    (charged : IsCharged c e.label past d) (follows : Follows c past e) (shuts : Shuts c e past d rows) where
  abbrev now : ℕ
  now = length past

  abbrev before : List Entry
  before = quiet e.label ∷ past

  abbrev after : Thread → Thread
  after = after_entry e (length past)

  abbrev node : ThreadId → ℕ
  node = node_in d.threads

  abbrev next : Tables
  next = shut_all rows d

  rec : IsRecount c now before d
  rec = charged.recount

  checked : IsChecked c
  checked = charged.ruled.checked

  accepted : IsAccepted c
  accepted = charged.ruled.accepted

  audited : Audited c past
  audited = charged.ruled.audited

  audited-on : Audited c (e ∷ past)
  audited-on = (audited, follows)

  makes : (p : ℕ) → made_by c p now e.event ≡ []
  makes p = shuts.plain.makes c p now

  moved : EventCloses c e past
  moved = laws.job c e past checked accepted audited-on

  spends : TickSpends c e.label past
  spends = laws.spends c e.label past checked accepted audited charged.chose

  row-names : RowsAreNamed c past
  row-names = laws.named c past checked accepted audited

  positive : (x : Thread) → Has (threads c past) x → 0 < period c x.level
  positive x h = checked.positive x.level (laws.places c past checked accepted audited x h).level

  there-before : (x : Thread) → Has (threads c past) x → Has (threads c before) x
  there-before x h = subst (λ xs. Has xs x) (sym (threads-charged c e.label past)) h

  -- who has something left, or asks, has a row
  worker-before : (x : Thread) → Has (threads c past) x → 0 < thread_rem c now before x → has_row c now x ≡ true
  worker-before x h some = grind (arith, nat_tests, checked, accepted, audited, worker-has-row, laws.lowers c e.label past checked accepted audited charged.chose x h, laws.absent c past checked accepted audited)

  worker-after : (x : Thread) → Has (threads c past) x → 0 < thread_rem c now (e ∷ past) (after x) → has_row c now (after x) ≡ true
  worker-after x h some = grind (arith, nat_tests, worker-row, checked, accepted, audited, audited-on, positive, laws.lowers c e.label past checked accepted audited charged.chose, laws.rem c e past checked accepted audited-on, laws.absent c past checked accepted audited)

  asker : (x : Thread) → Has (threads c past) x → nat_lt 0 (want c now before x) ≡ true → has_row c now x ≡ true
  asker x h some = asker-row c e.label past spends (laws.askers c past checked accepted audited) x h some

  -- the thread of a row that is shut
  abbrev shut-thread : (r : ThreadRow) → Has rows r → Thread
  shut-thread r h = (shuts.each r h).0

  abbrev shut-is : (r : ThreadRow) (h : Has rows r) → RowOf c past r (shuts.each r h).0
  shut-is r h = (shuts.each r h).1

  shut-among : (r : ThreadRow) (h : Has rows r) → Has (threads c past) (shuts.each r h).0
  shut-among r h = family-among c (shut-thread r h).id.process past (shut-thread r h) (shut-is r h).process (shut-is r h).family

  shut-node : (r : ThreadRow) (h : Has rows r) → node (shuts.each r h).0.id ≡ node_on r
  shut-node r h = node-row laws c e.label past d r sound are charged (shuts.each r h).2 (shut-thread r h) (shut-is r h)

  pub may-one : (r : ThreadRow) → Has rows r → MayShut r d
  may-one r h = may-shut laws c e.label past d r sound are charged (shuts.each r h).2 (shut-thread r h) (shut-is r h)

  inside : AreInside rows d
  inside r h = (may-one r h).closes.inside

  own-row : (x : Thread) → Has (threads c past) x → has_row c now x ≡ true → HasRow d.threads x.id
  own-row x h there =
      let place = row-names.place x h in
      row-there c now before d.threads x rec.rows place.0 (subst (λ xs. Has xs x) (sym (family-charged c x.id.process e.label past)) place.1) there

  -- a thread's node is one of those that are shut exactly where the event closes its window
  tells : (x : Thread) → Has (threads c past) x → has_row c now x ≡ true → sits rows (node x.id) ≡ closes e x
  tells x h there = go (closes e x) refl
    where
      go : (b : Bool) → closes e x ≡ b → sits rows (node x.id) ≡ b
      go true shut =
          let r = shuts.all x h shut in
          let id : (shut-thread r.0 r.1).id ≡ x.id = (shut-is r.0 r.1).id ∙ r.2 in
          list_any-has (λ (q : ThreadRow). eqb (node_on q) (node x.id)) rows r.0 r.1
          (eq-eqb (node_on r.0) (node x.id) (sym (shut-node r.0 r.1) ∙ ap node id))
      go false off =
          elim (cases_Bool (sits rows (node x.id))) [
            | inr apart ↦ apart
            | inl same ↦
                let r = any-has (λ (q : ThreadRow). eqb (node_on q) (node x.id)) rows same in
                let y = shut-thread r.0 r.1 in
                let is = shut-is r.0 r.1 in
                let among = shut-among r.0 r.1 in
                let one : node y.id ≡ node x.id = shut-node r.0 r.1 ∙ eqb-true (node_on r.0) (node x.id) r.2 in
                let id = nodes-differ d.threads y.id x.id are (own-row y among is.there) (own-row x h there) one in
                let e' : y ≡ x = row-names.distinct y x among h id in
                let on : closes e x ≡ true = sym (ap (closes e) e') ∙ (shuts.each r.0 r.1).3 in
                absurd (cc)
          ]

  job-shut : (x : Thread) → Has (threads c past) x → closes e x ≡ true → job c now (e ∷ past) (after x) ≡ closed (job c now before x)
  job-shut x h shut = moved x h ∙ ap (λ b. closed_if b (job c now before x)) shut

  job-kept : (x : Thread) → Has (threads c past) x → closes e x ≡ false → job c now (e ∷ past) (after x) ≡ job c now before x
  job-kept x h off = moved x h ∙ ap (λ b. closed_if b (job c now before x)) off

  seat-was : (x : Thread) → Has (threads c past) x → has_row c now x ≡ true → seat_at d.jobs (node x.id) ≡ seat_of c now before x
  seat-was x h there = rec.jobs.seats x (there-before x h) there

  left-is : (x : Thread) → Has (threads c past) x → has_row c now x ≡ true → left_on d.jobs (node x.id) ≡ thread_rem c now before x
  left-is x h there = ap (λ (s : Seat). rem d.jobs.switch s.job) (seat-was x h there) ∙ ap (λ w. rem w (job c now before x)) rec.jobs.switch

  rest-is : (x : Thread) → Has (threads c past) x → has_row c now x ≡ true → closes e x ≡ true
      → rem d.jobs.switch (closed (seat_at d.jobs (node x.id)).job) ≡ thread_rem c now (e ∷ past) (after x)
  rest-is x h there shut = grind (arith, nat_tests, seat-was, rec, job-shut)

  -- what a row that is shut gives up, and for how long it kept others waiting
  pub dropped-is : (r : ThreadRow) (h : Has rows r) → dropped_on (node_on r) d.jobs ≡ given_up c e past (shuts.each r h).0
  dropped-is r h = grind (arith, nat_tests, shut-among, left-is, rest-is, shut-node, shuts.each r h)

  pub lefts-are : (r : ThreadRow) (h : Has rows r) (j : ℕ) → left_up_to r.id j d.mutexes ≡ greatest_left c j (held_by (shuts.each r h).0.id before)
  lefts-are r h j =
      laws.lefts c before d.mutexes r.id j rec.holders (mutexes-there c e.label past (laws.known c past checked accepted audited))
      ∙ ap (λ i. greatest_left c j (held_by i before)) (sym (shut-is r h).id)

  -- The cells, where the parts of the rows are what demand and blocking lose.
  cells-by : (f : ℕ → ℕ) (cells ns : List ℕ) (old new : ℕ → ℕ) → cells ≡ by_level (λ j n. n - f j) ns → ns ≡ each_level c old
      → ((j : ℕ) → j < length c.levels → new j + f j ≡ old j) → cells ≡ each_level c new
  cells-by f cells ns old new is was moves =
      is ∙ ap (by_level (λ j n. n - f j)) was ∙ laws.cells c (λ j n. n - f j) old new (λ j h. let m = moves j h in omega (arith, m))

  pub own-new : ((j : ℕ) → j < length c.levels → own_demand c now (e ∷ past) j + own-part rows j d ≡ own_demand c now before j)
      → next.demand.own ≡ each_level c (own_demand c now (e ∷ past))
  own-new moves =
      cells-by (λ j. own-part rows j d) next.demand.own d.demand.own (own_demand c now before) (own_demand c now (e ∷ past)) (own-shut rows d shuts.apart inside)
      (rec.cells.own ∙ ap (λ t. each_level c (own_demand c t before)) rec.tick) moves

  pub remaining-new : (new : ℕ → ℕ) → ((j : ℕ) → j < length c.levels → new j + remaining-part rows j d ≡ remaining_demand c now before j)
      → next.demand.remaining ≡ each_level c new
  remaining-new new moves =
      cells-by (λ j. remaining-part rows j d) next.demand.remaining d.demand.remaining (remaining_demand c now before) new (remaining-shut rows d shuts.apart inside)
      (rec.cells.remaining ∙ ap (λ t. each_level c (remaining_demand c t before)) rec.tick) moves

  pub blocking-new : ((j : ℕ) → blocking c (e ∷ past) j + blocking-part rows j d ≡ blocking c before j) → next.demand.blocking ≡ each_level c (blocking c (e ∷ past))
  blocking-new moves =
      cells-by (λ j. blocking-part rows j d) next.demand.blocking d.demand.blocking (blocking c before) (blocking c (e ∷ past)) (blocking-shut rows d shuts.apart inside)
      rec.cells.blocking (λ j h. moves j)

  -- The holders.
  pub holders-new : AreHolders c (e ∷ past) next.mutexes
  holders-new = record {
    mutexes = mutexes-shut laws.freed_rows rows d ∙ rec.holders.mutexes;
    holds = λ x m. left-shut laws.freed_holds rows d x m ∙ left-new (named rows x) x m ∙ sym (ap (λ hs. option_map (hold_left c) (hold_at m hs)) (shuts.held x));
  }
    where
      left-new : (b : Bool) (x : ThreadId) (m : ℕ) → (if b then None else left_at x d.mutexes m) ≡ option_map (hold_left c) (hold_at m (if b then [] else held_by x before))
      left-new true x m = refl
      left-new false x m = rec.holders.holds x m

  pub levels-new : HasLevels c (e ∷ past) next.mutexes
  levels-new m row h y at holds-it among same =
      let old = held-before rows d m row h at holds-it in
      let x = after-has c e past makes y among in
      let same' : is_same x.0.id h.thread ≡ true = subst (λ (z : Thread). is_same z.id h.thread ≡ true) (sym x.2) same in
      rec.own_levels m old.0 h x.0 old.1 old.2 (there-before x.0 x.1) same' ∙ ap (λ (z : Thread). z.level) x.2

  -- Seats, queues and wishes, over the nodes that the threads keep.
  module _ (node' : ThreadId → ℕ) (kept : (x : Thread) → Has (threads c past) x → has_row c now (after x) ≡ true → node' x.id ≡ node x.id) where
    seat-new : (x : Thread) → Has (threads c past) x → has_row c now (after x) ≡ true → seat_at next.jobs (node' x.id) ≡ seat_of c now (e ∷ past) (after x)
    seat-new x h there =
        let row = row-was c e now now x there in
        ap (seat_at next.jobs) (kept x h there)
        ∙ seats-shut rows d (node x.id) inside
        ∙ ap (λ b. if b then seat-shut (seat_at d.jobs (node x.id)) else seat_at d.jobs (node x.id)) (tells x h row)
        ∙ ap (λ s. if closes e x then seat-shut s else s) (seat-was x h row)
        ∙ go (closes e x) refl
      where
        go : (b : Bool) → closes e x ≡ b → (if closes e x then seat-shut (seat_of c now before x) else seat_of c now before x) ≡ seat_of c now (e ∷ past) (after x)
        go true shut = rw shut (ap (λ j. record (seat_of c now before x) { job = j }) (sym (job-shut x h shut)))
        go false off = rw off (ap (λ j. record (seat_of c now before x) { job = j }) (sym (job-kept x h off)))

    pub seats-new : (y : Thread) → Has (threads c (e ∷ past)) y → has_row c now y ≡ true → seat_at next.jobs (node' y.id) ≡ seat_of c now (e ∷ past) y
    seats-new y h there =
        let a = after-has c e past makes y h in
        subst (λ z. seat_at next.jobs (node' z.id) ≡ seat_of c now (e ∷ past) z) a.2
        (seat-new a.0 a.1 (subst (λ z. has_row c now z ≡ true) (sym a.2) there))

    -- whether a node stays in its queue
    abbrev stays : ℕ → Bool
    stays n = not (sits rows n && leaves d.jobs n)

    idle-after : (k : ℕ) (x : Thread) → Has (threads c past) x → is_ready c now before k x ≡ false → is_ready c now (e ∷ past) k (after x) ≡ false
    idle-after k x h idle =
        let low = laws.rem c e past checked accepted audited-on x h in
        elim (cases_Bool (eqb x.level k)) [
          | inl here ↦
              let none : nat_lt 0 (thread_rem c now before x) ≡ false = rw here at idle in
              rw here (none-left (thread_rem c now before x) (thread_rem c now (e ∷ past) (after x)) low none)
          | inr other ↦ rw other refl
        ]

    ready-after : (k : ℕ) (x : Thread) → Has (threads c past) x → is_ready c now before k x ≡ true → is_ready c now (e ∷ past) k (after x) ≡ stays (node x.id)
    ready-after k x h ready =
        let parts = and_parts (eqb x.level k) (nat_lt 0 (thread_rem c now before x)) ready in
        let there = worker-before x h (ltb-true 0 (thread_rem c now before x) parts.1) in
        ap (λ b. b && nat_lt 0 (thread_rem c now (e ∷ past) (after x))) parts.0
        ∙ go there parts.1 (closes e x) refl
        ∙ sym (ap (λ b. not (b && leaves d.jobs (node x.id))) (tells x h there))
      where
        go : has_row c now x ≡ true → nat_lt 0 (thread_rem c now before x) ≡ true → (b : Bool) → closes e x ≡ b
            → nat_lt 0 (thread_rem c now (e ∷ past) (after x)) ≡ not (closes e x && leaves d.jobs (node x.id))
        go there some true shut =
            sym (kept-on (thread_rem c now (e ∷ past) (after x)))
            ∙ sym (ap (λ n. not (eqb n 0)) (rest-is x h there shut))
            ∙ sym (ap (λ b. not (b && eqb (rem d.jobs.switch (closed (seat_at d.jobs (node x.id)).job)) 0)) (ap (nat_lt 0) (left-is x h there) ∙ some))
            ∙ sym (ap (λ b. not (b && leaves d.jobs (node x.id))) shut)
        go there some false off =
            ap (λ j. nat_lt 0 (rem c.costs.switch j)) (job-kept x h off) ∙ some ∙ sym (ap (λ b. not (b && leaves d.jobs (node x.id))) off)

    queue-new : (k : ℕ) (xs : List Thread) → ((x : Thread) → Has xs x → Has (threads c past) x)
        → filter stays (map (λ (x : Thread). node x.id) (filter (is_ready c now before k) xs)) ≡ map (λ (x : Thread). node' x.id) (filter (is_ready c now (e ∷ past) k) (map after xs))
    queue-new k [] known = refl
    queue-new k (x ∷ xs) known =
        let rest = queue-new k xs (λ y h. known y (inr h)) in
        let h = known x (inl refl) in
        elim (cases_Bool (is_ready c now before k x)) [
          | inr idle ↦ let idle' = idle-after k x h idle in rw (idle, idle') rest
          | inl ready ↦
              let next-ready = ready-after k x h ready in
              elim (cases_Bool (stays (node x.id))) [
                | inr out ↦ let gone : is_ready c now (e ∷ past) k (after x) ≡ false = next-ready ∙ out in rw (ready, out, gone) rest
                | inl in-queue ↦
                    let still : is_ready c now (e ∷ past) k (after x) ≡ true = next-ready ∙ in-queue in
                    let parts = and_parts (eqb x.level k) (nat_lt 0 (thread_rem c now (e ∷ past) (after x))) still in
                    let same = kept x h (worker-after x h (ltb-true 0 (thread_rem c now (e ∷ past) (after x)) parts.1)) in
                    rw (ready, in-queue, still, same, rest) refl
              ]
        ]

    pub ready-new : (k : ℕ) → k < length c.levels → queue_at next.jobs.ready.lists k ≡ ready_nodes node' c now (e ∷ past) k
    ready-new k known =
        queues-shut rows d k inside
        ∙ ap (filter stays) (rec.jobs.ready k known ∙ ap (λ xs. map (λ (x : Thread). node x.id) (filter (is_ready c now before k) xs)) (threads-charged c e.label past))
        ∙ queue-new k (threads c past) (λ x h. h)
        ∙ sym (ap (λ xs. map (λ (x : Thread). node' x.id) (filter (is_ready c now (e ∷ past) k) xs)) (threads-after c e past makes))

    has-before : (x : Thread) → Has (threads c before) x → Has (threads c past) x
    has-before x h = subst (λ xs. Has xs x) (threads-charged c e.label past) h

    shuts-askers : ShutsAskers c e past (closes e)
    shuts-askers = record {
      rows = threads-after c e past makes ∙ ap (map (after_entry e now)) (sym (threads-charged c e.label past));
      keeps = λ x h off. request-kept c e past moved shuts.plain.asks x (has-before x h) off;
      ends = λ x h on. want-shut c e past moved shuts.plain.asks x (has-before x h) on;
    }

    pub wishes-new : AreWishes node' (spares_of c) c now (e ∷ past) (record d.slack { wishes = next.slack.wishes })
    wishes-new = record {
      nodes = rec.wishes.nodes;
      switch = rec.wishes.switch;
      levels = wishes-length rows d ∙ rec.wishes.levels;
      wishes = λ k known.
          subst (AreCounted node' c now (e ∷ past) k) (sym (wishes-shut laws.drops rows d k))
          (laws.shuts node node' c past e (closes e) (λ w. sits rows w.node) k (wishes_at d.slack.wishes k) shuts-askers
          (rec.wishes.wishes k known)
          (λ x among some. let h = has-before x among in tells x h (asker x h some))
          (λ x among some off. let h = has-before x among in kept x h (subst (λ z. has_row c now z ≡ true) (sym (after-open e now x off)) (asker x h some))));
      unclaimed = rec.wishes.unclaimed ∙ sym (unclaimed-kept laws.unclaimed c e past (λ t x has pays. levels-stay c e past makes x));
      spares = rec.wishes.spares;
    }
