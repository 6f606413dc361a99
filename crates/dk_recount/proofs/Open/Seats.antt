-- The threads at the next tick: their seats, the ready queues and the wishes.
use Rattle.dk_recount.proofs.Names.{◌≡◌, ◌<◌, ◌≤◌, ◌+◌, ◌-◌, ◌*◌, ◌/◌, ◌∙◌, ◌⊎◌, inl, inr, ◌&&◌, ◌||◌, Bool, true, false, cond, eqb, leb, ltb, ℕ, zero, suc, List, [], ◌∷◌, ◌++◌, length, map, Option, Some, None, add-one, refl, ap, sym, subst, arith, slice_get, filter, filter_map, find, not, is_some, sum_by, Contains, cons_option, flat_map, option_map_or, option_or, cases_Bool, cases_lt, and_parts, ltb-true, eqb-true, cond-true, cond-false, lt-ltb, nat_tests, MAX_CHILDREN, MAX_THREADS, LevelRow, Configuration, sum_by-cons, sum_by-append, map-append, append-nil, map-map, filter-append, numbers, first_of, sum_from, budget, main_level, period, window_start, map-none, ThreadId, Entry, Has, Thread, threads, family, is_main, is_void, is_stopped_before, lent_at, main_share, child_share, share, Job, job, rem, thread_rem, want, has-map, find-has, filter-has, has-flat_from, flat-has, sum_by-flat, contains-has, has-contains, has-append, nothing-in, has-filter_map, map-alike, Clock, begins_at, ThreadRow, Family, State, AreChildren, is_stopped, Table, rows_of, has_row, row_at, counted_row, state_of, unplaced, AreThreads, HasRow, row-there, row-slot, child-slot, slot-apart, row-before, Book, holds, queue_at, Wish, wishes_at, wants, AreCounted, asking, counted_wish, Seat, Roster, new_job, seat_at, Absent, begins, FamilyStands, begins-start, node_in, seat_of, is_ready, ready_nodes, AreKnown, CanAllSit, all_rows, due_threads, given, given_steps, quieted, quieted_one, rows_from, rows_in, seat_in, share_in, steps_of, node_on}
use Rattle.std.specs.Prelude.{is_none}
use Rattle.dk_slack.specs.Wishes.{is_of}
use Rattle.dk_recount.proofs.Rows.{nodes-differ}
use Rattle.dk_recount.proofs.Open.Moved.{released_now}
use Rattle.dk_recount.proofs.Stop.Present.{there-row, worker-has-row}
use Rattle.dk_recount.proofs.Open.Due.{Laws, IsDue}
use Rattle.dk_recount.proofs.Open.Shares.{among-all, stands, row-thread, rows-are, share-is, level-known, sum-rows, sum-unplaced}
use Rattle.dk_recount.proofs.Open.Cells.{begins-is, stays, lenders-are}
use Rattle.dk_recount.proofs.Open.Nodes.{node-kept, node-of-row}
use Rattle.dk_recount.proofs.Open.Rosters.{AreApart, gets, given-queue, can-sit, seat-other, seat-of-row, wishes-stay, wishes-left}

-- the wish of a node that asks
want-some : (node : ℕ) (ws : List (List Wish)) → 0 < wants node ws → (k : ℕ) × (v : Wish) × Has (wishes_at ws k) v × (v.node ≡ node)
want-some node [] some = absurd (omega arith)
want-some node (vs ∷ ws) some = next node vs ws some (find (is_of node) vs) refl (λ s. want-some node ws s)
  where
    next : (node : ℕ) (vs : List Wish) (ws : List (List Wish)) → 0 < wants node (vs ∷ ws) → (o : Option Wish) → find (is_of node) vs ≡ o
        → (0 < wants node ws → (k : ℕ) × (v : Wish) × Has (wishes_at ws k) v × (v.node ≡ node))
        → (k : ℕ) × (v : Wish) × Has (wishes_at (vs ∷ ws) k) v × (v.node ≡ node)
    next node vs ws some None at rest =
        let later : wants node (vs ∷ ws) ≡ wants node ws = ap (λ o. option_map_or (λ (v : Wish). v.amount) (option_or o (first_of (find (is_of node)) ws)) 0) at in
        let r = rest (omega (arith, later, some)) in
        (suc r.0, r.1, r.2, r.3)
    next node vs ws some (Some v) at rest = let f = find-has (is_of node) vs v at in (0, v, f.0, sym (eqb-true node v.node f.1))

some-test : (n : ℕ) → not (eqb n 0) ≡ ltb 0 n
some-test n = grind (arith, nat_tests)

flat-filter : {X Y : Type 0} (f : X → ℕ) (g : X → Bool) (lists : ℕ → List X) (f' : Y → ℕ) (g' : Y → Bool) (lists' : ℕ → List Y) (low n : ℕ)
    → ((p : ℕ) → p < low + n → map f (filter g (lists p)) ≡ map f' (filter g' (lists' p)))
    → map f (filter g (flat_map lists (numbers low n))) ≡ map f' (filter g' (flat_map lists' (numbers low n)))
flat-filter f g lists f' g' lists' low zero same = refl
flat-filter f g lists f' g' lists' low (suc n) same = grind (arith, nat_tests, filter-append, map-append, flat-filter f g lists f' g' lists' (suc low) n)

apart-append : (xs ys : List ThreadRow) → AreApart xs → AreApart ys → ((x y : ThreadRow) → Has xs x → Has ys y → node_on y ≡ node_on x → ⊥) → AreApart (xs ++ ys)
apart-append [] ys one two cross = two
apart-append (x ∷ xs) ys one two cross = (
  λ y h same. later y (has-append xs ys y h) same,
  apart-append xs ys one.1 two (λ z y hz hy. cross z y (inr hz) hy),
)
  where
    later : (y : ThreadRow) → Has xs y ⊎ Has ys y → node_on y ≡ node_on x → ⊥
    later y (inl h) same = one.0 y h same
    later y (inr h) same = cross x y (inl refl) h same

apart-children : (levels low high p : ℕ) (rows : List ThreadRow) → AreChildren levels low high rows → ((row : ThreadRow) → Has rows row → row.id.process ≡ p) → AreApart rows
apart-children levels low high p [] are own = tt
apart-children levels low high p (z ∷ rows) are own = (
  λ y h same.
      (let a = own z (inl refl) in
      let b' = own y (inr h) in
      let slots : z.slot ≡ y.slot = omega (arith, same, a, b') in
      slot-apart rows z y are.1 h slots),
  apart-children levels z.id.serial high p rows are.2 (λ row h. own row (inr h)),
)

module _ (laws : Laws) (c : Configuration) (e : Entry) (past : List Entry) (t0 t : Table) (b : Book) (w : Clock) (is : IsDue c (e ∷ past) t b w)
    (old : AreThreads c (length past) (e ∷ past) t0) (made : t ≡ due_threads (length (e ∷ past)) t0) where
  abbrev all : List Entry
  all = e ∷ past

  abbrev now : ℕ
  now = length all

  abbrev was : ℕ
  was = length past

  place : (x : Thread) → Has (threads c all) x → (x.id.process < length c.processes) × Has (family c x.id.process all) x
  place x among = (laws.named c all is.checked is.accepted is.audited).place x among

  names : (x y : Thread) → Has (threads c all) x → Has (threads c all) y → x.id ≡ y.id → x ≡ y
  names = (laws.named c all is.checked is.accepted is.audited).distinct

  kept-node : (x : Thread) → Has (threads c all) x → has_row c now x ≡ true → node_in t x.id ≡ node_in t0 x.id
  kept-node x among there =
      let at = place x among in
      ap (λ z. node_in z x.id) made
      ∙ node-kept c was now all t0 x (omega arith) old at.0 at.1 (λ y h same. names y x (among-all laws c all t b w is x.id.process y at.0 h) among same) there

  row-in : (x : Thread) → Has (threads c all) x → has_row c now x ≡ true → HasRow t x.id
  row-in x among there = let at = place x among in row-there c now all t x is.rows at.0 at.1 there

  nodes-apart : (x y : Thread) → Has (threads c all) x → Has (threads c all) y → has_row c now x ≡ true → has_row c now y ≡ true
      → node_in t x.id ≡ node_in t y.id → x ≡ y
  nodes-apart x y one two a z same = names x y one two (nodes-differ t x.id y.id is.families (row-in x one a) (row-in y two z) same)

  process-is : (p : ℕ) (x : Thread) → p < length c.processes → Has (family c p all) x → x.id.process ≡ p
  process-is p x known h =
      let s : FamilyStands c all p = stands laws c all t b w is p known in
      elim (subst (λ rows. Has rows x) s.rows h) [
        | inl same ↦ ap (λ (z : Thread). z.id.process) (sym same) ∙ ap (λ (i : ThreadId). i.process) s.id
        | inr child ↦ (s.each x child).process
      ]

  row-process : (p : ℕ) (row : ThreadRow) → p < length c.processes → Has (rows_of t p) row → row.id.process ≡ p
  row-process p row known h =
      let r = row-thread laws c all t b w is p row known h in
      ap (λ (z : ThreadRow). z.id.process) r.3 ∙ process-is p r.0 known r.1

  -- the thread of a row
  record OfRow (row : ThreadRow) : Type 0 where
    thread : Thread
    among : Has (threads c all) thread
    there : has_row c now thread ≡ true
    same : unplaced row ≡ counted_row c now thread
    node : node_on row ≡ node_in t thread.id
    process : row.id.process < length c.processes
    slot : row.slot ≤ MAX_CHILDREN

  of-process : (p : ℕ) (row : ThreadRow) → p < length c.processes → Has (rows_of t p) row → OfRow row
  of-process p row known h =
      let r = row-thread laws c all t b w is p row known h in
      let own = row-process p row known h in
      record {
        thread = r.0;
        among = among-all laws c all t b w is p r.0 known r.1;
        there = r.2;
        same = r.3;
        node = node-of-row t row is.families (subst (λ q. Has (rows_of t q) row) (sym own) h) ∙ ap (λ (z : ThreadRow). node_in t z.id) r.3;
        process = omega (arith, own, known);
        slot = row-slot t p row is.families h;
      }

  of-row : (row : ThreadRow) → Has (all_rows t) row → OfRow row
  of-row row h =
      let r = has-flat_from (rows_in t) 0 (length t.families) row h in
      let many = is.rows.processes in
      let less = r.2 in
      let known : r.0 < length c.processes = omega (arith, many, less) in
      of-process r.0 row known (subst (λ rows. Has rows row) (rows-are laws c all t b w is r.0 known) r.3)

  level-is : (row : ThreadRow) → (o : OfRow row) → row.level ≡ o.thread.level
  level-is row o = ap (λ (z : ThreadRow). z.level) o.same

  known-level : (x : Thread) → Has (threads c all) x → x.level < length c.levels
  known-level x among = let at = place x among in level-known laws c all t b w is x.id.process x at.0 at.1

  -- the row of a thread
  record RowFor (x : Thread) : Type 0 where
    row : ThreadRow
    among : Has (all_rows t) row
    same : unplaced row ≡ counted_row c now x
    node : node_on row ≡ node_in t x.id

  row-for : (x : Thread) → Has (threads c all) x → has_row c now x ≡ true → RowFor x
  row-for x among there =
      let at = place x among in
      let p = x.id.process in
      let counted : row_at c now x ≡ Some (counted_row c now x) = cond-true (has_row c now x) (Some (counted_row c now x)) None there in
      let has : Has (map unplaced (rows_of t p)) (counted_row c now x) = grind (arith, nat_tests, has-filter_map) in
      let r = has-map unplaced (rows_of t p) (counted_row c now x) has in
      let many = is.rows.processes in
      let known = at.0 in
      let process : r.0.id.process ≡ p = ap (λ (z : ThreadRow). z.id.process) r.2 in
      record {
        row = r.0;
        among = flat-has (rows_in t) 0 (length t.families) p r.0 (omega arith) (omega (arith, many, known))
            (subst (λ rows. Has rows r.0) (sym (rows-are laws c all t b w is p known)) r.1);
        same = r.2;
        node = node-of-row t r.0 is.families (subst (λ q. Has (rows_of t q) r.0) (sym process) r.1) ∙ ap (λ (z : ThreadRow). node_in t z.id) r.2;
      }

  -- no two rows have one node
  apart-process : (p : ℕ) → p < length c.processes → AreApart (rows_in t p)
  apart-process p known = subst AreApart (sym (rows-are laws c all t b w is p known)) (go (slice_get t.families p) refl)
    where
      go : (o : Option Family) → slice_get t.families p ≡ o → AreApart (rows_of t p)
      go None at = subst AreApart (ap (λ o. option_map_or (λ (f : Family). f.main ∷ f.children) o []) (sym at)) tt
      go (Some f) at =
          let rows : rows_of t p ≡ f.main ∷ f.children = ap (λ o. option_map_or (λ (f : Family). f.main ∷ f.children) o []) at in
          let own : (row : ThreadRow) → Has (f.main ∷ f.children) row → row.id.process ≡ p = λ row h. row-process p row known (subst (λ rs. Has rs row) (sym rows) h) in
          let fam = is.families p f at in
          subst AreApart (sym rows) (
            λ y h same.
                (let first = own f.main (inl refl) in
                let here = own y (inr h) in
                let low = (child-slot t.levels 0 f.serials f.children y fam.children h).0 in
                let none = fam.main_slot in
                absurd (omega (arith, first, here, low, none, same))),
            apart-children t.levels 0 f.serials p f.children fam.children (λ row h. own row (inr h)),
          )

  apart-from : (low n : ℕ) → low + n ≤ length c.processes → AreApart (rows_from t low n)
  apart-from low zero within = tt
  apart-from low (suc n) within =
      apart-append (rows_in t low) (rows_from t (suc low) n) (apart-process low (omega arith)) (apart-from (suc low) n (omega arith))
      (λ x y hx hy same.
      (let known : low < length c.processes = omega arith in
      let hx' = subst (λ rows. Has rows x) (rows-are laws c all t b w is low known) hx in
      let r = has-flat_from (rows_in t) (suc low) n y hy in
      let above = r.1 in
      let below' = r.2 in
      let known' : r.0 < length c.processes = omega (arith, below') in
      let hy' = subst (λ rows. Has rows y) (rows-are laws c all t b w is r.0 known') r.3 in
      let one = row-process low x known hx' in
      let two = row-process r.0 y known' hy' in
      let a = row-slot t low x is.families hx' in
      absurd (omega (arith, one, two, a, above, same))))

  all-apart : AreApart (all_rows t)
  all-apart = let many = is.rows.processes in apart-from 0 (length t.families) (omega (arith, many))

  periods-are : length w.periods ≡ length c.levels
  periods-are = ap (λ (z : Clock). length z.periods) is.windows ∙ count c.levels
    where
      count : (xs : List LevelRow) → length (map (λ (row : LevelRow). row.period) xs) ≡ length xs
      count [] = refl
      count (x ∷ xs) = ap suc (count xs)

  known-rows : (xs : List ThreadRow) → ((row : ThreadRow) → Has xs row → OfRow row) → AreKnown b w xs
  known-rows [] of = tt
  known-rows (row ∷ xs) of =
      let o = of row (inl refl) in
      let level = level-is row o in
      let less = known-level o.thread o.among in
      let many = periods-are in
      let lenders = lenders-are laws c e past t b w is in
      let process = o.process in
      (record { level = omega (arith, level, less, many); lender = omega (arith, lenders, process) }, known-rows xs (λ z h. of z (inr h)))

  pub rows-known : AreKnown b w (all_rows t)
  rows-known = known-rows (all_rows t) of-row

  -- where no window begins none of a row's level does
  pub rows-off : ((k : ℕ) → k < length c.levels → begins_at w k ≡ false) → (row : ThreadRow) → Has (all_rows t) row → begins_at w row.level ≡ false
  rows-off off row h =
      let o = of-row row h in
      let level = level-is row o in
      let less = known-level o.thread o.among in
      off row.level (omega (arith, level, less))

  worker-there : (x : Thread) → Has (threads c all) x → 0 < thread_rem c now all x → has_row c now x ≡ true
  worker-there x among some = worker-has-row c all (laws.absent c all is.checked is.accepted is.audited) x among some

  asker-there : (x : Thread) → Has (threads c all) x → 0 < want c now all x → has_row c now x ≡ true
  asker-there x among some = grind (arith, nat_tests, there-row, laws.askers c all is.checked is.accepted is.audited x among some)

  -- who asked at the end of the tick has a row now
  asked-there : (x : Thread) → Has (threads c all) x → 0 < want c was all x → has_row c now x ≡ true
  asked-there x among some = let runs = laws.last c e past is.checked is.accepted is.audited x among some in go x.stop runs
    where
      or-true : (m : Bool) → (m || true) ≡ true
      or-true true = refl
      or-true false = refl

      go : (o : Option ℕ) → x.stop ≡ None → has_row c now x ≡ true
      go o runs = rw runs (or-true (is_main x))

  module _ (r0 : Roster) (lists0 : length r0.ready.lists ≡ length c.levels) (many0 : length r0.seats ≡ MAX_THREADS * length t.families)
      (seats0 : (x : Thread) → Has (threads c all) x → has_row c was x ≡ true → seat_at r0 (node_in t0 x.id) ≡ seat_of c was all x)
      (queues0 : (k : ℕ) → k < length c.levels → queue_at r0.ready.lists k ≡ ready_nodes (node_in t0) c was all k) where
    ready-is : (k : ℕ) (x : Thread) → Has (filter (is_ready c now all k) (threads c all)) x → Has (threads c all) x × (x.level ≡ k) × (0 < thread_rem c now all x)
    ready-is k x h = grind (arith, nat_tests, filter-has, and_parts, eqb-true, ltb-true)

    -- of a level of which no window begins the queue stays
    queue-stays : (k : ℕ) → k < length c.levels → begins c k now ≡ false → queue_at r0.ready.lists k ≡ ready_nodes (node_in t) c now all k
    queue-stays k known off =
        let kept = (laws.ready c e past is.checked is.accepted is.audited).keeps k known off in
        queues0 k known
        ∙ sym (map-map (node_in t0) (λ (x : Thread). x.id) (filter (is_ready c was all k) (threads c all)))
        ∙ ap (map (node_in t0)) (sym kept)
        ∙ map-map (node_in t0) (λ (x : Thread). x.id) (filter (is_ready c now all k) (threads c all))
        ∙ map-alike (λ (x : Thread). node_in t0 x.id) (λ x. node_in t x.id) (filter (is_ready c now all k) (threads c all))
        (λ x h. let r = ready-is k x h in sym (kept-node x r.0 (worker-there x r.0 r.2)))

    -- and of one of which one does it is empty
    queue-empty : (k : ℕ) → k < length c.levels → begins c k now ≡ true → queue_at r0.ready.lists k ≡ []
    queue-empty k known on = grind (arith, nat_tests, map-none, laws.ready c e past is.checked is.accepted is.audited)

    holds-has : (n : ℕ) (xs : List Thread) → holds n (map (λ (x : Thread). node_in t x.id) xs) ≡ true → (x : Thread) × Has xs x × (n ≡ node_in t x.id)
    holds-has n [] h = absurd (cc)
    holds-has n (x ∷ xs) h = grind (arith, nat_tests, eqb-true, holds-has n xs)

    absent : (row : ThreadRow) → Has (all_rows t) row → begins_at w row.level ≡ true → Absent (node_on row) r0
    absent row h on k less =
        let o = of-row row h in
        let lists = lists0 in
        let known : k < length c.levels = omega (arith, lists, less) in
        elim (cases_Bool (begins c k now)) [
          | inl begun ↦ ap (holds (node_on row)) (queue-empty k known begun)
          | inr off ↦
              ap (holds (node_on row)) (queue-stays k known off)
              ∙ (elim (cases_Bool (holds (node_on row) (ready_nodes (node_in t) c now all k))) [
                | inr none ↦ none
                | inl some ↦
                    let r = holds-has (node_on row) (filter (is_ready c now all k) (threads c all)) some in
                    let y = ready-is k r.0 r.1 in
                    let same : o.thread ≡ r.0 = nodes-apart o.thread r.0 o.among y.0 o.there (worker-there r.0 y.0 y.2) (sym o.node ∙ r.2) in
                    let level : row.level ≡ k = level-is row o ∙ ap (λ (z : Thread). z.level) same ∙ y.1 in
                    let on' : begins c k now ≡ true = sym (begins-is laws c e past t b w is k) ∙ ap (begins_at w) (sym level) ∙ on in
                    absurd (cc)
              ])
        ]

    row-fits : (row : ThreadRow) → Has (all_rows t) row → (node_on row < length r0.seats) × (row.level < length r0.ready.lists)
    row-fits row h = grind (arith, nat_tests, of-row, level-is, known-level)

    pub rows-sit : CanAllSit b w (all_rows t) r0
    rows-sit = can-sit b w (all_rows t) r0 all-apart row-fits absent

    -- the share of a thread whose window begins is all that it has left
    fresh : (x : Thread) → Has (threads c all) x → begins c x.level now ≡ true → job c now all x ≡ new_job (share c all x now)
    fresh x among on = (laws.release c all is.checked is.accepted is.audited).jobs x among on

    given-share : (x : Thread) → Has (threads c all) x → begins c x.level now ≡ true → share_in b w (counted_row c now x) ≡ share c all x now
    given-share x among on =
        let at = place x among in
        share-is laws c all t b w is x.id.process x at.0 at.1 ∙ ap (share c all x) (begins-start c x.level now on)

    gets-is : (k : ℕ) (x : Thread) → Has (threads c all) x → begins c k now ≡ true → gets b w k (counted_row c now x) ≡ is_ready c now all k x
    gets-is k x among on = go (eqb x.level k) refl
      where
        off-all : (v z : Bool) → (v && (false && z)) ≡ false
        off-all true z = refl
        off-all false z = refl

        go : (same : Bool) → eqb x.level k ≡ same
            → (begins_at w x.level && (same && not (eqb (share_in b w (counted_row c now x)) 0))) ≡ (same && ltb 0 (thread_rem c now all x))
        go false at = off-all (begins_at w x.level) (not (eqb (share_in b w (counted_row c now x)) 0))
        go true at =
            let level = eqb-true x.level k at in
            let on' : begins c x.level now ≡ true = subst (λ i. begins c i now ≡ true) (sym level) on in
            let left : thread_rem c now all x ≡ share c all x now = ap (rem c.costs.switch) (fresh x among on') ∙ omega arith in
            ap (λ z. z && not (eqb (share_in b w (counted_row c now x)) 0)) (begins-is laws c e past t b w is x.level ∙ on')
            ∙ ap (λ n. not (eqb n 0)) (given-share x among on')
            ∙ some-test (share c all x now)
            ∙ ap (ltb 0) (sym left)

    gone-unready : (k : ℕ) (x : Thread) → Has (threads c all) x → has_row c now x ≡ false → is_ready c now all k x ≡ false
    gone-unready k x among none =
        elim (cases_Bool (is_ready c now all k x)) [
          | inr off ↦ off
          | inl on ↦
              let parts = and_parts (eqb x.level k) (ltb 0 (thread_rem c now all x)) on in
              let there = worker-there x among (ltb-true 0 (thread_rem c now all x) parts.1) in
              absurd (cc)
        ]

    blind : (f : ThreadRow → ℕ) (g : ThreadRow → Bool) (rows : List ThreadRow) → ((row : ThreadRow) → f (unplaced row) ≡ f row) → ((row : ThreadRow) → g (unplaced row) ≡ g row)
        → map f (filter g rows) ≡ map f (filter g (map unplaced rows))
    blind f g [] same also = refl
    blind f g (row ∷ rows) same also = grind (arith, nat_tests, blind f g rows)

    counted-ready : (k : ℕ) (xs : List Thread) → begins c k now ≡ true → ((x : Thread) → Has xs x → Has (threads c all) x)
        → map (λ (row : ThreadRow). node_in t row.id) (filter (gets b w k) (filter_map (row_at c now) xs)) ≡ map (λ (x : Thread). node_in t x.id) (filter (is_ready c now all k) xs)
    counted-ready k [] on among = refl
    counted-ready k (x ∷ xs) on among =
        let rest = counted-ready k xs on (λ y h. among y (inr h)) in
        elim (cases_Bool (has_row c now x)) [
          | inl there ↦
              ap (λ o. map (λ (row : ThreadRow). node_in t row.id) (filter (gets b w k) (cons_option o (filter_map (row_at c now) xs))))
              (cond-true (has_row c now x) (Some (counted_row c now x)) None there)
              ∙ both (is_ready c now all k x) (gets-is k x (among x (inl refl)) on) refl rest
          | inr none ↦
              ap (λ o. map (λ (row : ThreadRow). node_in t row.id) (filter (gets b w k) (cons_option o (filter_map (row_at c now) xs))))
              (cond-false (has_row c now x) (Some (counted_row c now x)) None none)
              ∙ rest
              ∙ ap (map (λ (y : Thread). node_in t y.id)) (sym (cond-false (is_ready c now all k x) (x ∷ filter (is_ready c now all k) xs) (filter (is_ready c now all k) xs)
              (gone-unready k x (among x (inl refl)) none)))
        ]
      where
        both : (ready : Bool) → gets b w k (counted_row c now x) ≡ is_ready c now all k x → is_ready c now all k x ≡ ready
            → map (λ (row : ThreadRow). node_in t row.id) (filter (gets b w k) (filter_map (row_at c now) xs)) ≡ map (λ (x : Thread). node_in t x.id) (filter (is_ready c now all k) xs)
            → map (λ (row : ThreadRow). node_in t row.id) (filter (gets b w k) (counted_row c now x ∷ filter_map (row_at c now) xs))
            ≡ map (λ (x : Thread). node_in t x.id) (filter (is_ready c now all k) (x ∷ xs))
        both true same at rest =
            ap (map (λ (row : ThreadRow). node_in t row.id))
            (cond-true (gets b w k (counted_row c now x)) (counted_row c now x ∷ filter (gets b w k) (filter_map (row_at c now) xs)) (filter (gets b w k) (filter_map (row_at c now) xs)) (same ∙ at))
            ∙ ap (λ ns. node_in t x.id ∷ ns) rest
            ∙ ap (map (λ (y : Thread). node_in t y.id)) (sym (cond-true (is_ready c now all k x) (x ∷ filter (is_ready c now all k) xs) (filter (is_ready c now all k) xs) at))
        both false same at rest =
            ap (map (λ (row : ThreadRow). node_in t row.id))
            (cond-false (gets b w k (counted_row c now x)) (counted_row c now x ∷ filter (gets b w k) (filter_map (row_at c now) xs)) (filter (gets b w k) (filter_map (row_at c now) xs)) (same ∙ at))
            ∙ rest
            ∙ ap (map (λ (y : Thread). node_in t y.id)) (sym (cond-false (is_ready c now all k x) (x ∷ filter (is_ready c now all k) xs) (filter (is_ready c now all k) xs) at))

    -- the rows of a process that get something are those of its ready threads
    process-ready : (k p : ℕ) → p < length c.processes → begins c k now ≡ true
        → map node_on (filter (gets b w k) (rows_in t p)) ≡ map (λ (x : Thread). node_in t x.id) (filter (is_ready c now all k) (family c p all))
    process-ready k p known on =
        ap (λ rows. map node_on (filter (gets b w k) rows)) (rows-are laws c all t b w is p known)
        ∙ map-alike node_on (λ (row : ThreadRow). node_in t row.id) (filter (gets b w k) (rows_of t p))
        (λ row h. let r = filter-has (gets b w k) (rows_of t p) row h in let o = of-process p row known r.0 in o.node ∙ ap (λ (z : ThreadRow). node_in t z.id) (sym o.same))
        ∙ blind (λ (row : ThreadRow). node_in t row.id) (gets b w k) (rows_of t p) (λ row. refl) (λ row. refl)
        ∙ ap (λ rows. map (λ (row : ThreadRow). node_in t row.id) (filter (gets b w k) rows)) (is.rows.rows p known)
        ∙ counted-ready k (family c p all) on (λ x h. among-all laws c all t b w is p x known h)

    queue-begins : (k : ℕ) → begins c k now ≡ true → map node_on (filter (gets b w k) (all_rows t)) ≡ ready_nodes (node_in t) c now all k
    queue-begins k on = grind (arith, nat_tests, gets, flat-filter, process-ready)

    nobody-gets : (k : ℕ) (xs : List ThreadRow) → begins c k now ≡ false → filter (gets b w k) xs ≡ []
    nobody-gets k [] off = refl
    nobody-gets k (row ∷ xs) off = ap (λ on. cond on (row ∷ filter (gets b w k) xs) (filter (gets b w k) xs)) (none (eqb row.level k) refl) ∙ nobody-gets k xs off
      where
        none : (same : Bool) → eqb row.level k ≡ same → (begins_at w row.level && (same && not (eqb (share_in b w row) 0))) ≡ false
        none false at = first (begins_at w row.level) (not (eqb (share_in b w row) 0))
          where
            first : (v z : Bool) → (v && (false && z)) ≡ false
            first true z = refl
            first false z = refl
        none true at =
            ap (λ v. v && not (eqb (share_in b w row) 0)) (begins-is laws c e past t b w is row.level ∙ ap (λ i. begins c i now) (eqb-true row.level k at) ∙ off)

    -- the ready queues at the next tick
    pub ready-are : (k : ℕ) → k < length c.levels → queue_at (given b w (all_rows t) r0).ready.lists k ≡ ready_nodes (node_in t) c now all k
    ready-are k known =
        given-queue b w (all_rows t) r0 k (λ row h. (row-fits row h).1)
        ∙ (elim (cases_Bool (begins c k now)) [
          | inl on ↦ ap (λ queue. queue ++ map node_on (filter (gets b w k) (all_rows t))) (queue-empty k known on) ∙ queue-begins k on
          | inr off ↦ grind (arith, nat_tests, nobody-gets, append-nil, queue-stays)
        ])

    -- the seats
    pub seats-are : (x : Thread) → Has (threads c all) x → has_row c now x ≡ true → seat_at (given b w (all_rows t) r0) (node_in t x.id) ≡ seat_of c now all x
    seats-are x among there =
        elim (cases_Bool (begins c x.level now)) [
          | inl on ↦
              let r = row-for x among there in
              let level : r.row.level ≡ x.level = ap (λ (z : ThreadRow). z.level) r.same in
              let on' : begins_at w r.row.level ≡ true = ap (begins_at w) level ∙ begins-is laws c e past t b w is x.level ∙ on in
              ap (seat_at (given b w (all_rows t) r0)) (sym r.node)
              ∙ seat-of-row b w (all_rows t) r0 r.row all-apart r.among on' (row-fits r.row r.among).0
              ∙ ap (seat_in b w) r.same
              ∙ ap (seat-with x) (ap new_job (given-share x among on) ∙ sym (fresh x among on))
          | inr off ↦
              seat-other b w (all_rows t) r0 (node_in t x.id)
              (λ row h on same.
              (let o = of-row row h in
              let thread : o.thread ≡ x = nodes-apart o.thread x o.among among o.there there (sym o.node ∙ same) in
              let level : row.level ≡ x.level = level-is row o ∙ ap (λ (z : Thread). z.level) thread in
              let on' : begins c x.level now ≡ true = sym (begins-is laws c e past t b w is x.level) ∙ ap (begins_at w) (sym level) ∙ on in
              absurd (cc)))
              ∙ ap (seat_at r0) (kept-node x among there)
              ∙ seats0 x among (before x there)
              ∙ ap (seat-with x) (sym ((laws.keeps c e past is.checked is.accepted is.audited).jobs x among off))
        ]
      where
        seat-with : Thread → Job → Seat
        seat-with y j = record { thread = y.id; level = y.level; job = j }

        before : (y : Thread) → has_row c now y ≡ true → has_row c was y ≡ true
        before y h = row-before c was now y (omega arith) h

  -- The wishes.

  asks-is : (tick k : ℕ) (x : Thread) → Contains (asking c tick all k) x → Has (threads c all) x × (x.level ≡ k) × (0 < want c tick all x)
  asks-is tick k x h =
      let r = filter-has (λ y. eqb y.level k && ltb 0 (want c tick all y)) (threads c all) x (contains-has (asking c tick all k) x h) in
      let parts = and_parts (eqb x.level k) (ltb 0 (want c tick all x)) r.1 in
      (r.0, eqb-true x.level k parts.0, ltb-true 0 (want c tick all x) parts.1)

  -- a wish is of a thread that asks
  wisher : (k : ℕ) (vs : List Wish) (v : Wish) → AreCounted (node_in t0) c was all k vs → Has vs v
      → (x : Thread) × Has (threads c all) x × (x.level ≡ k) × (0 < want c was all x) × (v.node ≡ node_in t0 x.id)
  wisher k vs v counted h =
      let r = has-map (counted_wish (node_in t0) c was all) counted.0 v (subst (λ us. Has us v) counted.3 h) in
      let a = asks-is was k r.0 ((counted.1 r.0).0 (has-contains counted.0 r.0 r.1)) in
      (r.0, a.0, a.1, a.2, ap (λ (u : Wish). u.node) (sym r.2))

  other-nodes : (tick k : ℕ) (vs : List Wish) → ((x : Thread) → Contains (asking c tick all k) x → node_in t0 x.id ≡ node_in t x.id)
      → AreCounted (node_in t0) c tick all k vs → AreCounted (node_in t) c tick all k vs
  other-nodes tick k vs same counted = (
    counted.0,
    counted.1,
    counted.2,
    counted.3 ∙ map-alike (counted_wish (node_in t0) c tick all) (counted_wish (node_in t) c tick all) counted.0
        (λ x h. ap (wish-at x) (same x ((counted.1 x).0 (has-contains counted.0 x h)))),
  )
    where
      wish-at : Thread → ℕ → Wish
      wish-at x node = record (counted_wish (node_in t) c tick all x) { node = node }

  pub wishes-are : (ws : List (List Wish)) (k : ℕ) → k < length c.levels → AreCounted (node_in t0) c was all k (wishes_at ws k)
      → AreCounted (node_in t) c now all k (wishes_at (quieted w (all_rows t) ws) k)
  wishes-are ws k known counted =
      elim (cases_Bool (begins c k now)) [
        | inl on ↦
            let none : wishes_at (quieted w (all_rows t) ws) k ≡ [] =
            nothing-in (wishes_at (quieted w (all_rows t) ws) k)
            (λ v h.
            (let r = wishes-left b w (all_rows t) ws k v h in
            let x = wisher k (wishes_at ws k) v counted r.0 in
            let there = asked-there x.0 x.1 x.3 in
            let row = row-for x.0 x.1 there in
            let level : row.row.level ≡ k = ap (λ (z : ThreadRow). z.level) row.same ∙ x.2 in
            let on' : begins_at w row.row.level ≡ true = ap (begins_at w) level ∙ begins-is laws c e past t b w is k ∙ on in
            r.1 row.row row.among on' (row.node ∙ kept-node x.0 x.1 there ∙ sym x.4))) in
            subst (AreCounted (node_in t) c now all k) (sym none) (laws.wish_begins (node_in t) c all k (begins-start c k now on))
        | inr off ↦
            let same : wishes_at (quieted w (all_rows t) ws) k ≡ wishes_at ws k =
            wishes-stay b w (all_rows t) ws k
            (λ row v h on has node.
            (let o = of-row row h in
            let x = wisher k (wishes_at ws k) v counted has in
            let there = asked-there x.0 x.1 x.3 in
            let thread : o.thread ≡ x.0 =
            nodes-apart o.thread x.0 o.among x.1 o.there there (sym o.node ∙ node ∙ x.4 ∙ sym (kept-node x.0 x.1 there)) in
            let level : row.level ≡ k = level-is row o ∙ ap (λ (z : Thread). z.level) thread ∙ x.2 in
            let on' : begins c k now ≡ true = sym (begins-is laws c e past t b w is k) ∙ ap (begins_at w) (sym level) ∙ on in
            absurd (cc))) in
            let start = subst (λ m. window_start c k m ≡ window_start c k was) (sym (add-one was)) (stays laws c e past t b w is k known off) in
            let later : AreCounted (node_in t0) c now all k (wishes_at ws k) =
            subst (λ m. AreCounted (node_in t0) c m all k (wishes_at ws k)) (add-one was) (laws.wish_stays (node_in t0) c was all k (wishes_at ws k) start counted) in
            subst (AreCounted (node_in t) c now all k) (sym same)
            (other-nodes now k (wishes_at ws k)
            (λ x asks. let a = asks-is now k x asks in sym (kept-node x a.0 (asker-there x a.0 a.2))) later)
      ]

  -- The steps.

  -- the node is that of a thread that asked at the end of the tick
  abbrev Asked : ℕ → Type 0
  Asked node = (x : Thread) × Has (threads c all) x × (0 < want c was all x) × (node ≡ node_in t0 x.id)

  abbrev AreAsked : List (List Wish) → Type 0
  AreAsked ws = (k : ℕ) (v : Wish) → Has (wishes_at ws k) v → Asked v.node

  abbrev ones : ThreadRow → ℕ
  ones row = cond (begins_at w row.level && not (is_stopped row.state)) 1 0

  state-runs : (x : Thread) → x.stop ≡ None → is_stopped (state_of now x) ≡ false
  state-runs x runs = ap (λ (o : Option ℕ). is_stopped (cond (is_some o) State.Stopped (cond (ltb now x.start) State.Starting State.Live))) runs ∙ go (ltb now x.start)
    where
      go : (early : Bool) → is_stopped (cond early State.Starting State.Live) ≡ false
      go true = refl
      go false = refl

  -- who has a share of a window that begins was not stopped
  share-runs : (x : Thread) → Has (threads c all) x → 0 < share c all x now → x.stop ≡ None
  share-runs x among some = go x.stop refl
    where
      at : (x.id.process < length c.processes) × Has (family c x.id.process all) x
      at = place x among

      s : FamilyStands c all x.id.process
      s = stands laws c all t b w is x.id.process at.0

      stopped-share : (tick : ℕ) → x.stop ≡ Some tick → tick < now → share c all x now ≡ 0
      stopped-share tick stop less =
          let before : is_stopped_before now x ≡ true = ap (λ (o : Option ℕ). option_map_or (λ k. ltb k now) o false) stop ∙ lt-ltb tick now less in
          by-kind (is_main x) before
        where
          by-kind : (main : Bool) → is_stopped_before now x ≡ true → cond main (main_share c all x now) (child_share c x now) ≡ 0
          by-kind true on = cond-true (is_stopped_before now x) 0 (budget c x.id.process - lent_at c now (family c x.id.process all)) on
          by-kind false on =
              ap (λ v. cond ((not (is_void x) && leb x.start now) && not v) ((x.quota * period c x.level) / period c (main_level c x.id.process)) 0) on
              ∙ none (not (is_void x) && leb x.start now)
            where
              none : (v : Bool) → cond (v && false) ((x.quota * period c x.level) / period c (main_level c x.id.process)) 0 ≡ 0
              none true = refl
              none false = refl

      go : (o : Option ℕ) → x.stop ≡ o → x.stop ≡ None
      go None stop = stop
      go (Some tick) stop =
          let less : tick < now = elim (subst (λ rows. Has rows x) s.rows at.1) [
            | inl same ↦ s.stopped tick (ap (λ (z : Thread). z.stop) same ∙ stop)
            | inr child ↦ (s.each x child).stopped tick stop
          ] in
          let none = stopped-share tick stop less in
          absurd (omega (arith, none, some))

  -- a row that costs a step is one of a thread that runs on
  costs : (row : ThreadRow) → Has (all_rows t) row → begins_at w row.level ≡ true → (0 < share_in b w row) ⊎ Asked (node_on row) → ones row ≡ 1
  costs row h on why =
      let o = of-row row h in
      let runs : o.thread.stop ≡ None = reason o why in
      let state : is_stopped row.state ≡ false = ap (λ (z : ThreadRow). is_stopped z.state) o.same ∙ state-runs o.thread runs in
      ap (λ v. cond (v && not (is_stopped row.state)) 1 0) on ∙ ap (λ v. cond (not v) 1 0) state
    where
      reason : (o : OfRow row) → (0 < share_in b w row) ⊎ Asked (node_on row) → o.thread.stop ≡ None
      reason o (inl some) =
          let at = place o.thread o.among in
          let level = level-is row o in
          let on' : begins c o.thread.level now ≡ true = sym (begins-is laws c e past t b w is o.thread.level) ∙ ap (begins_at w) (sym level) ∙ on in
          let share-now : share_in b w row ≡ share c all o.thread now =
          ap (share_in b w) o.same ∙ share-is laws c all t b w is o.thread.id.process o.thread at.0 at.1 ∙ ap (share c all o.thread) (begins-start c o.thread.level now on') in
          share-runs o.thread o.among (omega (arith, share-now, some))
      reason o (inr asked) =
          let x = asked.0 in
          let there = asked-there x asked.1 asked.2 in
          let same : o.thread ≡ x = nodes-apart o.thread x o.among asked.1 o.there there (sym o.node ∙ asked.3 ∙ sym (kept-node x asked.1 there)) in
          ap (λ (z : Thread). z.stop) same ∙ laws.last c e past is.checked is.accepted is.audited x asked.1 asked.2

  asked-stay : (row : ThreadRow) (ws : List (List Wish)) → AreAsked ws → AreAsked (quieted_one w row ws)
  asked-stay row ws asked k v h = asked k v (wishes-left b w (row ∷ []) ws k v h).0

  steps-below : (xs : List ThreadRow) (ws : List (List Wish)) → ((row : ThreadRow) → Has xs row → Has (all_rows t) row) → AreAsked ws
      → given_steps b w xs ws ≤ 2 * sum_by ones xs
  steps-below [] ws among asked = omega arith
  steps-below (row ∷ xs) ws among asked =
      let rest = steps-below xs (quieted_one w row ws) (λ z h. among z (inr h)) (asked-stay row ws asked) in
      let more = sum_by-cons ones row xs in
      let here = one-step row ws (among row (inl refl)) asked in
      omega (arith, rest, more, here)
    where
      one-step : (row : ThreadRow) (ws : List (List Wish)) → Has (all_rows t) row → AreAsked ws → steps_of b w row ws ≤ 2 * ones row
      one-step row ws h asked = by-begin (begins_at w row.level) refl
        where
          some-share : (n : ℕ) → eqb n 0 ≡ false → 0 < n
          some-share n off = grind (arith, nat_tests)

          parts : begins_at w row.level ≡ true → (none wanted : Bool) → eqb (share_in b w row) 0 ≡ none → ltb 0 (wants (node_on row) ws) ≡ wanted
              → cond none 0 1 + cond wanted 1 0 ≤ 2 * ones row
          parts on true false at to = omega arith
          parts on false wanted at to = let one = costs row h on (inl (some-share (share_in b w row) at)) in few wanted one
            where
              few : (wanted : Bool) → ones row ≡ 1 → 1 + cond wanted 1 0 ≤ 2 * ones row
              few true one = omega (arith, one)
              few false one = omega (arith, one)
          parts on true true at to =
              let r = want-some (node_on row) ws (ltb-true 0 (wants (node_on row) ws) to) in
              let a = asked r.0 r.1 r.2 in
              let one = costs row h on (inr (a.0, a.1, a.2, sym r.3 ∙ a.3)) in
              omega (arith, one)

          by-begin : (on : Bool) → begins_at w row.level ≡ on
              → cond on (cond (eqb (share_in b w row) 0) 0 1 + cond (ltb 0 (wants (node_on row) ws)) 1 0) 0 ≤ 2 * ones row
          by-begin true on = parts on (eqb (share_in b w row) 0) (ltb 0 (wants (node_on row) ws)) refl refl
          by-begin false off = omega arith

  -- those rows are as many as the threads that were not stopped and whose windows begin
  abbrev one-each : Thread → ℕ
  one-each x = cond (is_none x.stop && begins c x.level now) 1 0

  ones-are : (p : ℕ) → p < length c.processes → sum_by ones (rows_in t p) ≡ sum_by one-each (family c p all)
  ones-are p known =
      ap (sum_by ones) (rows-are laws c all t b w is p known)
      ∙ sum-unplaced laws c all t b w is ones (rows_of t p) (λ row. refl)
      ∙ ap (sum_by ones) (is.rows.rows p known)
      ∙ sum-rows laws c all t b w is ones one-each (family c p all)
      (λ x h there. ap (λ v. cond (v && not (is_stopped (state_of now x))) 1 0) (begins-is laws c e past t b w is x.level) ∙ by-stop x x.stop refl (begins c x.level now))
      (λ x h none. gone x none)
    where
      early : (o : Option ℕ) (v s : Bool) → ◌≡◌ {A = ℕ} (cond (v && not (is_stopped (cond (is_some o) State.Stopped (cond s State.Starting State.Live)))) 1 0) (cond (is_none o && v) 1 0)
      early None true true = refl
      early None true false = refl
      early None false true = refl
      early None false false = refl
      early (Some k) true s = refl
      early (Some k) false s = refl

      by-stop : (x : Thread) (o : Option ℕ) → x.stop ≡ o → (v : Bool)
          → ◌≡◌ {A = ℕ} (cond (v && not (is_stopped (state_of now x))) 1 0) (cond (is_none x.stop && v) 1 0)
      by-stop x o at v = early x.stop v (ltb now x.start)

      gone : (x : Thread) → has_row c now x ≡ false → one-each x ≡ 0
      gone x none = by x.stop refl
        where
          or-true : (m : Bool) → (m || true) ≡ true
          or-true true = refl
          or-true false = refl

          by : (o : Option ℕ) → x.stop ≡ o → one-each x ≡ 0
          by None stop = let there : has_row c now x ≡ true = rw stop (or-true (is_main x)) in absurd (cc)
          by (Some k) stop = ap (λ (o : Option ℕ). cond (is_none o && begins c x.level now) 1 0) stop

  ones-from : (low n : ℕ) → low + n ≤ length c.processes → sum_by ones (rows_from t low n) ≡ sum_from low n (λ p. sum_by one-each (family c p all))
  ones-from low zero within = refl
  ones-from low (suc n) within = grind (arith, nat_tests, ones-are, sum_by-append, ones-from (suc low) n)

  pub steps-few : (ws : List (List Wish)) → length ws ≡ length c.levels → ((k : ℕ) → k < length c.levels → AreCounted (node_in t0) c was all k (wishes_at ws k))
      → given_steps b w (all_rows t) ws ≤ 2 * released_now c all
  steps-few ws many counted =
      let asked : AreAsked ws = λ k v h.
      (elim (cases_lt k (length c.levels)) [
        | inl known ↦ let r = wisher k (wishes_at ws k) v (counted k known) h in (r.0, r.1, r.3, r.4)
        | inr beyond ↦ absurd (subst (λ vs. Has vs v) (past-end ws k (omega (arith, many, beyond))) h)
      ]) in
      let few = steps-below (all_rows t) ws (λ row h. h) asked in
      let processes : sum_by ones (all_rows t) ≡ sum_from 0 (length c.processes) (λ p. sum_by one-each (family c p all)) = grind (arith, nat_tests, ones-from) in
      let flat : sum_by one-each (threads c all) ≡ sum_from 0 (length c.processes) (λ p. sum_by one-each (family c p all)) = grind (arith, nat_tests, sum_by-flat) in
      let whole : released_now c all ≡ sum_by one-each (threads c all) = refl in
      omega (arith, few, processes, flat, whole)
    where
      past-end : (ws : List (List Wish)) (k : ℕ) → length ws ≤ k → wishes_at ws k ≡ []
      past-end [] k h = refl
      past-end (v ∷ ws) zero h = absurd (omega arith)
      past-end (v ∷ ws) (suc k) h = past-end ws k (omega arith)
