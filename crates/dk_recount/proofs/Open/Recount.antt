-- The tables of a closed tick are those of the next one once it is opened.
use Rattle.dk_recount.proofs.Names.{◌≡◌, ◌<◌, ◌≤◌, ◌+◌, ◌*◌, ◌∙◌, inl, inr, Bool, true, false, cond, ℕ, zero, suc, List, [], ◌∷◌, length, map, refl, ap, sym, subst, arith, cases_Bool, cond-false, length-map, sum_by-cons, MAX_THREADS, Configuration, numbers, below, length-numbers, length-map-numbers, Entry, Has, Job, Audited, Clock, clock_at, begins_at, ThreadRow, Table, AreFamilies, AreThreads, Book, ArePeriods, recount, periods-sound, Cells, AreCells, Wish, Roster, begins, begins-faster, Tables, IsSound, IsRecount, IsClosed, IsReady, kernel_part, releases_of, MayBegin, all_rows, begin_steps, begun, begun_if, cell_steps, cells_begun, cells_set, counts_begun, due, due_threads, given, open_steps, opened, own_in, parts_begun, quieted, remaining_in, moved, nat_tests}
use Rattle.dk_recount.proofs.Open.Sizes.{given-switch, quieted-length, cells-windows}
use Rattle.dk_recount.proofs.Open.Moved.{released-moved, released_now}
use Rattle.dk_recount.proofs.Open.Due.{Laws, IsDue}
use Rattle.dk_recount.proofs.Open.Cells.{begins-is, cells-are, kernel-are, counts-are}
use Rattle.dk_recount.proofs.Open.Seats.{rows-known, rows-sit, rows-off, ready-are, seats-are, wishes-are, steps-few}

-- Where no window begins nothing changes.

given-idle : (b : Book) (w : Clock) (rows : List ThreadRow) (r : Roster) → ((row : ThreadRow) → Has rows row → begins_at w row.level ≡ false) → given b w rows r ≡ r
given-idle b w [] r off = refl
given-idle b w (row ∷ rows) r off = grind (arith, nat_tests, cond-false, given-idle b w rows)

quieted-idle : (w : Clock) (rows : List ThreadRow) (wishes : List (List Wish)) → ((row : ThreadRow) → Has rows row → begins_at w row.level ≡ false) → quieted w rows wishes ≡ wishes
quieted-idle w [] wishes off = refl
quieted-idle w (row ∷ rows) wishes off = grind (arith, nat_tests, cond-false, quieted-idle w rows)

cells-idle : (R : List ℕ) (t : Table) (b : Book) (L k n : ℕ) (z : Cells) → k + n ≤ L → ((j : ℕ) → j < L → begins_at z.windows j ≡ false)
    → cells_begun R t b (numbers k n) z ≡ z
cells-idle R t b L k zero z within off = refl
cells-idle R t b L k (suc n) z within off =
    ap (cells_begun R t b (numbers (suc k) n))
    (cond-false (begins_at z.windows k) (cells_set k (own_in R t b z.windows k) (remaining_in R t b z.windows k) z) z (off k (omega arith)))
    ∙ cells-idle R t b L (suc k) n z (omega arith) off

parts-idle : (R : List ℕ) (w : Clock) (L k n : ℕ) (parts : List Job) → k + n ≤ L → ((j : ℕ) → j < L → begins_at w j ≡ false) → parts_begun R w (numbers k n) parts ≡ parts
parts-idle R w L k zero parts within off = refl
parts-idle R w L k (suc n) parts within off = grind (arith, nat_tests, cond-false, parts-idle R w L (suc k) n)

counts-idle : (w : Clock) (L k n : ℕ) (ns : List ℕ) → k + n ≤ L → ((j : ℕ) → j < L → begins_at w j ≡ false) → counts_begun w (numbers k n) ns ≡ ns
counts-idle w L k zero ns within off = refl
counts-idle w L k (suc n) ns within off = grind (arith, nat_tests, cond-false, counts-idle w L (suc k) n)

module _ (laws : Laws) (c : Configuration) (e : Entry) (past : List Entry) (d : Tables) (stands : IsClosed c e past d) (audited : Audited c (e ∷ past))
    (sound : IsSound d) (before : AreFamilies d.threads.levels d.threads.families) (after : AreFamilies (due d).threads.levels (due d).threads.families) where
  abbrev all : List Entry
  all = e ∷ past

  abbrev now : ℕ
  now = length all

  abbrev was : ℕ
  was = length past

  abbrev w : Clock
  w = d.demand.windows

  tick : w.tick ≡ now
  tick = stands.clock

  windows : w ≡ clock_at c now
  windows = grind (arith, nat_tests, tick)

  loans-are : (due d).loans ≡ recount c now all
  loans-are = grind (arith, nat_tests, tick)

  made : (due d).threads ≡ due_threads now d.threads
  made = ap (λ k. due_threads k d.threads) tick

  rows-are : AreThreads c now all (due d).threads
  rows-are = subst (AreThreads c now all) (sym made) (laws.threads c e past d.threads before stands.recount.rows)

  is-due : IsDue c all (due d).threads (due d).loans w
  is-due = grind (arith, nat_tests, windows, rows-are, loans-are)

  levels-are : length d.kernel ≡ length c.levels
  levels-are = ap length stands.recount.kernel ∙ length-map-numbers (kernel_part c was all) 0 (length c.levels)

  families-are : length (due d).threads.families ≡ length d.threads.families
  families-are = length-map (map _ d.threads.families) _ ∙ length-map d.threads.families _

  lists-are : length d.jobs.ready.lists ≡ length c.levels
  lists-are = grind (arith, nat_tests, levels-are)

  nodes-are : length d.jobs.seats ≡ MAX_THREADS * length (due d).threads.families
  nodes-are = let a = sound.nodes in let b = families-are in omega (arith, a, b)

  pub may : MayBegin (due d)
  may = record {
    periods = subst ArePeriods (ap (λ (v : Clock). v.periods) (sym windows)) (periods-sound c stands.ruled.checked stands.ruled.limits);
    known = rows-known laws c e past d.threads (due d).threads (due d).loans w is-due stands.recount.rows made;
    seats = rows-sit laws c e past d.threads (due d).threads (due d).loans w is-due stands.recount.rows made d.jobs lists-are nodes-are
        stands.recount.jobs.seats stands.recount.jobs.ready;
  }

  recount-begun : IsRecount c now all (begun (due d))
  recount-begun =
      let L = length c.levels in
      let R = stands.recount.releases in
      let t = (due d).threads in
      let b = (due d).loans in
      let old = stands.recount in
      let cells : AreCells c all (cells_begun d.releases t b (below (length d.kernel)) d.demand) =
      subst (λ rs. AreCells c all (cells_begun rs t b (below (length d.kernel)) d.demand)) (sym R)
      (subst (λ n. AreCells c all (cells_begun (releases_of c) t b (below n) d.demand)) (sym levels-are)
      (cells-are laws c e past t b w is-due d.demand refl old.cells)) in
      record {
        tick = ap (λ (v : Clock). v.tick) (cells-windows d.releases t b (below (length d.kernel)) d.demand) ∙ tick;
        rows = rows-are;
        loans = loans-are;
        holders = old.holders;
        own_levels = old.own_levels;
        cells = cells;
        wishes = record {
          nodes = old.wishes.nodes;
          switch = old.wishes.switch;
          levels = quieted-length b w (all_rows t) d.slack.wishes ∙ old.wishes.levels;
          wishes = λ k known. wishes-are laws c e past d.threads t b w is-due old.rows made d.slack.wishes k known (old.wishes.wishes k known);
          unclaimed = ap (λ n. counts_begun w (below n) d.slack.unclaimed) levels-are ∙ counts-are laws c e past t b w is-due d.slack.unclaimed old.wishes.unclaimed;
          spares = old.wishes.spares;
        };
        jobs = record {
          switch = given-switch b w (all_rows t) d.jobs ∙ old.jobs.switch;
          seats = λ x among there. seats-are laws c e past d.threads t b w is-due old.rows made d.jobs lists-are nodes-are old.jobs.seats old.jobs.ready x among there;
          ready = λ k known. ready-are laws c e past d.threads t b w is-due old.rows made d.jobs lists-are nodes-are old.jobs.seats old.jobs.ready k known;
        };
        kernel = ap (λ rs. parts_begun rs w (below (length d.kernel)) d.kernel) R ∙ ap (λ n. parts_begun (releases_of c) w (below n) d.kernel) levels-are
            ∙ kernel-are laws c e past t b w is-due d.kernel old.kernel;
        releases = old.releases;
        rights = old.rights;
      }

  -- where none of level 0 begins none begins
  none-begins : begins_at w 0 ≡ false → (k : ℕ) → k < length c.levels → begins_at w k ≡ false
  none-begins off k known =
      let t = (due d).threads in
      let b = (due d).loans in
      elim (cases_Bool (begins_at w k)) [
        | inr off' ↦ off'
        | inl on ↦
            let on' : begins c k now ≡ true = sym (begins-is laws c e past t b w is-due k) ∙ on in
            let first : begins_at w 0 ≡ true =
            begins-is laws c e past t b w is-due 0 ∙ begins-faster c 0 k now (stands.ruled.checked.divides 0 k (omega arith) known) on' in
            absurd (cc)
      ]

  idle : begins_at w 0 ≡ false → begun (due d) ≡ due d
  idle off =
      let t = (due d).threads in
      let b = (due d).loans in
      let none = none-begins off in
      let rows = rows-off laws c e past d.threads t b w is-due stands.recount.rows made none in
      let k = levels-are in
      same (cells-idle d.releases t b (length c.levels) 0 (length d.kernel) d.demand (omega (arith, k)) none)
      (quieted-idle w (all_rows t) d.slack.wishes rows)
      (counts-idle w (length c.levels) 0 (length d.kernel) d.slack.unclaimed (omega (arith, k)) none)
      (given-idle b w (all_rows t) d.jobs rows)
      (parts-idle d.releases w (length c.levels) 0 (length d.kernel) d.kernel (omega (arith, k)) none)
    where
      same : {z z' : Cells} {v v' : List (List Wish)} {u u' : List ℕ} {r r' : Roster} {p p' : List Job} → z ≡ z' → v ≡ v' → u ≡ u' → r ≡ r' → p ≡ p'
          → ◌≡◌ {A = Tables} (record (due d) { demand = z; slack = record d.slack { wishes = v; unclaimed = u }; jobs = r; kernel = p })
          (record (due d) { demand = z'; slack = record d.slack { wishes = v'; unclaimed = u' }; jobs = r'; kernel = p' })
      same one two three four five = rw (one, two, three, four, five) refl

  recount-if : IsRecount c now all (begun_if (due d))
  recount-if = go (begins_at w 0) refl
    where
      go : (on : Bool) → begins_at w 0 ≡ on → IsRecount c now all (cond on (begun (due d)) (due d))
      go true on = recount-begun
      go false off = subst (IsRecount c now all) (idle off) recount-begun

  pub opens : IsReady c all (opened d)
  opens = grind (arith, nat_tests, recount-if)

  cell-few : (ks : List ℕ) → cell_steps w ks ≤ 3 * length ks
  cell-few [] = omega arith
  cell-few (k ∷ ks) =
      let rest = cell-few ks in
      let more = sum_by-cons (λ j. cond (begins_at w j) 3 0) k ks in
      let one = at-most (begins_at w k) in
      omega (arith, rest, more, one)
    where
      at-most : (on : Bool) → cond on 3 0 ≤ 3
      at-most true = omega arith
      at-most false = omega arith

  -- three steps at most for each level, and two for each thread that the tick moves
  pub few-steps : open_steps d ≤ 3 * length c.levels + 2 * moved c all
  few-steps = let few = by-begin (begins_at w 0) in let less = released-moved c e past in omega (arith, few, less)
    where
      begin-few : begin_steps (due d) ≤ 3 * length c.levels + 2 * released_now c all
      begin-few =
          let given' = steps-few laws c e past d.threads (due d).threads (due d).loans w is-due stands.recount.rows made d.slack.wishes
          stands.recount.wishes.levels stands.recount.wishes.wishes in
          let cells = cell-few (below (length d.kernel)) in
          let many = length-numbers 0 (length d.kernel) in
          let levels = levels-are in
          omega (arith, given', cells, many, levels)

      by-begin : (on : Bool) → cond on (begin_steps (due d)) 0 ≤ 3 * length c.levels + 2 * released_now c all
      by-begin true = begin-few
      by-begin false = omega arith
