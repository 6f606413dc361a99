-- What the tables of a charged tick owe the create of a main that executes in it.
use Rattle.dk_recount.proofs.Names.{◌≡◌, ◌<◌, ◌∙◌, inl, Bool, true, false, eqb, ltb, ℕ, List, [], ◌∷◌, length, map, Option, Some, None, refl, ap, sym, subst, arith, nat_lt, nat_le, slice_get, filter, filter_map, if◌then◌else◌, option_map_or, and_parts, ltb-true, lt-ltb, ltb-false, leb-false, nat_tests, MAX_TICKS, Configuration, IsChecked, IsAccepted, max_level, ThreadId, Label, Event, Entry, is_same, is_of, quiet, Has, Thread, threads, family, is_main, thread_rem, create_refusal, standing_children, Audited, Follows, ThreadFollows, row_of, same-self, has-map, filter-has, family-charged, family-few, family-among, levels-slots, is-lent, Always, AtEachEntry, AtEachTick, TickLowersRem, AbsentHaveNothing, FamiliesStand, RowsAreNamed, FamilyStands, CallersRun, threads-charged, State, ThreadRow, Family, AreFamilies, rows_of, has_room, has_serials, is_running, stands, has_row, row_at, counted_row, unplaced, state_of, main_id, FreesSlots, rows-lent, running-row, row-there, lend_refusal, RefusesLoans, queue_at, holds, none-holds, no-holder, Tables, IsSound, node_in, is_ready, ready_nodes, IsRecount, IsCalling, MayCreate, create_refusal_in, free_node, length-map}
use Rattle.dk_config.specs.Windows.{slots}
use Rattle.dk_recount.proofs.Stop.Present.{worker-has-row}
use Rattle.dk_recount.proofs.Create.Node.{apart, below-nodes}

pub record Laws : Type 0 where
  pub families : Always FamiliesStand
  pub named : Always RowsAreNamed
  pub absent : Always AbsentHaveNothing
  pub callers : AtEachEntry CallersRun
  pub lowers : AtEachTick TickLowersRem
  pub refusals : RefusesLoans
  pub free : FreesSlots

-- a create that isn't refused is a main's, and the loans don't refuse it
pub lend-none : (d : Tables) (x : ThreadId) (level quota entry instructions : ℕ) → create_refusal_in d x level quota entry instructions ≡ None
    → (eqb x.serial 0 ≡ true) × (lend_refusal d.loans x.process level quota entry instructions ≡ None)
lend-none d x level quota entry instructions none = grind (arith, nat_tests)

module _ (laws : Laws) (c : Configuration) (label : Label) (past : List Entry) (d : Tables) (x : Thread) (level quota entry instructions : ℕ)
    (sound : IsSound d) (are : AreFamilies d.threads.levels d.threads.families) (early : d.demand.windows.tick < MAX_TICKS)
    (calling : IsCalling x.id c label past d) (among : Has (threads c past) x) (main : is_main x ≡ true) where
  abbrev now : ℕ
  now = length past

  abbrev before : List Entry
  before = quiet label ∷ past

  abbrev p : ℕ
  p = x.id.process

  rec : IsRecount c now before d
  rec = calling.charged.recount

  checked : IsChecked c
  checked = calling.charged.ruled.checked

  accepted : IsAccepted c
  accepted = calling.charged.ruled.accepted

  audited : Audited c past
  audited = calling.charged.ruled.audited

  pub known : p < length c.processes
  known = ((laws.named c past checked accepted audited).place x among).0

  pub stood : FamilyStands c past p
  stood = laws.families c past checked accepted audited p known

  pub main-is : x.id ≡ main_id p
  main-is = (let z : x.id.serial ≡ 0 = zero-is x.id.serial main in ap (λ s. record { process = p; serial = s }) z)
    where
      zero-is : (n : ℕ) → eqb n 0 ≡ true → n ≡ 0
      zero-is n h = grind (arith, nat_tests)

  pub found : row_of c past x.id ≡ Some stood.main
  found = grind (arith, nat_tests, stood, main-is, same-self)

  -- an exit of the thread follows the rules in this tick, and so it hasn't been stopped
  stop-none : stood.main.stop ≡ None
  stop-none =
      let e : Entry = record { label = label; event = Some Event.Exit } in
      let acts : ThreadFollows c past e x.id = grind (arith, nat_tests, found) in
      let follows : Follows c past e = grind (arith, nat_tests) in
      let there : Has (family c p past) stood.main = subst (λ xs. Has xs stood.main) (sym stood.rows) (inl refl) in
      let mine : is_of stood.main.id e ≡ true = ap (λ o. option_map_or (is_same stood.main.id) o false) calling.caller ∙ subst (λ i. is_same i x.id ≡ true) (main-is ∙ sym stood.id) (same-self x.id) in
      laws.callers c e past checked accepted (audited, follows) stood.main Event.Exit (family-among c p past stood.main known there) mine refl

  rows-here : map unplaced (rows_of d.threads p) ≡ counted_row c now stood.main ∷ filter_map (row_at c now) stood.children
  rows-here = grind (arith, nat_tests, stood, running-row, stop-none, rec, known, family-charged)

  fam : (f : Family) × (slice_get d.threads.families p ≡ Some f)
  fam = go (slice_get d.threads.families p) refl
    where
      go : (o : Option Family) → slice_get d.threads.families p ≡ o → (f : Family) × (slice_get d.threads.families p ≡ Some f)
      go (Some f) at = (f, at)
      go None at =
          let none-rows : [] ≡ counted_row c now stood.main ∷ filter_map (row_at c now) stood.children = grind (arith, nat_tests, rows-here) in
          absurd (cc)

  rows-fam : unplaced fam.0.main ∷ map unplaced fam.0.children ≡ counted_row c now stood.main ∷ filter_map (row_at c now) stood.children
  rows-fam = sym (ap (λ o. map unplaced (option_map_or (λ (z : Family). z.main ∷ z.children) o [])) fam.1) ∙ rows-here

  main-state : fam.0.main.state ≡ state_of now stood.main
  main-state = let first : unplaced fam.0.main ≡ counted_row c now stood.main = cons-first rows-fam in ap (λ (r : ThreadRow). r.state) first
    where
      cons-first : {a b : ThreadRow} {xs ys : List ThreadRow} → a ∷ xs ≡ b ∷ ys → a ≡ b
      cons-first h = cc

  pub standing : stands d.threads p ≡ true
  standing =
      ap (λ o. option_map_or (λ (f : Family). is_running f.main) o false) fam.1
      ∙ ap (λ s. is_running (record fam.0.main { state = s })) main-state ∙ ap (λ o. is_running (record fam.0.main { state = state_of now (record stood.main { stop = o }) })) stop-none
      ∙ started (ltb now stood.main.start)
    where
      started : (b : Bool) → is_running (record fam.0.main { state = (if b then State.Starting else State.Live) }) ≡ true
      started true = refl
      started false = refl

  serials : has_serials d.threads p ≡ true
  serials = grind (arith, nat_tests, rec, known, family-charged, family-few, lt-ltb)

  -- what isn't refused
  module _ (none : lend_refusal d.loans p level quota entry instructions ≡ None) where
    past-none : create_refusal c now before x level quota entry instructions ≡ None
    past-none = grind (arith, nat_tests, known, rec, laws.refusals c now before x level quota entry instructions known main)

    within : (nat_lt (max_level c p) level ≡ false) × (nat_le (slots c p) (length (standing_children c now before p)) ≡ false)
    within = grind (arith, nat_tests, levels-slots, past-none)

    pub fits : level < length c.levels
    fits = grind (arith, nat_tests, ltb-false, within, checked, known)

    slots-left : length (standing_children c now before p) < slots c p
    slots-left = leb-false (slots c p) (length (standing_children c now before p)) within.1

    kids-many : length fam.0.children ≡ length (standing_children c now before p)
    kids-many =
        let kids : map unplaced fam.0.children ≡ filter_map (row_at c now) stood.children = cons-rest rows-fam in
        let main-off : is_main stood.main ≡ true = ap (λ (i : ThreadId). eqb i.serial 0) stood.id in
        sym (length-map fam.0.children unplaced) ∙ ap length kids ∙ rows-lent c now stood.children (λ y h. (stood.each y h).child)
        ∙ sym (first-off main-off)
        ∙ sym (ap (λ xs. length (filter (is-lent c now) xs)) (family-charged c p label past ∙ stood.rows))
      where
        cons-rest : {a b : ThreadRow} {xs ys : List ThreadRow} → a ∷ xs ≡ b ∷ ys → xs ≡ ys
        cons-rest h = cc

        first-off : is_main stood.main ≡ true → length (filter (is-lent c now) (stood.main ∷ stood.children)) ≡ length (filter (is-lent c now) stood.children)
        first-off on = rw on refl

    pub room : has_room d.threads p ≡ true
    room = grind (arith, nat_tests, slots-left, kids-many, fam, rec, known, lt-ltb)

    worker : (y : Thread) → Has (threads c past) y → 0 < thread_rem c now before y → has_row c now y ≡ true
    worker y h some = grind (arith, nat_tests, checked, accepted, audited, worker-has-row, laws.lowers c label past checked accepted audited calling.charged.chose y h, laws.absent c past checked accepted audited)

    queue-free : (k : ℕ) → k < length d.jobs.ready.lists → holds (free_node d.threads p) (queue_at d.jobs.ready.lists k) ≡ false
    queue-free k less =
        let many : length d.jobs.ready.lists ≡ length c.levels = sound.queues ∙ sym sound.levels ∙ rec.rows.levels in
        none-holds (free_node d.threads p) (queue_at d.jobs.ready.lists k) (λ n h. at n (subst (λ q. Has q n) (rec.jobs.ready k (omega (arith, many, less))) h))
      where
        at : (n : ℕ) → Has (ready_nodes (node_in d.threads) c now before k) n → eqb (free_node d.threads p) n ≡ false
        at n h =
            let r = has-map (λ (y : Thread). node_in d.threads y.id) (filter (is_ready c now before k) (threads c before)) n h in
            let t = filter-has (is_ready c now before k) (threads c before) r.0 r.1 in
            let old : Has (threads c past) r.0 = subst (λ xs. Has xs r.0) (threads-charged c label past) t.0 in
            let parts = and_parts (eqb r.0.level k) (nat_lt 0 (thread_rem c now before r.0)) t.1 in
            let there = worker r.0 old (ltb-true 0 (thread_rem c now before r.0) parts.1) in
            let place = (laws.named c past checked accepted audited).place r.0 old in
            let row = row-there c now before d.threads r.0 rec.rows place.0 (subst (λ xs. Has xs r.0) (sym (family-charged c r.0.id.process label past)) place.1) there in
            subst (λ m. eqb (free_node d.threads p) m ≡ false) r.2 (apart laws.free d.threads p are room standing r.0.id row)

  pub may-create : MayCreate p level quota entry instructions d
  may-create = record {
    process = (let a = sound.lenders in let b = rec.rows.processes in let h = known in omega (arith, a, b, h));
    serials = serials;
    stands = standing;
    room = λ none. room none;
    known = λ none. (let a = fits none in let b = rec.rows.levels in omega (arith, a, b));
    node = λ none. (let a = below-nodes laws.free d.threads p are (room none) standing in let b = sound.nodes in omega (arith, a, b));
    free = λ none. no-holder (free_node d.threads p) d.jobs.ready.lists 0 (queue-free none);
  }
