-- Two kernels of a run, thread by thread.
use Rattle.dk_cycle_start.proofs.Names.{ℕ, zero, suc, ◌≡◌, ◌+◌, ◌<◌, ◌≤◌, ◌∙◌, inl, inr, true, false, List, [], ◌∷◌, length, map, Option, Some, None, refl, sym, ap, subst, arith, slice_get, is_some, nat_lt, option_map, cases_Bool, cases_eq, or-true, MAX_THREADS, Configuration, ThreadId, Has, Thread, family, is_main, filter-has, get-has, has-filter, has-map, map-has, ThreadRow, is_stopped, counted_row, state_of, Standing, standing, Running, trace_of, world_of, is_shown, IsRowAt, IsThereIn, now_of, thread-of-row, AreImagesAlike, AreComparable, AreDifferent, HasOtherContext, HasOtherMemory, IsSameAt, IsSameImage, IsSameMemory, context_of}
use Rattle.dk_inspect.specs.Printing.{shown_of}
use Rattle.dk_cycle_start.proofs.Readers.{found-running}

has-place : {X : Type 0} (xs : List X) (x : X) → Has xs x → (i : ℕ) × (i < length xs) × (slice_get xs i ≡ Some x)
has-place [] x h = absurd h
has-place (y ∷ ys) x (inl is) = (zero, omega arith, ap Some is)
has-place (y ∷ ys) x (inr h) = let r = has-place ys x h in let low = r.1 in (suc r.0, omega (arith, low), r.2)

running-shown : (c : Configuration) (n : ℕ) (x : Thread) → x.stop ≡ None → is_shown c n x ≡ true
running-shown c n x running = rw running (or-true (is_main x))

shown-has : (k : Running) (p : ℕ) (x : Thread) → Has (family k.config p (trace_of k)) x → x.stop ≡ None → Has (shown_of k p) x
unfolding shown_of
shown-has k p x has running =
    has-filter (is_shown k.config (now_of k)) (family k.config p (trace_of k)) x has (running-shown k.config (now_of k) x running)

has-shown : (k : Running) (p : ℕ) (x : Thread) → Has (shown_of k p) x → Has (family k.config p (trace_of k)) x
unfolding shown_of
has-shown k p x has = (filter-has (is_shown k.config (now_of k)) (family k.config p (trace_of k)) x has).0

stopped-state : (n : ℕ) (x : Thread) → is_stopped (state_of n x) ≡ is_some x.stop
stopped-state n x =
    elim (cases_Bool (is_some x.stop)) [
      | inl stopped ↦ rw stopped refl
      | inr runs ↦
          elim (cases_Bool (nat_lt n x.start)) [
            | inl waits ↦ rw (runs, waits) refl
            | inr started ↦ rw (runs, started) refl
          ]
    ]

none-of : (o : Option ℕ) → is_some o ≡ false → o ≡ None
none-of None is = refl
none-of (Some n) is = absurd (let never : true ≡ false = is in cc)

-- the thread of a row at a place, that runs on
pub record RunsAt (k : Running) (p place : ℕ) (id : ThreadId) : Type 0 where
  pub thread : Thread
  pub at : slice_get (shown_of k p) place ≡ Some thread
  pub among : Has (family k.config p (trace_of k)) thread
  pub name : id ≡ thread.id
  pub running : thread.stop ≡ None

pub runs-at : (k : Running) (p place : ℕ) (row : ThreadRow) → IsRowAt k p place (Some row) → is_stopped row.state ≡ false → RunsAt k p place row.id
runs-at k p place row is runs =
    let t = thread-of-row k p place row is in
    record {
      thread = t.thread;
      at = t.at;
      among = has-shown k p t.thread (get-has (shown_of k p) place t.thread t.at);
      name = t.same.0;
      running = none-of t.thread.stop (sym (stopped-state (now_of k) t.thread) ∙ sym (ap is_stopped t.same.1) ∙ runs);
    }

-- it is there in the other too
standing-there : (xs ys : List Thread) (x : Thread) → map standing xs ≡ map standing ys → Has xs x → x.stop ≡ None
    → (y : Thread) × Has ys y × (y.id ≡ x.id) × (y.stop ≡ None)
standing-there xs ys x same has running =
    let one : Has (map standing ys) (standing x) = subst (λ zs. Has zs (standing x)) same (map-has standing xs x has) in
    let y = has-map standing ys (standing x) one in (
      y.0,
      y.1,
      ap (λ (s : Standing). s.id) y.2,
      none-of y.0.stop (ap (λ (s : Standing). s.stopped) y.2 ∙ ap is_some running),
    )

pub there-later : (k l : Running) (p place : ℕ) (id : ThreadId) → AreComparable k l → p < length k.config.processes → RunsAt k p place id → id.process ≡ p → IsThereIn l p id
there-later k l p place id both known on process =
    let y = standing-there (family k.config p (trace_of k)) (family k.config p (trace_of l)) on.thread (both.threads p known) on.among on.running in
    let among : Has (family l.config id.process (trace_of l)) y.0 =
    subst (λ (c : Configuration). Has (family c id.process (trace_of l)) y.0) (sym both.config)
    (subst (λ q. Has (family k.config q (trace_of l)) y.0) (sym process) y.1) in
    let low : id.process < length l.config.processes =
    subst (λ (c : Configuration). id.process < length c.processes) (sym both.config) (subst (λ q. q < length k.config.processes) (sym process) known) in
    record {
      process = process;
      there = found-running l.config l.programs l.ticks id (record { process = low; row = y.0; among = among; name = y.2 ∙ sym on.name; running = y.3 });
    }

some-same : {X : Type 0} {a b : X} → Some a ≡ Some b → a ≡ b
some-same is = cc

-- ---- the thread at a place

pub nobody-at : (k l : Running) (p place : ℕ) → IsRowAt k p place None → IsSameAt k l p place
nobody-at k l p place is = λ x at running.
    let none : None ≡ Some (counted_row k.config (now_of k) x) = is ∙ ap (option_map (counted_row k.config (now_of k))) at in absurd (cc)

pub stopped-at : (k l : Running) (p place : ℕ) (row : ThreadRow) → IsRowAt k p place (Some row) → is_stopped row.state ≡ true → IsSameAt k l p place
stopped-at k l p place row is stopped = λ x at running.
    let t = thread-of-row k p place row is in
    let one : t.thread ≡ x = some-same (sym t.at ∙ at) in
    let state : true ≡ is_some x.stop =
    sym stopped ∙ ap is_stopped t.same.1 ∙ stopped-state (now_of k) t.thread ∙ ap (λ (y : Thread). is_some y.stop) one in
    let never : true ≡ false = state ∙ ap is_some running in
    absurd (cc)

pub same-at : (k l : Running) (p place : ℕ) (id : ThreadId) → RunsAt k p place id → id.process ≡ p → context_of k id ≡ context_of l id → IsSameAt k l p place
same-at k l p place id on process same = λ x at running.
    let one : on.thread ≡ x = some-same (sym on.at ∙ at) in
    let name : id.serial ≡ x.id.serial = ap (λ (i : ThreadId). i.serial) on.name ∙ ap (λ (y : Thread). y.id.serial) one in
    subst (λ n. ((world_of k).images p).contexts n ≡ ((world_of l).images p).contexts n) name
    (subst (λ q. ((world_of k).images q).contexts id.serial ≡ ((world_of l).images q).contexts id.serial) process same)

pub other-at : (k l : Running) (p place : ℕ) (id : ThreadId) → RunsAt k p place id → id.process ≡ p → (context_of k id ≡ context_of l id → ⊥) → HasOtherContext k l p
other-at k l p place id on process other = record {
  thread = on.thread;
  among = on.among;
  running = on.running;
  other = λ same.
      let name : on.thread.id.serial ≡ id.serial = sym (ap (λ (i : ThreadId). i.serial) on.name) in
      other (subst (λ q. ((world_of k).images q).contexts id.serial ≡ ((world_of l).images q).contexts id.serial) (sym process)
      (subst (λ n. ((world_of k).images p).contexts n ≡ ((world_of l).images p).contexts n) name same));
}

-- ---- all places, and all processes

pub places-more : (k l : Running) (p place : ℕ) → ((i : ℕ) → i < place → IsSameAt k l p i) → IsSameAt k l p place → (i : ℕ) → i < place + 1 → IsSameAt k l p i
places-more k l p place before here i less =
    elim (cases_eq place i) [
      | inl same ↦ subst (IsSameAt k l p) same here
      | inr other ↦ before i (omega (arith, less, other))
    ]

pub same-image : (k l : Running) (p many : ℕ) → length (shown_of k p) ≤ MAX_THREADS → MAX_THREADS ≤ many → ((i : ℕ) → i < many → IsSameAt k l p i) → IsSameImage k l p
same-image k l p many few enough all = λ x has running.
    let r = has-place (shown_of k p) x (shown-has k p x has running) in
    let low = r.1 in
    all r.0 (omega (arith, low, few, enough)) x r.2 running

pub record AreSameBelow (k l : Running) (many : ℕ) : Type 0 where
  pub memory : (p : ℕ) → p < many → IsSameMemory k l p
  pub image : (p : ℕ) → p < many → IsSameImage k l p

pub processes-more : (k l : Running) (p : ℕ) → AreSameBelow k l p → IsSameMemory k l p → IsSameImage k l p → AreSameBelow k l (p + 1)
processes-more k l p before memory image = record {
  memory = λ q less.
      elim (cases_eq p q) [
        | inl same ↦ subst (IsSameMemory k l) same memory
        | inr other ↦ before.memory q (omega (arith, less, other))
      ];
  image = λ q less.
      elim (cases_eq p q) [
        | inl same ↦ subst (IsSameImage k l) same image
        | inr other ↦ before.image q (omega (arith, less, other))
      ];
}

pub all-alike : (k l : Running) (many : ℕ) → length k.config.processes ≤ many → AreSameBelow k l many → AreImagesAlike k.config (world_of k) (world_of l)
all-alike k l many enough all = record {
  memory = λ p known. all.memory p (omega (arith, known, enough));
  contexts = λ p x known has running. all.image p (omega (arith, known, enough)) x has running;
}

pub different-memory : (k l : Running) (p : ℕ) → p < length k.config.processes → HasOtherMemory k l p → AreDifferent k l
different-memory k l p known other = λ alike. other (alike.memory p known)

pub different-context : (k l : Running) (p : ℕ) → p < length k.config.processes → HasOtherContext k l p → AreDifferent k l
different-context k l p known o = λ alike. o.other (alike.contexts p o.thread known o.among o.running)
