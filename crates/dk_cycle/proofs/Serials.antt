-- A child is made once: no later one of its process has its serial.
use Rattle.dk_cycle.proofs.Names.{ℕ, zero, suc, ◌≡◌, ◌+◌, ◌-◌, ◌*◌, ◌<◌, ◌≤◌, ◌==◌, ◌&&◌, ◌∙◌, inl, inr, true, false, if◌then◌else◌, List, ◌∷◌, ◌++◌, length, map, Option, Some, None, refl, sym, ap, subst, arith, option_map_or, length-append, length-map, cases_Bool, eqb-true, eq-eqb, Configuration, IsChecked, IsAccepted, ThreadId, Label, Event, Entry, MatchOption, is_of, is_same, quiet, thread_of, family, after_entry, new_rows, Audited, ThreadFollows, HasNextSerial, done_refusal, row_of, without_event, chosen, World, RunsAreAudited, body_step, executes, quiet_step, step, trace, world, entry_at, newest, Made, RepeatsOnlyBehind, made_in, made_of}

-- a step adds one entry
pub step-adds : (c : Configuration) (w : World) → (e : Entry) × ((step c w).past ≡ e ∷ w.past)
step-adds c w = go (executes (chosen c w.past))
  where
    go : (o : Option ThreadId) → (e : Entry) × ((option_map_or (body_step c (chosen c w.past) w) o (quiet_step (chosen c w.past) w)).past ≡ e ∷ w.past)
    go None = (_, refl)
    go (Some x) = (_, refl)

-- the entry of a tick is added in it
added : (c : Configuration) (programs : List (List ℕ)) (t : ℕ) (e : Entry) → entry_at c programs t ≡ Some e → trace c programs (suc t) ≡ e ∷ trace c programs t
added c programs t e is =
    let one = step-adds c (world c programs t) in
    let both : Some one.0 ≡ Some e = sym (ap newest one.1) ∙ is in
    let same : one.0 ≡ e = cc in
    one.1 ∙ ap (λ f. f ∷ trace c programs t) same

-- ---- who makes a child

-- the main of its process, in a tick whose event it is
record Makes (now : ℕ) (e : Entry) (m : Made) : Type 0 where
  tick : m.tick ≡ now
  whose : thread_of e.label ≡ Some (record { process = m.process; serial = 0 })
  level : ℕ
  quota : ℕ
  event : e.event ≡ Some (Event.Create m.serial level quota)

makes-is : (tick : ℕ) (e : Entry) (m : Made) → made_in tick e ≡ Some m → Makes tick e m
makes-is tick e m is = at (thread_of e.label) refl is
  where
    by-event : (x : ThreadId) → thread_of e.label ≡ Some x → (o : Option Event) → e.event ≡ o → made_of tick x o ≡ Some m → Makes tick e m
    by-event x whose None event makes = absurd (cc)
    by-event x whose (Some (Event.Create serial level quota)) event makes =
        elim (cases_Bool (x.serial == 0)) [
          | inl main ↦
              let child : Made = record { process = x.process; serial = serial; tick = tick } in
              let both : Some child ≡ Some m = sym (ap (λ b. if b then Some child else None) main) ∙ makes in
              let same : child ≡ m = cc in
              let first = eqb-true x.serial 0 main in
              record {
                tick = ap (λ (n : Made). n.tick) (sym same);
                whose = whose ∙ ap (λ s. Some (record { process = x.process; serial = s })) first ∙ ap (λ (n : Made). Some (record { process = n.process; serial = 0 })) same;
                level = level;
                quota = quota;
                event = event ∙ ap (λ (n : Made). Some (Event.Create n.serial level quota)) same;
              }
          | inr other ↦ absurd (let none : None ≡ Some m = sym (ap (λ b. if b then Some (record { process = x.process; serial = serial; tick = tick }) else None) other) ∙ makes in cc)
        ]
    by-event x whose (Some other) event makes = absurd (cc)

    at : (o : Option ThreadId) → thread_of e.label ≡ o → option_map_or (λ x. made_of tick x e.event) o None ≡ Some m → Makes tick e m
    at None whose makes = absurd (cc)
    at (Some x) whose makes = by-event x whose e.event refl makes

pub made-tick : (tick : ℕ) (e : Entry) (m : Made) → made_in tick e ≡ Some m → m.tick ≡ tick
made-tick tick e m is = (makes-is tick e m is).tick

-- nobody does where nothing happens
pub none-quietly : (tick : ℕ) (label : Label) → made_in tick (quiet label) ≡ None
none-quietly tick label = at (thread_of label)
  where
    at : (o : Option ThreadId) → option_map_or (λ x. made_of tick x None) o None ≡ None
    at None = refl
    at (Some x) = refl

-- ---- how many threads a process has had

many-more : (c : Configuration) (p : ℕ) (e : Entry) (past : List Entry) → length (family c p (e ∷ past)) ≡ length (family c p past) + length (new_rows c p e past)
many-more c p e past =
    length-append (map (after_entry e (length past)) (family c p past)) (new_rows c p e past)
    ∙ ap (λ n. n + length (new_rows c p e past)) (length-map (family c p past) (after_entry e (length past)))

-- one more with the child
one-more : (c : Configuration) (tick : ℕ) (e : Entry) (m : Made) (past : List Entry) → Makes tick e m → length (family c m.process (e ∷ past)) ≡ length (family c m.process past) + 1
one-more c tick e m past makes =
    let main : ThreadId = record { process = m.process; serial = 0 } in
    let own : is_of main e ≡ true = ap (λ o. option_map_or (is_same main) o false) makes.whose ∙ ap (λ b. b && true) (eq-eqb m.process m.process refl) in
    let new : length (new_rows c m.process e past) ≡ 1 = rw (own, makes.event) refl in
    many-more c m.process e past ∙ ap (λ n. length (family c m.process past) + n) new

-- and never fewer
no-fewer : (c : Configuration) (programs : List (List ℕ)) (p n k : ℕ) → length (family c p (trace c programs n)) ≤ length (family c p (trace c programs (n + k)))
no-fewer c programs p n zero = let same : n + 0 ≡ n = omega arith in subst (λ m. length (family c p (trace c programs n)) ≤ length (family c p (trace c programs m))) (sym same) (omega arith)
no-fewer c programs p n (suc k) =
    let before = no-fewer c programs p n k in
    let one = step-adds c (world c programs (n + k)) in
    let up : suc (n + k) ≡ n + suc k = omega arith in
    let more : length (family c p (trace c programs (n + suc k))) ≡ length (family c p (trace c programs (n + k))) + length (new_rows c p one.0 (trace c programs (n + k))) =
    ap (λ t. length (family c p (trace c programs t))) (sym up) ∙ ap (λ es. length (family c p es)) one.1 ∙ many-more c p one.0 (trace c programs (n + k)) in
    omega (arith, before, more)

-- a child's serial is how many threads there were before
serial-is : (c : Configuration) (programs : List (List ℕ)) (tick t : ℕ) (e : Entry) (m : Made) → RunsAreAudited → IsChecked c → IsAccepted c → Makes tick e m
    → entry_at c programs t ≡ Some e → m.serial ≡ length (family c m.process (trace c programs t))
serial-is c programs tick t e m audited checked accepted makes is =
    let main : ThreadId = record { process = m.process; serial = 0 } in
    let past = trace c programs t in
    let all : Audited c (e ∷ past) = subst (Audited c) (added c programs t e is) (audited c programs (suc t) checked accepted) in
    let follows : ThreadFollows c past e main = subst (λ o. MatchOption o (Unit {0}) (ThreadFollows c past e)) makes.whose all.1.thread in
    let event : HasNextSerial c past main (Event.Create m.serial makes.level makes.quota) =
    (subst (λ (o : Option Event). MatchOption o (Unit {0}) (λ event. HasNextSerial c past main event × MatchOption (row_of c past main) ⊥ (λ row. done_refusal c (length past) (without_event e ∷ past) row event ≡ None))) makes.event follows.met).0 in
    event

-- from no tick up to the one in which a child was made the run repeats
pub only-behind : (c : Configuration) (programs : List (List ℕ)) (m : Made) (e : Entry) → RunsAreAudited → IsChecked c → IsAccepted c
    → entry_at c programs m.tick ≡ Some e → made_in m.tick e ≡ Some m → RepeatsOnlyBehind c programs m
only-behind c programs m e audited checked accepted here is = λ s k early some repeats.
    let t = m.tick in
    let p = m.process in
    let makes = makes-is t e m is in
    let first : s + (t - s) ≡ t = omega (arith, early) in
    let second : s + 1 * k + (t - s) ≡ t + k = omega (arith, early) in
    let again : entry_at c programs (t + k) ≡ Some e =
    ap (entry_at c programs) (sym second) ∙ repeats 1 (t - s) ∙ ap (entry_at c programs) first ∙ here in
    let one = serial-is c programs t t e m audited checked accepted makes here in
    let two = serial-is c programs t (t + k) e m audited checked accepted makes again in
    let more : length (family c p (trace c programs (suc t))) ≡ length (family c p (trace c programs t)) + 1 =
    ap (λ es. length (family c p es)) (added c programs t e here) ∙ one-more c t e m (trace c programs t) makes in
    let later : length (family c p (trace c programs (suc t))) ≤ length (family c p (trace c programs (t + k))) =
    let up : suc t + (k - 1) ≡ t + k = omega (arith, some) in
    subst (λ n. length (family c p (trace c programs (suc t))) ≤ length (family c p (trace c programs n))) up (no-fewer c programs p (suc t) (k - 1)) in
    omega (arith, one, two, more, later)
