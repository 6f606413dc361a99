-- A kernel's fields, and the run that they stand for.
use Rattle.dk_kernel.proofs.Names.{ℕ, suc, ◌≡◌, ◌+◌, ◌-◌, ◌≤◌, ◌∷◌, ◌++◌, List, length, map, ap, ◌∙◌, sym, subst, add-one, arith, length-append, replicate, length-replicate, MAX_TICKS, Configuration, Work, Choice, Label, Entry, quiet, label_of, State, World, world, step, RefusalLeaves, RefusalsLeave, Past, later, Dispatched, IsRunning, code_of, run_of, Running, IsAt, IsNext, running, trace_of, world_of}
use Rattle.dk_kernel.proofs.Stretched.{replicate-some}

module _ (d : Dispatched) (states : List State) (c : Configuration) (n : ℕ) (at : IsAt d states (running c states n)) where
  pub world-is : run_of d.past states ≡ world c (map code_of states) n
  world-is = ap (λ z. world z (map code_of states) (length d.past.entries)) at.config ∙ ap (world c (map code_of states)) at.ticks

  pub entries-are : d.past.entries ≡ trace_of (running c states n)
  entries-are = sym at.running.run ∙ ap (λ (v : World). v.past) world-is

  -- what holds of the dispatcher's past holds of the run
  pub of-past : (P : Configuration → List Entry → Type 0) → P d.past.config d.past.entries → P c (trace_of (running c states n))
  of-past P is = subst (P c) entries-are (subst (λ z. P z d.past.entries) at.config is)

  -- and of what contracts see
  pub of-view : (k : Running) → running c states n ≡ k → (P : Configuration → List Entry → Type 0) → P d.past.config d.past.entries → P k.config (trace_of k)
  of-view k is P holds = subst (λ (r : Running). P r.config (trace_of r)) is (of-past P holds)

  -- there is room for so many ticks more, and for any fewer
  pub has-room : (k : Running) → running c states n ≡ k → (few most : ℕ) → k.ticks + most ≤ MAX_TICKS → few ≤ most → length d.past.entries + few ≤ MAX_TICKS
  has-room k is few most room less =
      let ticks = at.ticks in
      let now : n ≡ k.ticks = ap (λ (r : Running). r.ticks) is in
      omega (arith, ticks, now, room, less)

-- one tick more is one step of the world
pub next-world : (c : Configuration) (old new : List State) (n : ℕ) → map code_of new ≡ map code_of old → world c (map code_of new) (n + 1) ≡ step c (world c (map code_of old) n)
next-world c old new n codes = ap (λ p. world c p (n + 1)) codes ∙ ap (λ k. world c (map code_of old) k) (add-one n)

-- what a refused call leaves, of the world before and after the tick
pub refused-next : RefusalsLeave → (before : Running) (c : Configuration) (old new : List State) (n : ℕ) (e : Entry) → running c old n ≡ before → map code_of new ≡ map code_of old
    → trace_of (running c new (n + 1)) ≡ e ∷ trace_of (running c old n) → RefusalLeaves before.config (world_of before) (world_of (running c new (n + 1))) e
refused-next law before c old new n e is codes newest =
    let next = next-world c old new n codes in
    subst (λ (r : Running). RefusalLeaves r.config (world_of r) (world_of (running c new (n + 1))) e) is
    (subst (λ (v : World). RefusalLeaves c (world c (map code_of old) n) v e) (sym next)
    (law c (world c (map code_of old) n) e (ap (λ (v : World). v.past) (sym next) ∙ newest)))

-- the fields after one more tick
pub next-fields : (before after : Dispatched) (c : Configuration) (old new written : List State) (n : ℕ) (entry : Entry)
    → IsAt before old (running c old n) → IsRunning after new → after.past.config ≡ before.past.config → after.past.entries ≡ entry ∷ before.past.entries
    → written ≡ new → IsNext after written (running c old n) (running c written (n + 1)) entry
next-fields before after c old new written n entry at is config entries same =
    let now : IsAt after written (running c written (n + 1)) =
    subst (λ z. IsAt after z (running c z (n + 1))) (sym same)
    (record { running = is; config = config ∙ at.config; ticks = ap length entries ∙ ap suc at.ticks ∙ sym (add-one n) }) in
    record {
      is = now;
      newest = sym (entries-are after written c (n + 1) now) ∙ entries ∙ ap (λ es. entry ∷ es) (entries-are before old c n at);
    }

-- and after so many ticks of one choice
pub record IsLater (d : Dispatched) (states written : List State) (c : Configuration) (ticks n : ℕ) (choice : Choice) : Type 0 where
  pub is : IsAt d written (running c written (ticks + n))
  pub codes : map code_of written ≡ map code_of states
  pub entries : trace_of (running c written (ticks + n)) ≡ replicate n (quiet (label_of choice Work.Run)) ++ trace_of (running c states ticks)

pub later-fields : (before after : Dispatched) (c : Configuration) (states written : List State) (ticks n : ℕ) (choice : Choice)
    → IsAt before states (running c states ticks) → IsRunning after written → map code_of written ≡ map code_of states → after.past ≡ later choice n before.past
    → IsLater after states written c ticks n choice
later-fields before after c states written ticks n choice at is codes next =
    let es = before.past.entries in
    let all = length-append {A = Entry} (replicate n (quiet (label_of choice Work.Run))) es in
    let count = length-replicate {A = Entry} n (quiet (label_of choice Work.Run)) in
    let so_far = at.ticks in
    let long : length (replicate n (quiet (label_of choice Work.Run)) ++ es) ≡ ticks + n = omega (arith, all, count, so_far) in
    let now : IsAt after written (running c written (ticks + n)) =
    record {
      running = is;
      config = ap (λ (q : Past). q.config) next ∙ at.config;
      ticks = ap (λ (q : Past). length q.entries) next ∙ long;
    } in
    record {
      is = now;
      codes = codes;
      entries = sym (entries-are after written c (ticks + n) now) ∙ ap (λ (q : Past). q.entries) next
          ∙ ap (λ p. replicate n (quiet (label_of choice Work.Run)) ++ p) (entries-are before states c ticks at);
    }

-- as contracts see them
module _ {d : Dispatched} {states written : List State} {c : Configuration} {ticks n : ℕ} {choice : Choice} {k : Running}
    (later : IsLater d states written c ticks n choice) (is : running c states ticks ≡ k) where
  abbrev label : Label
  label = label_of choice Work.Run

  abbrev with_programs : List (List ℕ) → Running
  with_programs programs = record { config = c; programs = programs; ticks = ticks + n }

  pub seen-next : running c written (ticks + n) ≡ record k { ticks = k.ticks + n }
  seen-next = ap with_programs later.codes ∙ ap (λ (v : Running). record v { ticks = v.ticks + n }) is

  pub seen-entries : trace_of (running c written (ticks + n)) ≡ replicate n (quiet label) ++ trace_of k
  seen-entries = later.entries ∙ ap (λ (v : Running). replicate n (quiet label) ++ trace_of v) is

  -- where there are any, one is the newest
  pub seen-newest : (n ≡ 0 → ⊥) → trace_of (running c written (ticks + n)) ≡ (quiet label ∷ replicate (n - 1) (quiet label)) ++ trace_of k
  seen-newest none = seen-entries ∙ ap (λ es. es ++ trace_of k) (replicate-some n (quiet label) none)
