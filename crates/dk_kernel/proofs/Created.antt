-- A create, from what it wrote.
use Rattle.dk_kernel.proofs.Names.{ℕ, ◌≡◌, ◌+◌, ◌/◌, ◌∷◌, ◌∙◌, ◌≤◌, length, Option, Some, None, ap, sym, subst, ThreadId, Event, Refusal, Thread, create_refusal, next_serial, ThreadRow, Context, reg, State, context_at, stopped, CallerIsThere, Effect, child_context, creates, or_refused, Past, call_entry, call_label, with_event, Dispatched, IsCreated, IsNotCreated, Executor, child_made, plain_refused, snapshot, Calls, at_call, caller, effect_of, finished}
use Rattle.dk_kernel.proofs.Called.{few-by, refusal-at, row-name, same-rows}

-- the effect of a create, by the thread's context and the number of the program's instructions
abbrev pub created_or_refused : ThreadId → Context → ℕ → Past → Effect
created_or_refused x context instructions p =
    or_refused (create_refusal p.config (length p.entries) (at_call p) (caller p x) (reg context 1) (reg context 2) (reg context 3) instructions)
    (creates (next_serial p.config (at_call p) (caller p x).id.process) context)

module _ (executor : Executor) (old new : Dispatched) (state written : State) (place : Option Event) (before after : ℕ)
    (there : CallerIsThere old.past.config (call_label old.past) old.past.entries executor.thread)
    (context : Context) (instructions : ℕ) (same : context ≡ context_at state executor.slot) (size : instructions ≡ length state.code / 4) where
  abbrev x : ThreadId
  x = executor.thread

  abbrev test : Thread → Option Refusal
  test row = create_refusal old.past.config (length old.past.entries) (at_call old.past) row (reg context 1) (reg context 2) (reg context 3) instructions

  abbrev Made : Context → ℕ → Type 0
  Made k n = Calls (created_or_refused x k n) executor (snapshot old state before) (snapshot new written after) place

  -- by equal contexts and programs
  as-seen : Made context instructions → Made (context_at state executor.slot) (length state.code / 4)
  as-seen made = subst (λ (k : Context). Made k (length state.code / 4)) same (subst (Made context) size made)

  pub create-done : (row : ThreadRow) → IsCreated x (reg context 1) (reg context 2) (reg context 3) instructions old new row
      → after ≤ before + length old.past.config.levels + 6
      → written ≡ finished state executor.slot (child_made row context) → place ≡ (child_made row context).event
      → Made (context_at state executor.slot) (length state.code / 4)
  create-done row is few image wrote =
      let p = old.past in
      let t = caller p x in
      let level : row.level ≡ reg context 1 = ap (λ (r : ThreadRow). r.level) is.child in
      let next = next_serial p.config (at_call p) t.id.process in
      let none : test t ≡ None = sym (refusal-at x p there test) ∙ is.met in
      let serial : row.id.serial ≡ next = ap (λ (r : ThreadRow). r.id.serial) is.child ∙ ap (λ (i : ThreadId). next_serial p.config (at_call p) i.process) (sym (row-name x p there)) in
      let shaped : effect_of (child_made row context) ≡ creates next context =
      ap (λ l. made row.id.serial l) level ∙ ap (λ s. made s (reg context 1)) serial in
      as-seen
      (record {
        done = child_made row context;
        effect = shaped ∙ sym (ap (λ r. or_refused r (creates next context)) none);
        past = is.past ∙ sym (ap (λ l. with_event (Event.Create row.id.serial l (reg context 2)) p) level);
        rows = record { added = is.added; own = is.own; process = ap (λ (r : ThreadRow). r.id.process) is.child; fits = is.fits };
        steps = few-by (length p.config.levels)
            (stopped p.config (call_entry p (Event.Create row.id.serial row.level (reg context 2)) ∷ p.entries)) before after few;
        image = image;
        event = wrote;
      })
    where
      made : ℕ → ℕ → Effect
      made s l = record {
        event = Some (Event.Create s l (reg context 2));
        reply = Some (record { r0 = 0; r1 = Some s });
        child = Some (record { serial = s; context = child_context (reg context 3) (reg context 4) });
      }

  pub create-refused : (why : Refusal) → IsNotCreated x (reg context 1) (reg context 2) (reg context 3) instructions old new why
      → after ≤ before + length old.past.config.levels + 6
      → written ≡ finished state executor.slot (plain_refused why) → place ≡ Some (Event.Refused why)
      → Made (context_at state executor.slot) (length state.code / 4)
  create-refused why is few image wrote =
      let p = old.past in
      as-seen
      (record {
        done = plain_refused why;
        effect = sym (ap (λ r. or_refused r (creates (next_serial p.config (at_call p) (caller p x).id.process) context))
            (sym (refusal-at x p there test) ∙ is.reason));
        past = ap (λ (d : Dispatched). d.past) is.same;
        rows = same-rows old new (ap (λ (d : Dispatched). d.threads) is.same);
        steps = few-by (length p.config.levels) (stopped p.config (call_entry p (Event.Refused why) ∷ p.entries)) before after few;
        image = image;
        event = wrote;
      })
