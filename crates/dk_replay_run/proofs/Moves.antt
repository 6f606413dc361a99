-- What the ticks of a program's steps come to, one by one, where each call is granted.
use Rattle.std.proofs.Common.{◌≡◌, ◌∙◌, refl, ap, sym, subst, inl, inr, ◌<◌, ◌+◌, ◌-◌, ◌^◌, ℕ, zero, suc, Bool, true, false, List, [], ◌∷◌, ◌++◌, length, arith, Some, None}
use Rattle.std.specs.Prelude.{◌⊎◌, ◌==◌, if◌then◌else◌, replicate}
use Rattle.std.proofs.lemmas.Bool.Decides.{nat_tests}
use Rattle.std.proofs.lemmas.List.{length-set}
use Rattle.dk_isa.specs.declared.Instr.{Instr}
use Rattle.dk_cpu.specs.declared.Context.{Context}
use Rattle.dk_cpu.specs.declared.Outcome.{Outcome}
use Rattle.dk_cpu.specs.declared.kernel_call.KernelCall.{KernelCall}
use Rattle.dk_cpu.specs.declared.kernel_call.KernelCall.TheVariants as call
use Rattle.dk_cpu.specs.Machine.{body_tick, call_of, ran, reg, set}
use Rattle.dk_cpu.specs.State.{RunsFor, replied}
use Rattle.dk_trace.specs.declared.Label.{Label}
use Rattle.dk_trace.specs.declared.Event.{Event}
use Rattle.dk_trace.specs.declared.Entry.{Entry}
use Rattle.dk_trace.specs.Entries.{quiet}
use Rattle.dk_trace.proofs.Mains.{main_id}
use Rattle.dk_profile.specs.declared.steps.Step.{Step}
use Rattle.dk_profile.specs.declared.steps.Step.TheVariants as kind
use Rattle.dk_profile.specs.Steps.{step_size}
use Rattle.dk_replay.specs.Code.{call_code, step_code}
use Rattle.dk_replay.specs.Laws.{HasCode, IsAt, StandsAt, left_behind, standing}
use Rattle.dk_replay.proofs.Calls.{call_takes}
use Rattle.dk_replay.proofs.Work.{fetched, loaded, work_takes}
use Rattle.dk_replay_run.specs.Profiles.{call_entries, step_entries, work_entries}

-- what the last tick of a call tells, where it is granted
abbrev pub Tells : KernelCall → Context → Event → Type 0
Tells KernelCall.Wait z event = event ≡ Event.Wait
Tells KernelCall.Lock z event = event ≡ Event.Lock (reg z 1)
Tells KernelCall.Unlock z event = event ≡ Event.Unlock (reg z 1)
Tells KernelCall.Put z event = event ≡ Event.Put (reg z 1)
Tells _ z event = ⊥

abbrev pub last_tick : ℕ → Event → Entry
last_tick p event = record { label = Label.Call (main_id p); event = Some event }

-- the last tick of a call that is granted
pub record IsDone (cost : ℕ) (code : List ℕ) (p : ℕ) (e : Entry) (x : Context) (m : List ℕ) (y : Context) (l : List ℕ) : Type 0 where
  pub call : KernelCall
  pub context : Context
  pub event : Event
  pub tells : Tells call context event
  pub entry : e ≡ last_tick p event
  pub tick : body_tick cost code x m ≡ record { outcome = Outcome.CallDone call; context = context; memory = l }
  pub answer : y ≡ replied context 0 None
  pub number : reg x 1 ≡ reg context 1

-- a tick with this entry leads from one context and memory to another
abbrev pub IsMove : ℕ → List ℕ → ℕ → Entry → Context → List ℕ → Context → List ℕ → Type 0
IsMove cost code p e x m y l =
    ((e ≡ quiet (Label.Run (main_id p))) × (body_tick cost code x m ≡ ran y l))
    ⊎ (((e ≡ quiet (Label.Call (main_id p))) × (body_tick cost code x m ≡ record { outcome = Outcome.InCall; context = y; memory = l }))
    ⊎ IsDone cost code p e x m y l)

-- so do ticks with these, the oldest first
abbrev pub Moves : ℕ → List ℕ → ℕ → List Entry → Context → List ℕ → Context → List ℕ → Type 0
Moves cost code p [] x m y l = (x ≡ y) × (m ≡ l)
Moves cost code p (e ∷ es) x m y l =
    (z : Context) × (w : List ℕ) × IsMove cost code p e x m z w × Moves cost code p es z w y l

pub answered : (at : ℕ) (regs : List ℕ) → length regs ≡ 8 → StandsAt (at + 1) (replied (standing regs (at + 1) 0) 0 None)
answered at regs eight = record { place = refl; registers = length-set regs 0 0 ∙ eight; left = refl }

pub as-parts : (at : ℕ) (x : Context) → StandsAt at x → x ≡ standing x.regs at 0
as-parts at x s = ap (λ p. standing x.regs p x.left) s.place ∙ ap (λ l. standing x.regs at l) s.left

pub replicate-on : (e : Entry) (n : ℕ) (es : List Entry) → replicate n e ++ (e ∷ es) ≡ e ∷ (replicate n e ++ es)
replicate-on e zero es = refl
replicate-on e (suc n) es = ap (λ (t : List Entry). e ∷ t) (replicate-on e n es)

module _ (cost : ℕ) (code : List ℕ) (p : ℕ) where
  pub joined : (a b : List Entry) (x y z : Context) (m l w : List ℕ) → Moves cost code p a x m y l → Moves cost code p b y l z w → Moves cost code p (a ++ b) x m z w
  joined [] b x y z m l w one two =
      subst (λ (t : Context). Moves cost code p b t m z w) (sym one.0) (subst (λ (t : List ℕ). Moves cost code p b y t z w) (sym one.1) two)
  joined (e ∷ a) b x y z m l w one two = (one.0, one.1, one.2, joined a b one.0 y z one.1 l w one.3 two)

  -- work, and what comes behind it
  pub ran-for : (n : ℕ) (es : List Entry) (x y z : Context) (m l w : List ℕ) → RunsFor cost code n x m y l → Moves cost code p es y l z w
      → Moves cost code p (work_entries p n ++ es) x m z w
  ran-for zero es x y z m l w runs rest =
      subst (λ (t : Context). Moves cost code p es t m z w) (sym runs.0) (subst (λ (t : List ℕ). Moves cost code p es y t z w) (sym runs.1) rest)
  ran-for (suc n) es x y z m l w runs rest =
      subst (λ (t : List Entry). Moves cost code p t x m z w) (replicate-on (quiet (Label.Run (main_id p))) n es)
      (ran-for n (quiet (Label.Run (main_id p)) ∷ es) x runs.0 z m runs.1 w runs.2 (y, l, inl (refl, runs.3), rest))

  -- the ticks of a call that are left behind its first j
  called-from : (r j at k : ℕ) (regs m : List ℕ) (named : KernelCall) (event : Event) → IsAt code at (Instr.Trap k) → call_of k ≡ Some named
      → Tells named (standing regs (at + 1) 0) event → j + suc r ≡ cost
      → Moves cost code p (replicate r (quiet (Label.Call (main_id p))) ++ last_tick p event ∷ []) (standing regs at (left_behind cost j)) m
      (replied (standing regs (at + 1) 0) 0 None) m
  called-from zero j at k regs m named event is names tells all =
      let last : (suc j == cost) ≡ true = grind (arith, nat_tests) in
      let tick : body_tick cost code (standing regs at (left_behind cost j)) m ≡ record { outcome = Outcome.CallDone named; context = standing regs (at + 1) 0; memory = m } =
      call_takes cost code m regs at k j named is names (omega arith)
      ∙ ap (λ (t : Bool). if t
      then record { outcome = Outcome.CallDone named; context = standing regs (at + 1) 0; memory = m }
      else record { outcome = Outcome.InCall; context = standing regs at (left_behind cost (suc j)); memory = m }) last in
      let done : IsDone cost code p (last_tick p event) (standing regs at (left_behind cost j)) m (replied (standing regs (at + 1) 0) 0 None) m = record {
        call = named;
        context = standing regs (at + 1) 0;
        event = event;
        tells = tells;
        entry = refl;
        tick = tick;
        answer = refl;
        number = refl;
      } in
      (replied (standing regs (at + 1) 0) 0 None, m, inr (inr done), (refl, refl))
  called-from (suc r) j at k regs m named event is names tells all =
      let later : (suc j == cost) ≡ false = grind (arith, nat_tests) in
      let tick : body_tick cost code (standing regs at (left_behind cost j)) m ≡ record { outcome = Outcome.InCall; context = standing regs at (left_behind cost (suc j)); memory = m } =
      call_takes cost code m regs at k j named is names (omega arith)
      ∙ ap (λ (t : Bool). if t
      then record { outcome = Outcome.CallDone named; context = standing regs (at + 1) 0; memory = m }
      else record { outcome = Outcome.InCall; context = standing regs at (left_behind cost (suc j)); memory = m }) later in
      (standing regs at (left_behind cost (suc j)), m, inr (inl (refl, tick)), called-from r (suc j) at k regs m named event is names tells (omega (arith, all)))

  -- the ticks of these entries lead from the context to one that stands at the place
  abbrev pub Leads : List Entry → Context → List ℕ → ℕ → Type 0
  Leads es x m to = (y : Context) × Moves cost code p es x m y m × StandsAt to y

  pub called : (at k : ℕ) (x : Context) (m : List ℕ) (named : KernelCall) (event : Event) → 0 < cost → IsAt code at (Instr.Trap k) → call_of k ≡ Some named
      → Tells named (standing x.regs (at + 1) 0) event → StandsAt at x → Leads (call_entries cost p event) x m (at + 1)
  called at k x m named event some is names tells s =
      let moves = called-from (cost - 1) 0 at k x.regs m named event is names tells (omega arith) in (
        replied (standing x.regs (at + 1) 0) 0 None,
        subst (λ (z : Context). Moves cost code p (call_entries cost p event) z m (replied (standing x.regs (at + 1) 0) 0 None) m) (sym (as-parts at x s)) moves,
        answered at x.regs s.registers,
      )

  -- a call with a number
  pub loads-and-calls : (at k v : ℕ) (x : Context) (m : List ℕ) (named : KernelCall) (event : Event) → 0 < cost → HasCode code at (call_code k v)
      → call_of k ≡ Some named → ((z : Context) → reg z 1 ≡ v → Tells named z event) → StandsAt at x
      → Leads (work_entries p 1 ++ call_entries cost p event) x m (at + 2)
  loads-and-calls at k v x m named event some has names tells s =
      let y : Context = set x 1 v in
      let c = loaded at x v s in
      let tick : body_tick cost code x m ≡ ran y m = fetched cost code m (Instr.Li 1 v) x (subst (λ q. IsAt code q (Instr.Li 1 v)) (sym s.place) has.0) in
      let rest = called (at + 1) k y m named event some has.1.0 names (tells (standing y.regs (at + 1 + 1) 0) c.value) c.stands in
      let same : at + 1 + 1 ≡ at + 2 = omega arith in
      (rest.0, (y, m, inl (refl, tick), rest.1), subst (λ q. StandsAt q rest.0) same rest.2)

-- its work is some ticks, which a word counts, and it asks for no slack
abbrev pub IsPlainStep : Step → Type 0
IsPlainStep (Step.Work n) = (0 < n) × (n < 2 ^ 32)
IsPlainStep (Step.Slack n) = ⊥
IsPlainStep _ = Unit {0}

-- a step, from where its code is
pub step-leads : (cost : ℕ) (code : List ℕ) (p at : ℕ) (s : Step) (x : Context) (m : List ℕ) → 0 < cost → IsPlainStep s → HasCode code at (step_code at s)
    → StandsAt at x → Leads cost code p (step_entries cost p s) x m (at + step_size s)
step-leads cost code p at (kind.Work n) x m some short has s =
    let took = work_takes cost code m at n x has short.1 s in
    let moves = ran-for cost code p n [] x took.0 took.0 m m m took.1 (refl, refl) in
    (took.0, subst (λ (t : List Entry). Moves cost code p t x m took.0 m) (append-none (work_entries p n)) moves, took.2)
  where
    append-none : (t : List Entry) → t ++ [] ≡ t
    append-none [] = refl
    append-none (e ∷ t) = ap (λ (r : List Entry). e ∷ r) (append-none t)
step-leads cost code p at (kind.Lock v) x m some short has s =
    loads-and-calls cost code p at 5 v x m call.Lock (Event.Lock v) some has refl (λ z is. ap Event.Lock (sym is)) s
step-leads cost code p at (kind.Unlock v) x m some short has s =
    loads-and-calls cost code p at 6 v x m call.Unlock (Event.Unlock v) some has refl (λ z is. ap Event.Unlock (sym is)) s
step-leads cost code p at (kind.Slack v) x m some short has s = absurd short
step-leads cost code p at (kind.Put v) x m some short has s =
    loads-and-calls cost code p at 8 v x m call.Put (Event.Put v) some has refl (λ z is. ap Event.Put (sym is)) s
step-leads cost code p at kind.Wait x m some short has s = called cost code p at 1 x m call.Wait Event.Wait some has.0 refl refl s
