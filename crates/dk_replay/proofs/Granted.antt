-- A job whose calls are granted takes the ticks that its steps say.
use Rattle.std.proofs.Common.{◌≡◌, ◌∙◌, refl, ap, sym, subst, inl, inr, ◌<◌, ◌+◌, ℕ, zero, suc, Bool, true, false, List, [], ◌∷◌, ◌++◌, append_assoc, append-nil, arith, Some, None}
use Rattle.std.specs.Prelude.{◌==◌, if◌then◌else◌, sum_by}
use Rattle.std.proofs.lemmas.Bool.Decides.{nat_tests}
use Rattle.std.proofs.lemmas.List.{length-set}
use Rattle.std.proofs.lemmas.List.Sums.{sum_by-cons, sum_by_push}
use Rattle.dk_isa.specs.declared.Instr.{Instr}
use Rattle.dk_cpu.specs.declared.Context.{Context}
use Rattle.dk_cpu.specs.declared.Outcome.{Outcome}
use Rattle.dk_cpu.specs.declared.kernel_call.KernelCall.{KernelCall}
use Rattle.dk_cpu.specs.declared.kernel_call.KernelCall.TheVariants as call
use Rattle.dk_cpu.specs.Machine.{call_of}
use Rattle.dk_cpu.specs.State.{RunsFor, replied}
use Rattle.dk_profile.specs.declared.steps.Step.{Step}
use Rattle.dk_profile.specs.declared.steps.Step.TheVariants as kind
use Rattle.dk_profile.specs.Steps.{step_size, step_ticks}
use Rattle.dk_replay.specs.Code.{program_of}
use Rattle.dk_replay.specs.Laws.{AreShort, GrantedFor, IsAt, IsShort, Runs, StandsAt, StepsTake, left_behind, standing}
use Rattle.dk_replay.proofs.Calls.{call_takes}
use Rattle.dk_replay.proofs.Places.{loads_its_number, waits_at_once, work_is_done}

-- m ticks and n more
abbrev pub up : ℕ → ℕ → ℕ
up zero m = m
up (suc n) m = suc (up n m)

pub up_is : (n m : ℕ) → up n m ≡ m + n
up_is zero m = omega arith
up_is (suc n) m = let h = up_is n m in omega (arith, h)

-- a context as its parts
as_parts : (at : ℕ) (x : Context) → StandsAt at x → x ≡ standing x.regs at 0
as_parts at x s = ap (λ p. standing x.regs p x.left) s.place ∙ ap (λ l. standing x.regs at l) s.left

module _ (cost : ℕ) (code : List ℕ) (start : Context) (memory : List ℕ) where
  abbrev pub Got : ℕ → Context → List ℕ → Type 0
  Got n y v = GrantedFor cost code n start memory y v

  extend : (n m : ℕ) (w y : Context) (u v : List ℕ) → Got m w u → RunsFor cost code n w u y v → Got (up n m) y v
  extend zero m w y u v got runs = subst (λ (c : Context). Got m c v) runs.0 (subst (λ (t : List ℕ). Got m w t) runs.1 got)
  extend (suc n) m w y u v got runs = (runs.0, runs.1, extend n m w runs.0 u runs.1 got runs.2, inl runs.3)

  -- the first ticks of a call
  waits : (j m at k : ℕ) (regs : List ℕ) (c : KernelCall) → IsAt code at (Instr.Trap k) → call_of k ≡ Some c → j < cost
      → Got m (standing regs at 0) memory → Got (up j m) (standing regs at (left_behind cost j)) memory
  waits zero m at k regs c is named early got = got
  waits (suc j) m at k regs c is named early got =
      let before : j < cost = omega arith in
      let later : (suc j == cost) ≡ false = grind (arith, nat_tests) in (
        standing regs at (left_behind cost j),
        memory,
        waits j m at k regs c is named before got,
        inr (inl (
            call_takes cost code memory regs at k j c is named before
            ∙ ap (λ (t : Bool). if t
            then record { outcome = Outcome.CallDone c; context = standing regs (at + 1) 0; memory = memory }
            else record { outcome = Outcome.InCall; context = standing regs at (left_behind cost (suc j)); memory = memory }) later
            )),
      )

  -- all of them, and the answer
  called : (n m at k : ℕ) (regs : List ℕ) (c : KernelCall) → cost ≡ suc n → IsAt code at (Instr.Trap k) → call_of k ≡ Some c
      → Got m (standing regs at 0) memory → Got (m + cost) (replied (standing regs (at + 1) 0) 0 None) memory
  called n m at k regs c e is named got =
      let early : n < cost = omega arith in
      let last : (suc n == cost) ≡ true = grind (arith, nat_tests) in
      let much : suc (up n m) ≡ m + cost = omega (arith, up_is n m, e) in
      let done : Got (suc (up n m)) (replied (standing regs (at + 1) 0) 0 None) memory = (
        standing regs at (left_behind cost n),
        memory,
        waits n m at k regs c is named early got,
        inr (inr (
          c,
          standing regs (at + 1) 0,
          call_takes cost code memory regs at k n c is named early
              ∙ ap (λ (t : Bool). if t
              then record { outcome = Outcome.CallDone c; context = standing regs (at + 1) 0; memory = memory }
              else record { outcome = Outcome.InCall; context = standing regs at (left_behind cost (suc n)); memory = memory }) last,
          refl,
        )),
      ) in
      subst (λ t. Got t (replied (standing regs (at + 1) 0) 0 None) memory) much done

  abbrev pub Reached : ℕ → ℕ → Type 0
  Reached n to = (y : Context) × Got n y memory × StandsAt to y

  pub renamed : (n m at to : ℕ) → Reached n at → n ≡ m → at ≡ to → Reached m to
  renamed n m at to r e f = (r.0, subst (λ t. Got t r.0 memory) e r.1, subst (λ p. StandsAt p r.0) f r.2)

  -- a call from where it stands
  pub calls : (n m at k : ℕ) (w : Context) (c : KernelCall) → cost ≡ suc n → IsAt code at (Instr.Trap k) → call_of k ≡ Some c
      → Got m w memory → StandsAt at w → Reached (m + cost) (at + 1)
  calls n m at k w c e is named got s = (
    replied (standing w.regs (at + 1) 0) 0 None,
    called n m at k w.regs c e is named (subst (λ (x : Context). Got m x memory) (as_parts at w s) got),
    record { place = refl; registers = length-set w.regs 0 0 ∙ s.registers; left = refl },
  )

  -- the load of a number, and the call behind it
  pub loads_and_calls : (n m at k : ℕ) (w y : Context) (c : KernelCall) → cost ≡ suc n → call_of k ≡ Some c → Got m w memory
      → Runs cost code memory 1 w y → StandsAt (at + 1) y → IsAt code (at + 1) (Instr.Trap k) → Reached (m + (1 + cost)) (at + 2)
  loads_and_calls n m at k w y c e named got runs s is =
      let one = extend 1 m w y memory memory got runs in
      let all = calls n (suc m) (at + 1) k y c e is named one s in
      renamed (suc m + cost) (m + (1 + cost)) (at + 1 + 1) (at + 2) all (omega arith) (omega arith)

  -- work
  pub works : (n m to : ℕ) (w y : Context) → Got m w memory → Runs cost code memory n w y → StandsAt to y → Reached (m + n) to
  works n m to w y got runs s = renamed (up n m) (m + n) to to (y, extend n m w y memory memory got runs, s) (up_is n m) refl

-- a step, from where it stands
step_on : (cost n m : ℕ) (memory : List ℕ) (front back : List Step) (s : Step) (start w : Context) → cost ≡ suc n → IsShort s
    → GrantedFor cost (program_of (front ++ s ∷ back)) m start memory w memory → StandsAt (sum_by step_size front) w
    → Reached cost (program_of (front ++ s ∷ back)) start memory (m + step_ticks cost s) (sum_by step_size front + step_size s)
step_on cost n m memory front back (kind.Work k) start w e short got s =
    let code = program_of (front ++ kind.Work k ∷ back) in
    let took = work_is_done cost k memory front back w short s in
    let place : sum_by step_size (front ++ kind.Work k ∷ []) ≡ sum_by step_size front + step_size (kind.Work k) =
    sum_by_push step_size front (kind.Work k) in
    works cost code start memory k m (sum_by step_size front + step_size (kind.Work k)) w took.0 got took.1
    (subst (λ p. StandsAt p took.0) place took.2)
step_on cost n m memory front back (kind.Lock k) start w e short got s =
    let l = loads_its_number cost 5 k memory front back (kind.Lock k) w refl refl s in
    loads_and_calls cost (program_of (front ++ kind.Lock k ∷ back)) start memory n m (sum_by step_size front) 5 w l.0 call.Lock e refl got l.1 l.2 l.4
step_on cost n m memory front back (kind.Unlock k) start w e short got s =
    let l = loads_its_number cost 6 k memory front back (kind.Unlock k) w refl refl s in
    loads_and_calls cost (program_of (front ++ kind.Unlock k ∷ back)) start memory n m (sum_by step_size front) 6 w l.0 call.Unlock e refl got l.1 l.2 l.4
step_on cost n m memory front back (kind.Slack k) start w e short got s =
    let l = loads_its_number cost 7 k memory front back (kind.Slack k) w refl refl s in
    loads_and_calls cost (program_of (front ++ kind.Slack k ∷ back)) start memory n m (sum_by step_size front) 7 w l.0 call.Slack e refl got l.1 l.2 l.4
step_on cost n m memory front back (kind.Put k) start w e short got s =
    let l = loads_its_number cost 8 k memory front back (kind.Put k) w refl refl s in
    loads_and_calls cost (program_of (front ++ kind.Put k ∷ back)) start memory n m (sum_by step_size front) 8 w l.0 call.Put e refl got l.1 l.2 l.4
step_on cost n m memory front back kind.Wait start w e short got s =
    calls cost (program_of (front ++ kind.Wait ∷ back)) start memory n m (sum_by step_size front) 1 w call.Wait e (waits_at_once front back) refl got s

-- all steps of a job
steps_on : (cost n m : ℕ) (memory : List ℕ) (front job back : List Step) (start w : Context) → cost ≡ suc n → AreShort job
    → GrantedFor cost (program_of (front ++ (job ++ back))) m start memory w memory → StandsAt (sum_by step_size front) w
    → Reached cost (program_of (front ++ (job ++ back))) start memory (m + sum_by (step_ticks cost) job) (sum_by step_size (front ++ job))
steps_on cost n m memory front [] back start w e short got s =
    let code = program_of (front ++ back) in
    let much : m ≡ m + 0 = omega arith in
    let place : sum_by step_size front ≡ sum_by step_size (front ++ []) = ap (λ (l : List Step). sum_by step_size l) (sym (append-nil front)) in
    renamed cost code start memory m (m + 0) (sum_by step_size front) (sum_by step_size (front ++ [])) (w, got, s) much place
steps_on cost n m memory front (j ∷ job) back start w e short got s =
    let code = program_of (front ++ (j ∷ (job ++ back))) in
    let one = step_on cost n m memory front (job ++ back) j start w e short.0 got s in
    let same : front ++ (j ∷ (job ++ back)) ≡ (front ++ j ∷ []) ++ (job ++ back) = sym (append_assoc front (j ∷ []) (job ++ back)) in
    let place : sum_by step_size front + step_size j ≡ sum_by step_size (front ++ j ∷ []) = sym (sum_by_push step_size front j) in
    let more = subst (λ (steps : List Step). GrantedFor cost (program_of steps) (m + step_ticks cost j) start memory one.0 memory) same one.1 in
    let rest = steps_on cost n (m + step_ticks cost j) memory (front ++ j ∷ []) job back start one.0 e short.1 more
    (subst (λ p. StandsAt p one.0) place one.2) in
    let back_again = subst (λ (steps : List Step). GrantedFor cost (program_of steps) (m + step_ticks cost j + sum_by (step_ticks cost) job) start memory rest.0 memory) (sym same) rest.1 in
    let much : m + step_ticks cost j + sum_by (step_ticks cost) job ≡ m + sum_by (step_ticks cost) (j ∷ job) =
    omega (arith, sum_by-cons (step_ticks cost) j job) in
    let whole : sum_by step_size ((front ++ j ∷ []) ++ job) ≡ sum_by step_size (front ++ j ∷ job) =
    ap (λ (l : List Step). sum_by step_size l) (append_assoc front (j ∷ []) job) in
    renamed cost code start memory (m + step_ticks cost j + sum_by (step_ticks cost) job) (m + sum_by (step_ticks cost) (j ∷ job))
    (sum_by step_size ((front ++ j ∷ []) ++ job)) (sum_by step_size (front ++ j ∷ job)) (rest.0, back_again, rest.2) much whole

pub steps_take : StepsTake
steps_take zero memory front job back x some short s = absurd (omega arith)
steps_take (suc n) memory front job back x some short s =
    let all = steps_on (suc n) n 0 memory front job back x x refl short (refl, refl) s in
    let much : 0 + sum_by (step_ticks (suc n)) job ≡ sum_by (step_ticks (suc n)) job = omega arith in
    renamed (suc n) (program_of (front ++ (job ++ back))) x memory (0 + sum_by (step_ticks (suc n)) job) (sum_by (step_ticks (suc n)) job)
    (sum_by step_size (front ++ job)) (sum_by step_size (front ++ job)) all much refl
