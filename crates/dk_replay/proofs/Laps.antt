-- The way round takes as many ticks as the steps up to the first work.
use Rattle.std.proofs.Common.{◌≡◌, ◌∙◌, refl, ap, sym, subst, ◌<◌, ◌+◌, ◌-◌, ◌*◌, ◌^◌, ℕ, zero, suc, List, [], ◌∷◌, ◌++◌, length, length-append, append_assoc, append-nil, arith}
use Rattle.std.specs.Prelude.{sum_by, Some}
use Rattle.std.proofs.lemmas.List.Sums.{sum_by-cons, sum_by_push}
use Rattle.dk_isa.specs.declared.Instr.{Instr}
use Rattle.dk_cpu.specs.declared.Context.{Context}
use Rattle.dk_cpu.specs.declared.kernel_call.KernelCall.{KernelCall}
use Rattle.dk_cpu.specs.declared.kernel_call.KernelCall.TheVariants as call
use Rattle.dk_cpu.specs.Machine.{call_of, jump, set}
use Rattle.dk_profile.specs.declared.steps.Step.{Step}
use Rattle.dk_profile.specs.declared.steps.Step.TheVariants as kind
use Rattle.dk_profile.specs.Steps.{step_size, step_ticks, work_size}
use Rattle.dk_replay.specs.Code.{behind_work, code_of, lap_bytes, program_of, step_code, steps_bytes, work_code}
use Rattle.dk_replay.specs.Laws.{GrantedFor, HasCode, HaveNoWork, LapTakes, StandsAt}
use Rattle.dk_replay.proofs.Sizes.{all_bytes, step_bytes, work_bytes}
use Rattle.dk_replay.proofs.Work.{loaded, more, none, work_takes}
use Rattle.dk_replay.proofs.Places.{has_code, jmp, read_step}
use Rattle.dk_replay.proofs.Granted.{Reached, calls, loads_and_calls, renamed, works}

-- each of the steps stands at its place
abbrev HasAll : List ℕ → ℕ → List Step → Type 0
HasAll code at [] = Unit {0}
HasAll code at (s ∷ steps) = HasCode code at (step_code at s) × HasAll code (at + step_size s) steps

has_all : (pre rest : List ℕ) (at : ℕ) (steps : List Step) → length pre ≡ 4 * at → HasAll (pre ++ (steps_bytes at steps ++ rest)) at steps
has_all pre rest at [] l = tt
has_all pre rest at (s ∷ steps) l =
    let own : List ℕ = code_of (step_code at s) in
    let behind : List ℕ = steps_bytes (at + step_size s) steps in
    let same : pre ++ ((own ++ behind) ++ rest) ≡ pre ++ (own ++ (behind ++ rest)) =
    ap (λ (t : List ℕ). pre ++ t) (append_assoc own behind rest) in
    let long : length (pre ++ own) ≡ 4 * (at + step_size s) = omega (arith, length-append pre own, l, step_bytes at s) in
    let here = has_code pre (behind ++ rest) at (step_code at s) l (read_step at s) in
    let next = has_all (pre ++ own) rest (at + step_size s) steps long in
    subst (λ (t : List ℕ). HasAll t at (s ∷ steps)) (sym same)
    (here, subst (λ (t : List ℕ). HasAll t (at + step_size s) steps) (append_assoc pre own (behind ++ rest)) next)

module _ (cost n : ℕ) (some : cost ≡ suc n) (code memory : List ℕ) (start : Context) where
  -- a call with a number
  call_at : (m at k v : ℕ) (w : Context) (c : KernelCall) → HasCode code at (Instr.Li 1 v ∷ Instr.Trap k ∷ []) → call_of k ≡ Some c
      → GrantedFor cost code m start memory w memory → StandsAt at w → Reached cost code start memory (m + (1 + cost)) (at + 2)
  call_at m at k v w c has named got s =
      loads_and_calls cost code start memory n m at k w (set w 1 v) c some named got
      (more cost code memory 0 at (Instr.Li 1 v) w w (set w 1 v) (none cost code memory w) has.0 s refl) (loaded at w v s).stands has.1.0

  -- a step that is no work
  other_at : (m at : ℕ) (s : Step) (steps : List Step) (w : Context) → HaveNoWork (s ∷ steps) → HasCode code at (step_code at s)
      → GrantedFor cost code m start memory w memory → StandsAt at w → Reached cost code start memory (m + step_ticks cost s) (at + step_size s)
  other_at m at (kind.Work k) steps w idle has got s = absurd idle
  other_at m at (kind.Lock k) steps w idle has got s = call_at m at 5 k w call.Lock has refl got s
  other_at m at (kind.Unlock k) steps w idle has got s = call_at m at 6 k w call.Unlock has refl got s
  other_at m at (kind.Slack k) steps w idle has got s = call_at m at 7 k w call.Slack has refl got s
  other_at m at (kind.Put k) steps w idle has got s = call_at m at 8 k w call.Put has refl got s
  other_at m at kind.Wait steps w idle has got s = calls cost code start memory n m at 1 w call.Wait some has.0 refl got s

  behind_other : (s : Step) (steps : List Step) → HaveNoWork (s ∷ steps) → HaveNoWork steps
  behind_other (kind.Work k) steps idle = absurd idle
  behind_other (kind.Lock k) steps idle = idle
  behind_other (kind.Unlock k) steps idle = idle
  behind_other (kind.Slack k) steps idle = idle
  behind_other (kind.Put k) steps idle = idle
  behind_other kind.Wait steps idle = idle

  others_at : (m at : ℕ) (steps : List Step) (w : Context) → HaveNoWork steps → HasAll code at steps
      → GrantedFor cost code m start memory w memory → StandsAt at w
      → Reached cost code start memory (m + sum_by (step_ticks cost) steps) (at + sum_by step_size steps)
  others_at m at [] w idle has got s = renamed cost code start memory m (m + 0) at (at + 0) (w, got, s) (omega arith) (omega arith)
  others_at m at (j ∷ steps) w idle has got s =
      let one = other_at m at j steps w idle has.0 got s in
      let rest = others_at (m + step_ticks cost j) (at + step_size j) steps one.0 (behind_other j steps idle) has.1 one.1 one.2 in
      let much : m + step_ticks cost j + sum_by (step_ticks cost) steps ≡ m + sum_by (step_ticks cost) (j ∷ steps) =
      omega (arith, sum_by-cons (step_ticks cost) j steps) in
      let place : at + step_size j + sum_by step_size steps ≡ at + sum_by step_size (j ∷ steps) =
      omega (arith, sum_by-cons step_size j steps) in
      renamed cost code start memory (m + step_ticks cost j + sum_by (step_ticks cost) steps) (m + sum_by (step_ticks cost) (j ∷ steps))
      (at + step_size j + sum_by step_size steps) (at + sum_by step_size (j ∷ steps)) rest much place

-- the lap in front of its last work
abbrev Lap : ℕ → ℕ → List Step → ℕ → List Step → Type 0
Lap at to front n back =
    lap_bytes at to (front ++ kind.Work n ∷ back)
    ≡ steps_bytes at front ++ (code_of (work_code (at + sum_by step_size front) (n - 1)) ++ code_of (Instr.Jmp to ∷ []))

lap_cons : (at to n : ℕ) (s : Step) (front back : List Step) → Lap (at + step_size s) to front n back
    → code_of (step_code at s) ++ lap_bytes (at + step_size s) to (front ++ kind.Work n ∷ back)
    ≡ (code_of (step_code at s) ++ steps_bytes (at + step_size s) front)
    ++ (code_of (work_code (at + sum_by step_size (s ∷ front)) (n - 1)) ++ code_of (Instr.Jmp to ∷ []))
lap_cons at to n s front back lap =
    let here : ℕ = at + step_size s + sum_by step_size front in
    let e : here ≡ at + sum_by step_size (s ∷ front) = omega (arith, sum_by-cons step_size s front) in
    let own : List ℕ = code_of (step_code at s) in
    let behind : List ℕ = steps_bytes (at + step_size s) front in
    ap (λ (t : List ℕ). own ++ t) lap
    ∙ (sym (append_assoc own behind (code_of (work_code here (n - 1)) ++ code_of (Instr.Jmp to ∷ [])))
    ∙ ap (λ p. (own ++ behind) ++ (code_of (work_code p (n - 1)) ++ code_of (Instr.Jmp to ∷ []))) e)

lap_is : (at to n : ℕ) (front back : List Step) → HaveNoWork front → Lap at to front n back
lap_is at to n [] back idle =
    let e : at ≡ at + 0 = omega arith in
    ap (λ p. code_of (work_code p (n - 1)) ++ code_of (Instr.Jmp to ∷ [])) e
lap_is at to n (kind.Work k ∷ front) back idle = absurd idle
lap_is at to n (kind.Lock k ∷ front) back idle = lap_cons at to n (kind.Lock k) front back (lap_is (at + 2) to n front back idle)
lap_is at to n (kind.Unlock k ∷ front) back idle = lap_cons at to n (kind.Unlock k) front back (lap_is (at + 2) to n front back idle)
lap_is at to n (kind.Slack k ∷ front) back idle = lap_cons at to n (kind.Slack k) front back (lap_is (at + 2) to n front back idle)
lap_is at to n (kind.Put k ∷ front) back idle = lap_cons at to n (kind.Put k) front back (lap_is (at + 2) to n front back idle)
lap_is at to n (kind.Wait ∷ front) back idle = lap_cons at to n kind.Wait front back (lap_is (at + 1) to n front back idle)

behind_is : (n : ℕ) (front back : List Step) → HaveNoWork front → behind_work (front ++ kind.Work n ∷ back) ≡ sum_by step_size front + work_size n
behind_is n [] back idle = omega arith
behind_is n (kind.Work k ∷ front) back idle = absurd idle
behind_is n (kind.Lock k ∷ front) back idle = omega (arith, behind_is n front back idle, sum_by-cons step_size (kind.Lock k) front)
behind_is n (kind.Unlock k ∷ front) back idle = omega (arith, behind_is n front back idle, sum_by-cons step_size (kind.Unlock k) front)
behind_is n (kind.Slack k ∷ front) back idle = omega (arith, behind_is n front back idle, sum_by-cons step_size (kind.Slack k) front)
behind_is n (kind.Put k ∷ front) back idle = omega (arith, behind_is n front back idle, sum_by-cons step_size (kind.Put k) front)
behind_is n (kind.Wait ∷ front) back idle = omega (arith, behind_is n front back idle, sum_by-cons step_size kind.Wait front)

lap_runs : (cost n m : ℕ) (memory : List ℕ) (front back : List Step) (x : Context) → cost ≡ suc m → 0 < n → n < 2 ^ 32 → HaveNoWork front
    → StandsAt (sum_by step_size (front ++ kind.Work n ∷ back)) x
    → Reached cost (program_of (front ++ kind.Work n ∷ back)) x memory (sum_by (step_ticks cost) (front ++ kind.Work n ∷ []))
    (sum_by step_size (front ++ kind.Work n ∷ []))
lap_runs cost n m memory front back x some work small idle s =
    let steps = front ++ kind.Work n ∷ back in
    let code : List ℕ = program_of steps in
    let at : ℕ = sum_by step_size steps in
    let to : ℕ = behind_work steps in
    let mid : ℕ = at + sum_by step_size front in
    let first : List ℕ = steps_bytes 0 steps in
    let before : List ℕ = steps_bytes at front in
    let own : List ℕ = code_of (work_code mid (n - 1)) in
    let last : List ℕ = code_of (Instr.Jmp to ∷ []) in
    let whole : code ≡ first ++ (before ++ (own ++ last)) = ap (λ (t : List ℕ). first ++ t) (lap_is at to n front back idle) in
    let long : length first ≡ 4 * at = all_bytes 0 steps in
    let long2 : length (first ++ before) ≡ 4 * mid = omega (arith, length-append first before, long, all_bytes at front) in
    let long3 : length ((first ++ before) ++ own) ≡ 4 * (mid + work_size (n - 1)) = omega (arith, length-append (first ++ before) own, long2, work_bytes mid (n - 1)) in
    let split2 : first ++ (before ++ (own ++ last)) ≡ (first ++ before) ++ (own ++ last) = sym (append_assoc first before (own ++ last)) in
    let split3 : (first ++ before) ++ (own ++ last) ≡ ((first ++ before) ++ own) ++ (last ++ []) =
    sym (append_assoc (first ++ before) own last) ∙ ap (λ (t : List ℕ). ((first ++ before) ++ own) ++ t) (sym (append-nil last)) in
    let fronts = subst (λ (t : List ℕ). HasAll t at front) (sym whole) (has_all first (own ++ last) at front long) in
    let works_there = subst (λ (t : List ℕ). HasCode t mid (work_code mid (n - 1))) (sym (whole ∙ split2)) (has_code (first ++ before) last mid (work_code mid (n - 1)) long2 (read_step mid (kind.Work (n - 1)))) in
    let jumps = subst (λ (t : List ℕ). HasCode t (mid + work_size (n - 1)) (Instr.Jmp to ∷ [])) (sym (whole ∙ (split2 ∙ split3)))
    (has_code ((first ++ before) ++ own) [] (mid + work_size (n - 1)) (Instr.Jmp to ∷ []) long3 (jmp to, tt)) in
    let one = others_at cost m some code memory x 0 at front x idle fronts (refl, refl) s in
    let less : n - 1 < 2 ^ 32 = omega arith in
    let took = work_takes cost code memory mid (n - 1) one.0 works_there less one.2 in
    let two = works cost code x memory (n - 1) (0 + sum_by (step_ticks cost) front) (mid + work_size (n - 1)) one.0 took.0 one.1 took.1 took.2 in
    let three = more cost code memory 0 (mid + work_size (n - 1)) (Instr.Jmp to) two.0 two.0 (jump two.0 to) (none cost code memory two.0) jumps.0 two.2 refl in
    let stands : StandsAt to (jump two.0 to) = record { place = refl; registers = two.2.registers; left = two.2.left } in
    let all = works cost code x memory 1 (0 + sum_by (step_ticks cost) front + (n - 1)) to two.0 (jump two.0 to) two.1 three stands in
    let much : 0 + sum_by (step_ticks cost) front + (n - 1) + 1 ≡ sum_by (step_ticks cost) (front ++ kind.Work n ∷ []) =
    omega (arith, sum_by_push (step_ticks cost) front (kind.Work n)) in
    let place : to ≡ sum_by step_size (front ++ kind.Work n ∷ []) = omega (arith, behind_is n front back idle, sum_by_push step_size front (kind.Work n)) in
    renamed cost code x memory (0 + sum_by (step_ticks cost) front + (n - 1) + 1) (sum_by (step_ticks cost) (front ++ kind.Work n ∷ []))
    to (sum_by step_size (front ++ kind.Work n ∷ [])) all much place

pub lap_takes : LapTakes
lap_takes zero n memory front back x some work small idle s = absurd (omega arith)
lap_takes (suc m) n memory front back x some work small idle s = lap_runs (suc m) n m memory front back x refl work small idle s
