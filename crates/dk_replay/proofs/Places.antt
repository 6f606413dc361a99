-- The program of steps has the code of each of them at its place.
use Rattle.std.proofs.Common.{◌≡◌, ◌∙◌, refl, ap, sym, subst, ◌+◌, ◌-◌, ◌*◌, ◌/◌, ◌%◌, ℕ, Bool, true, false, List, [], ◌∷◌, ◌++◌, length, take, length-append, append_assoc, arith, Some}
use Rattle.std.specs.Prelude.{◌==◌, nat_lt, nat_le, if◌then◌else◌, slice_range, sum_by}
use Rattle.std.proofs.lemmas.List.{take_at, drop_at}
use Rattle.std.proofs.lemmas.List.Sums.{sum_by-cons, sum_by_push}
use Rattle.dk_isa.specs.declared.Instr.{Instr}
use Rattle.dk_isa.specs.Table.{bytes_of, instruction_of}
use Rattle.dk_cpu.specs.declared.Context.{Context}
use Rattle.dk_cpu.specs.Machine.{reg, set}
use Rattle.dk_profile.specs.declared.steps.Step.{Step}
use Rattle.dk_profile.specs.declared.steps.Step.TheVariants as kind
use Rattle.dk_profile.specs.Steps.{step_size, work_size}
use Rattle.dk_replay.specs.Code.{behind_work, call_code, code_of, counted, counted_far, lap_bytes, program_of, single, step_code, steps_bytes}
use Rattle.dk_replay.specs.Laws.{HasCode, HasSteps, IsAt, LoadsItsNumber, Runs, StandsAt, WaitsAtOnce, WorkIsDone}
use Rattle.dk_replay.proofs.Sizes.{all_bytes}
use Rattle.dk_replay.proofs.Work.{loaded, more, none, work_takes}

-- four bytes each, which are read as the instruction
abbrev pub AreRead : List Instr → Type 0
AreRead [] = Unit {0}
AreRead (i ∷ instrs) = ((instruction_of (bytes_of i) ≡ Some i) × (length (bytes_of i) ≡ 4)) × AreRead instrs

imm : (v : ℕ) → v % 256 + 256 * (v / 256) ≡ v
imm v = omega arith

li : (v : ℕ) → (instruction_of (bytes_of (Instr.Li 1 v)) ≡ Some (Instr.Li 1 v)) × (length (bytes_of (Instr.Li 1 v)) ≡ 4)
li v = (ap (λ n. Some (Instr.Li 1 n)) (imm v), refl)

lih : (v : ℕ) → (instruction_of (bytes_of (Instr.Lih 1 v)) ≡ Some (Instr.Lih 1 v)) × (length (bytes_of (Instr.Lih 1 v)) ≡ 4)
lih v = (ap (λ n. Some (Instr.Lih 1 n)) (imm v), refl)

jnz : (v : ℕ) → (instruction_of (bytes_of (Instr.Jnz 1 v)) ≡ Some (Instr.Jnz 1 v)) × (length (bytes_of (Instr.Jnz 1 v)) ≡ 4)
jnz v = (ap (λ n. Some (Instr.Jnz 1 n)) (imm v), refl)

pub jmp : (v : ℕ) → (instruction_of (bytes_of (Instr.Jmp v)) ≡ Some (Instr.Jmp v)) × (length (bytes_of (Instr.Jmp v)) ≡ 4)
jmp v = (ap (λ n. Some (Instr.Jmp n)) (imm v), refl)

addi : (v : ℕ) → (instruction_of (bytes_of (Instr.Addi 1 v)) ≡ Some (Instr.Addi 1 v)) × (length (bytes_of (Instr.Addi 1 v)) ≡ 4)
addi v = (ap (λ n. Some (Instr.Addi 1 n)) (imm v), refl)

read_single : (none one : Bool) → AreRead (if none then [] else (if one then Instr.Nop ∷ [] else Instr.Nop ∷ Instr.Nop ∷ []))
read_single true one = tt
read_single false true = ((refl, refl), tt)
read_single false false = ((refl, refl), ((refl, refl), tt))

read_counted : (at rounds : ℕ) (odd : Bool) → AreRead (counted at rounds odd)
read_counted at rounds true = (li rounds, (addi 65535, (jnz (at + 1), ((refl, refl), tt))))
read_counted at rounds false = (li rounds, (addi 65535, (jnz (at + 1), tt)))

read_far : (at rounds : ℕ) (odd : Bool) → AreRead (counted_far at rounds odd)
read_far at rounds true = (li (rounds % 65536), (lih (rounds / 65536), (addi 65535, (jnz (at + 2), ((refl, refl), tt)))))
read_far at rounds false = (li (rounds % 65536), (lih (rounds / 65536), (addi 65535, (jnz (at + 2), tt))))

read_work : (at n : ℕ) (short close : Bool)
    → AreRead
    (if short then single n else (
    if close then counted at ((n - 1) / 2) ((n - 1) % 2 == 1)
    else counted_far at ((n - 2) / 2) ((n - 2) % 2 == 1)))
read_work at n true close = read_single (n == 0) (n == 1)
read_work at n false true = read_counted at ((n - 1) / 2) ((n - 1) % 2 == 1)
read_work at n false false = read_far at ((n - 2) / 2) ((n - 2) % 2 == 1)

pub read_step : (at : ℕ) (s : Step) → AreRead (step_code at s)
read_step at (kind.Work n) = read_work at n (nat_lt n 3) (nat_le n 131072)
read_step at (kind.Lock m) = (li m, ((refl, refl), tt))
read_step at (kind.Unlock m) = (li m, ((refl, refl), tt))
read_step at (kind.Slack n) = (li n, ((refl, refl), tt))
read_step at (kind.Put n) = (li n, ((refl, refl), tt))
read_step at kind.Wait = ((refl, refl), tt)

whole_slice : (pre w rest : List ℕ) (at : ℕ) → length pre ≡ 4 * at → length w ≡ 4
    → slice_range (pre ++ (w ++ rest)) (4 * at) (4 * at + 4) ≡ w
whole_slice pre w rest at l four =
    let span : 4 * at + 4 - 4 * at ≡ 4 = omega arith in
    ap (λ (xs : List ℕ). take (4 * at + 4 - 4 * at) xs) (drop_at pre (w ++ rest) (4 * at) l)
    ∙ (ap (λ n. take n (w ++ rest)) span ∙ take_at w rest 4 four)

-- instructions behind as many bytes as their place tells
pub has_code : (pre rest : List ℕ) (at : ℕ) (instrs : List Instr) → length pre ≡ 4 * at → AreRead instrs
    → HasCode (pre ++ (code_of instrs ++ rest)) at instrs
has_code pre rest at [] l r = tt
has_code pre rest at (i ∷ instrs) l r =
    let more : List ℕ = code_of instrs ++ rest in
    let same : pre ++ ((bytes_of i ++ code_of instrs) ++ rest) ≡ pre ++ (bytes_of i ++ more) =
    ap (λ (t : List ℕ). pre ++ t) (append_assoc (bytes_of i) (code_of instrs) rest) in
    let four : length (bytes_of i) ≡ 4 = r.0.1 in
    let here : IsAt (pre ++ (bytes_of i ++ more)) at i = record {
      within = omega (arith, length-append pre (bytes_of i ++ more), length-append (bytes_of i) more, l, four);
      reads = ap instruction_of (whole_slice pre (bytes_of i) more at l four) ∙ r.0.0;
    } in
    let long : length (pre ++ bytes_of i) ≡ 4 * (at + 1) = omega (arith, length-append pre (bytes_of i), l, four) in
    let next = has_code (pre ++ bytes_of i) rest (at + 1) instrs long r.1 in
    subst (λ (t : List ℕ). HasCode t at (i ∷ instrs)) (sym same)
    (here, subst (λ (t : List ℕ). HasCode t (at + 1) instrs) (append_assoc pre (bytes_of i) more) next)

-- the bytes in front of a step, its own, and those behind
split : (at : ℕ) (front : List Step) (s : Step) (back : List Step)
    → steps_bytes at (front ++ s ∷ back)
    ≡ steps_bytes at front
    ++ (code_of (step_code (at + sum_by step_size front) s) ++ steps_bytes (at + sum_by step_size front + step_size s) back)
split at [] s back =
    let e : at ≡ at + 0 = omega arith in
    ap (λ n. code_of (step_code n s) ++ steps_bytes (n + step_size s) back) e
split at (f ∷ front) s back =
    let here = at + step_size f + sum_by step_size front in
    let e : here ≡ at + sum_by step_size (f ∷ front) = omega (arith, sum_by-cons step_size f front) in
    ap (λ (t : List ℕ). code_of (step_code at f) ++ t) (split (at + step_size f) front s back)
    ∙ (sym (append_assoc (code_of (step_code at f)) (steps_bytes (at + step_size f) front) (code_of (step_code here s) ++ steps_bytes (here + step_size s) back))
    ∙ ap (λ n. (code_of (step_code at f) ++ steps_bytes (at + step_size f) front) ++ (code_of (step_code n s) ++ steps_bytes (n + step_size s) back)) e)

pub has_steps : HasSteps
has_steps front back s =
    let steps = front ++ s ∷ back in
    let at : ℕ = sum_by step_size front in
    let lap : List ℕ = lap_bytes (sum_by step_size steps) (behind_work steps) steps in
    let behind : List ℕ = steps_bytes (0 + at + step_size s) back in
    let own : List ℕ = code_of (step_code (0 + at) s) in
    let first : List ℕ = steps_bytes 0 front in
    let e : 0 + at ≡ at = omega arith in
    let whole : program_of steps ≡ first ++ (own ++ (behind ++ lap)) =
    ap (λ (t : List ℕ). t ++ lap) (split 0 front s back)
    ∙ (append_assoc first (own ++ behind) lap ∙ ap (λ (t : List ℕ). first ++ t) (append_assoc own behind lap)) in
    let there = has_code first (behind ++ lap) (0 + at) (step_code (0 + at) s) (all_bytes 0 front ∙ ap (λ n. 4 * n) (sym e)) (read_step (0 + at) s) in
    subst (λ n. HasCode (program_of steps) n (step_code n s)) e (subst (λ (t : List ℕ). HasCode t (0 + at) (step_code (0 + at) s)) (sym whole) there)

pub work_is_done : WorkIsDone
work_is_done cost n memory front back x small s =
    let took = work_takes cost (program_of (front ++ kind.Work n ∷ back)) memory (sum_by step_size front) n x (has_steps front back (kind.Work n)) small s in
    let e : sum_by step_size front + work_size n ≡ sum_by step_size (front ++ kind.Work n ∷ []) =
    omega (arith, sum_by_push step_size front (kind.Work n)) in
    (took.0, took.1, subst (λ p. StandsAt p took.0) e took.2)

-- a number was loaded, and its call stands there
abbrev Loaded : ℕ → ℕ → ℕ → List ℕ → List ℕ → ℕ → Context → Type 0
Loaded cost k v code memory at x =
    (y : Context) × Runs cost code memory 1 x y × StandsAt (at + 1) y × (reg y 1 ≡ v) × IsAt code (at + 1) (Instr.Trap k)

load_then : (cost k m v : ℕ) (code memory : List ℕ) (at : ℕ) (x : Context) → HasCode code at (call_code k m) → m ≡ v → StandsAt at x
    → Loaded cost k v code memory at x
load_then cost k m v code memory at x has same s =
    let y : Context = set x 1 m in
    let c = loaded at x m s in
    (y, more cost code memory 0 at (Instr.Li 1 m) x x y (none cost code memory x) has.0 s refl, c.stands, c.value ∙ same, has.1.0)

pub loads_its_number : LoadsItsNumber
loads_its_number cost k v memory front back (kind.Work n) x number named s = absurd (cc)
loads_its_number cost k v memory front back (kind.Lock m) x number named s =
    let code = program_of (front ++ kind.Lock m ∷ back) in
    let at = sum_by step_size front in
    let has = has_steps front back (kind.Lock m) in
    let trap : 5 ≡ k = cc in
    let same : m ≡ v = cc in
    subst (λ n. Loaded cost n v code memory at x) trap (load_then cost 5 m v code memory at x has same s)
loads_its_number cost k v memory front back (kind.Unlock m) x number named s =
    let code = program_of (front ++ kind.Unlock m ∷ back) in
    let at = sum_by step_size front in
    let has = has_steps front back (kind.Unlock m) in
    let trap : 6 ≡ k = cc in
    let same : m ≡ v = cc in
    subst (λ n. Loaded cost n v code memory at x) trap (load_then cost 6 m v code memory at x has same s)
loads_its_number cost k v memory front back (kind.Slack m) x number named s =
    let code = program_of (front ++ kind.Slack m ∷ back) in
    let at = sum_by step_size front in
    let has = has_steps front back (kind.Slack m) in
    let trap : 7 ≡ k = cc in
    let same : m ≡ v = cc in
    subst (λ n. Loaded cost n v code memory at x) trap (load_then cost 7 m v code memory at x has same s)
loads_its_number cost k v memory front back (kind.Put m) x number named s =
    let code = program_of (front ++ kind.Put m ∷ back) in
    let at = sum_by step_size front in
    let has = has_steps front back (kind.Put m) in
    let trap : 8 ≡ k = cc in
    let same : m ≡ v = cc in
    subst (λ n. Loaded cost n v code memory at x) trap (load_then cost 8 m v code memory at x has same s)
loads_its_number cost k v memory front back kind.Wait x number named s = absurd (cc)

pub waits_at_once : WaitsAtOnce
waits_at_once front back = (has_steps front back kind.Wait).0
