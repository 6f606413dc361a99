-- No instruction of a profile's program reads the tick.
use Rattle.std.proofs.Common.{◌≡◌, ◌∙◌, refl, ap, sym, subst, ◌<◌, ◌+◌, ◌-◌, ◌*◌, ◌/◌, ◌%◌, ℕ, zero, suc, Bool, true, false, List, [], ◌∷◌, ◌++◌, length, length-append, append-nil, arith, Some}
use Rattle.std.specs.Prelude.{◌==◌, nat_lt, nat_le, if◌then◌else◌, slice_range, sum_by}
use Rattle.std.proofs.lemmas.List.Concat.{flat_map-append}
use Rattle.dk_isa.specs.declared.Instr.{Instr}
use Rattle.dk_isa.specs.Table.{bytes_of, instruction_of}
use Rattle.dk_profile.specs.declared.steps.Step.{Step}
use Rattle.dk_profile.specs.declared.steps.Step.TheVariants as kind
use Rattle.dk_profile.specs.Steps.{step_size}
use Rattle.dk_replay.specs.Code.{behind_work, code_of, counted, counted_far, lap_bytes, program_of, single, step_code, steps_bytes, work_code}
use Rattle.dk_replay.specs.Laws.{HasCode}
use Rattle.dk_replay.proofs.Places.{AreRead, has_code, jmp, read_step}
use Rattle.dk_replay_run.specs.Laws.{ProfilesReadNoTick}

-- not the call that reads the tick
abbrev IsOther : Instr → Type 0
IsOther (Instr.Trap k) = k ≡ 9 → ⊥
IsOther i = Unit {0}

abbrev AreOther : List Instr → Type 0
AreOther [] = Unit {0}
AreOther (i ∷ is) = IsOther i × AreOther is

-- bytes of instructions, none of which is that call
abbrev IsClean : List ℕ → Type 0
IsClean bytes = (is : List Instr) × (bytes ≡ code_of is) × AreRead is × AreOther is

read-both : (a b : List Instr) → AreRead a → AreRead b → AreRead (a ++ b)
read-both [] b r t = t
read-both (i ∷ a) b r t = (r.0, read-both a b r.1 t)

other-both : (a b : List Instr) → AreOther a → AreOther b → AreOther (a ++ b)
other-both [] b r t = t
other-both (i ∷ a) b r t = (r.0, other-both a b r.1 t)

clean-both : (a b : List ℕ) → IsClean a → IsClean b → IsClean (a ++ b)
clean-both a b one two = (
  one.0 ++ two.0,
  ap (λ (t : List ℕ). t ++ b) one.1 ∙ ap (λ (t : List ℕ). code_of one.0 ++ t) two.1 ∙ sym (flat_map-append bytes_of one.0 two.0),
  read-both one.0 two.0 one.2 two.2,
  other-both one.0 two.0 one.3 two.3,
)

other-single : (none one : Bool) → AreOther (if none then [] else (if one then Instr.Nop ∷ [] else Instr.Nop ∷ Instr.Nop ∷ []))
other-single true one = tt
other-single false true = (tt, tt)
other-single false false = (tt, (tt, tt))

other-counted : (at rounds : ℕ) (odd : Bool) → AreOther (counted at rounds odd)
other-counted at rounds true = (tt, (tt, (tt, (tt, tt))))
other-counted at rounds false = (tt, (tt, (tt, tt)))

other-far : (at rounds : ℕ) (odd : Bool) → AreOther (counted_far at rounds odd)
other-far at rounds true = (tt, (tt, (tt, (tt, (tt, tt)))))
other-far at rounds false = (tt, (tt, (tt, (tt, tt))))

other-work : (at n : ℕ) (short close : Bool)
    → AreOther
    (if short then single n else (
    if close then counted at ((n - 1) / 2) ((n - 1) % 2 == 1)
    else counted_far at ((n - 2) / 2) ((n - 2) % 2 == 1)))
other-work at n true close = other-single (n == 0) (n == 1)
other-work at n false true = other-counted at ((n - 1) / 2) ((n - 1) % 2 == 1)
other-work at n false false = other-far at ((n - 2) / 2) ((n - 2) % 2 == 1)

less-than-nine : (k : ℕ) → k < 9 → k ≡ 9 → ⊥
less-than-nine k less is = omega arith

other-step : (at : ℕ) (s : Step) → AreOther (step_code at s)
other-step at (kind.Work n) = other-work at n (nat_lt n 3) (nat_le n 131072)
other-step at (kind.Lock m) = (tt, (less-than-nine 5 (omega arith), tt))
other-step at (kind.Unlock m) = (tt, (less-than-nine 6 (omega arith), tt))
other-step at (kind.Slack n) = (tt, (less-than-nine 7 (omega arith), tt))
other-step at (kind.Put n) = (tt, (less-than-nine 8 (omega arith), tt))
other-step at kind.Wait = (less-than-nine 1 (omega arith), tt)

clean-step : (at : ℕ) (s : Step) → IsClean (code_of (step_code at s))
clean-step at s = (step_code at s, refl, read_step at s, other-step at s)

clean-steps : (at : ℕ) (steps : List Step) → IsClean (steps_bytes at steps)
clean-steps at [] = ([], refl, tt, tt)
clean-steps at (s ∷ steps) = clean-both (code_of (step_code at s)) (steps_bytes (at + step_size s) steps) (clean-step at s) (clean-steps (at + step_size s) steps)

clean-jump : (to : ℕ) → IsClean (code_of (Instr.Jmp to ∷ []))
clean-jump to = (Instr.Jmp to ∷ [], refl, (jmp to, tt), (tt, tt))

clean-lap : (at to : ℕ) (steps : List Step) → IsClean (lap_bytes at to steps)
clean-lap at to [] = ([], refl, tt, tt)
clean-lap at to (kind.Work n ∷ steps) =
    clean-both (code_of (work_code at (n - 1))) (code_of (Instr.Jmp to ∷ [])) (clean-step at (kind.Work (n - 1))) (clean-jump to)
clean-lap at to (kind.Lock m ∷ steps) = clean-both (code_of (step_code at (kind.Lock m))) (lap_bytes (at + 2) to steps) (clean-step at (kind.Lock m)) (clean-lap (at + 2) to steps)
clean-lap at to (kind.Unlock m ∷ steps) = clean-both (code_of (step_code at (kind.Unlock m))) (lap_bytes (at + 2) to steps) (clean-step at (kind.Unlock m)) (clean-lap (at + 2) to steps)
clean-lap at to (kind.Slack m ∷ steps) = clean-both (code_of (step_code at (kind.Slack m))) (lap_bytes (at + 2) to steps) (clean-step at (kind.Slack m)) (clean-lap (at + 2) to steps)
clean-lap at to (kind.Put m ∷ steps) = clean-both (code_of (step_code at (kind.Put m))) (lap_bytes (at + 2) to steps) (clean-step at (kind.Put m)) (clean-lap (at + 2) to steps)
clean-lap at to (kind.Wait ∷ steps) = clean-both (code_of (step_code at kind.Wait)) (lap_bytes (at + 1) to steps) (clean-step at kind.Wait) (clean-lap (at + 1) to steps)

four-each : (is : List Instr) → AreRead is → length (code_of is) ≡ 4 * length is
four-each [] read = refl
four-each (i ∷ is) read = omega (arith, length-append (bytes_of i) (code_of is), read.0.1, four-each is read.1)

-- what is read at a place is one of them
abbrev ReadsTick : List ℕ → ℕ → Type 0
ReadsTick code at = instruction_of (slice_range code (4 * at) (4 * at + 4)) ≡ Some (Instr.Trap 9)

some-same : (i j : Instr) → Some i ≡ Some j → i ≡ j
some-same i j e = cc

found : (code : List ℕ) (at : ℕ) (is : List Instr) (k : ℕ) → HasCode code at is → AreOther is → k < length is → ReadsTick code (at + k) → ⊥
found code at [] k has other within e = absurd (omega arith)
found code at (i ∷ is) zero has other within e =
    let same : at + 0 ≡ at = omega arith in
    let e' : ReadsTick code at = subst (ReadsTick code) same e in
    let is-tick : i ≡ Instr.Trap 9 = some-same i (Instr.Trap 9) (sym has.0.reads ∙ e') in
    subst IsOther is-tick other.0 refl
found code at (i ∷ is) (suc k) has other within e =
    let same : at + suc k ≡ at + 1 + k = omega arith in
    found code (at + 1) is k has.1 other.1 (omega arith) (subst (ReadsTick code) same e)

pub no-tick : ProfilesReadNoTick
no-tick steps k within e =
    let clean = clean-both (steps_bytes 0 steps) (lap_bytes (sum_by step_size steps) (behind_work steps) steps) (clean-steps 0 steps) (clean-lap (sum_by step_size steps) (behind_work steps) steps) in
    let is = clean.0 in
    let whole : program_of steps ≡ code_of is = clean.1 in
    let long : length (program_of steps) ≡ 4 * length is = ap (λ (l : List ℕ). length l) whole ∙ four-each is clean.2 in
    let has : HasCode (program_of steps) 0 is = subst (λ (t : List ℕ). HasCode t 0 is) (append-nil (code_of is) ∙ sym whole) (has_code [] [] 0 is refl clean.2) in
    let there : k ≡ 0 + k = omega arith in
    found (program_of steps) 0 is k has clean.3 (omega (arith, long, within)) (subst (ReadsTick (program_of steps)) there e)
