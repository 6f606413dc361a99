-- Two labels that are the same but for the process, and calls that no instruction of a program is.
use Rattle.dk_impact.proofs.Names.{ℕ, ◌≡◌, ◌+◌, ◌*◌, ◌≤◌, inl, inr, Bool, true, false, cond, ◌&&◌, eqb, ltb, List, length, Option, Some, None, refl, sym, ap, ◌∙◌, subst, arith, slice_range, cases_lt, eq-eqb, nat_tests, eqb_tells, Configuration, FaultKind, Instr, instruction_of, Phase, Work, Choice, Label, label_of, Outcome, KernelCall, Image, tick_in, own-tick, main_id}
use Rattle.dk_cpu.specs.Machine.{call_of}
use Rattle.dk_impact.proofs.Seen.{Whose}

same-self : (p p' : ℕ) → (eqb p p && true) ≡ (eqb p' p' && true)
same-self p p' = ap (λ b. b && true) (eq-eqb p p refl ∙ sym (eq-eqb p' p' refl))

pub whose-in : (p p' : ℕ) → Whose p p' (Label.In (main_id p)) (Label.In (main_id p'))
whose-in p p' = record { renames = refl; process = eq-eqb p p refl ∙ sym (eq-eqb p' p' refl); of = same-self p p'; budget = same-self p p'; out = ap (λ b. b && false) (same-self p p') }

pub whose-run : (p p' : ℕ) → Whose p p' (Label.Run (main_id p)) (Label.Run (main_id p'))
whose-run p p' = record { renames = refl; process = eq-eqb p p refl ∙ sym (eq-eqb p' p' refl); of = same-self p p'; budget = same-self p p'; out = ap (λ b. b && false) (same-self p p') }

pub whose-call : (p p' : ℕ) → Whose p p' (Label.Call (main_id p)) (Label.Call (main_id p'))
whose-call p p' = record { renames = refl; process = eq-eqb p p refl ∙ sym (eq-eqb p' p' refl); of = same-self p p'; budget = same-self p p'; out = ap (λ b. b && false) (same-self p p') }

pub whose-out : (p p' : ℕ) → Whose p p' (Label.Out (main_id p)) (Label.Out (main_id p'))
whose-out p p' = record { renames = refl; process = eq-eqb p p refl ∙ sym (eq-eqb p' p' refl); of = same-self p p'; budget = same-self p p'; out = ap (λ b. b && true) (same-self p p') }

pub whose-idle : (p p' : ℕ) → Whose p p' Label.Idle Label.Idle
whose-idle p p' = record { renames = refl; process = refl; of = refl; budget = refl; out = refl }

pub whose-body : (p p' : ℕ) (work : Work) → Whose p p' (label_of (Choice.Budget (main_id p) Phase.Body) work) (label_of (Choice.Budget (main_id p') Phase.Body) work)
whose-body p p' work = grind (arith, nat_tests, whose-run, whose-call)

-- a later number's call
passed : (b : Bool) (call wanted : KernelCall) (rest : Option KernelCall) {P : Type 0} → (call ≡ wanted → ⊥) → (rest ≡ Some wanted → P)
    → cond b (Some call) rest ≡ Some wanted → P
passed true call wanted rest other later is = absurd (other cc)
passed false call wanted rest other later is = later is

last-call : (b : Bool) (call wanted : KernelCall) → (call ≡ wanted → ⊥) → cond b (Some call) None ≡ Some wanted → ⊥
last-call true call wanted other is = other cc
last-call false call wanted other is = cc

-- the number of the call that reads the tick
pub time-number : (n : ℕ) → call_of n ≡ Some KernelCall.Time → n ≡ 9
time-number n =
    passed (eqb n 1) KernelCall.Wait KernelCall.Time _ (λ e. cc) (passed (eqb n 2) KernelCall.Exit KernelCall.Time _ (λ e. cc) (passed (eqb n 3) KernelCall.Create KernelCall.Time _ (λ e. cc)
    (passed (eqb n 4) KernelCall.Delete KernelCall.Time _ (λ e. cc) (passed (eqb n 5) KernelCall.Lock KernelCall.Time _ (λ e. cc) (passed (eqb n 6) KernelCall.Unlock KernelCall.Time _ (λ e. cc)
    (passed (eqb n 7) KernelCall.Slack KernelCall.Time _ (λ e. cc) (passed (eqb n 8) KernelCall.Put KernelCall.Time _ (λ e. cc) last)))))))
  where
    last : cond (eqb n 9) (Some KernelCall.Time) (cond (eqb n 10) (Some KernelCall.Left) None) ≡ Some KernelCall.Time → n ≡ 9
    last is = elim (eqb_tells n 9) [
      | inl (is_nine, same) ↦ same
      | inr (other, differ) ↦ grind (arith, nat_tests, last-call)
    ]

-- what comes after the call that makes a thread
abbrev later_calls : ℕ → Option KernelCall
later_calls n =
    cond (eqb n 4) (Some KernelCall.Delete) (cond (eqb n 5) (Some KernelCall.Lock) (cond (eqb n 6) (Some KernelCall.Unlock) (cond (eqb n 7) (Some KernelCall.Slack)
    (cond (eqb n 8) (Some KernelCall.Put) (cond (eqb n 9) (Some KernelCall.Time) (cond (eqb n 10) (Some KernelCall.Left) None))))))

-- the number of the call that makes a thread
pub create-number : (n : ℕ) → call_of n ≡ Some KernelCall.Create → n ≡ 3
create-number n =
    passed (eqb n 1) KernelCall.Wait KernelCall.Create _ (λ e. cc) (passed (eqb n 2) KernelCall.Exit KernelCall.Create _ (λ e. cc) here)
  where
    none-later : later_calls n ≡ Some KernelCall.Create → ⊥
    none-later =
        passed (eqb n 4) KernelCall.Delete KernelCall.Create _ (λ e. cc) (passed (eqb n 5) KernelCall.Lock KernelCall.Create _ (λ e. cc) (passed (eqb n 6) KernelCall.Unlock KernelCall.Create _ (λ e. cc)
        (passed (eqb n 7) KernelCall.Slack KernelCall.Create _ (λ e. cc) (passed (eqb n 8) KernelCall.Put KernelCall.Create _ (λ e. cc) (passed (eqb n 9) KernelCall.Time KernelCall.Create _ (λ e. cc)
        (last-call (eqb n 10) KernelCall.Left KernelCall.Create (λ e. cc)))))))

    here : cond (eqb n 3) (Some KernelCall.Create) (later_calls n) ≡ Some KernelCall.Create → n ≡ 3
    here is = elim (eqb_tells n 3) [
      | inl (is_three, same) ↦ same
      | inr (other, differ) ↦ absurd (none-later (subst (λ b. cond b (Some KernelCall.Create) (later_calls n) ≡ Some KernelCall.Create) other is))
    ]

-- the number of the call that locks
pub lock-number : (n : ℕ) → call_of n ≡ Some KernelCall.Lock → n ≡ 5
lock-number n =
    passed (eqb n 1) KernelCall.Wait KernelCall.Lock _ (λ e. cc) (passed (eqb n 2) KernelCall.Exit KernelCall.Lock _ (λ e. cc) (passed (eqb n 3) KernelCall.Create KernelCall.Lock _ (λ e. cc)
    (passed (eqb n 4) KernelCall.Delete KernelCall.Lock _ (λ e. cc) here)))
  where
    none-later : cond (eqb n 6) (Some KernelCall.Unlock) (cond (eqb n 7) (Some KernelCall.Slack) (cond (eqb n 8) (Some KernelCall.Put) (cond (eqb n 9) (Some KernelCall.Time) (cond (eqb n 10) (Some KernelCall.Left) None))))
        ≡ Some KernelCall.Lock → ⊥
    none-later =
        passed (eqb n 6) KernelCall.Unlock KernelCall.Lock _ (λ e. cc) (passed (eqb n 7) KernelCall.Slack KernelCall.Lock _ (λ e. cc)
        (passed (eqb n 8) KernelCall.Put KernelCall.Lock _ (λ e. cc) (passed (eqb n 9) KernelCall.Time KernelCall.Lock _ (λ e. cc)
        (last-call (eqb n 10) KernelCall.Left KernelCall.Lock (λ e. cc)))))

    here : cond (eqb n 5) (Some KernelCall.Lock) (cond (eqb n 6) (Some KernelCall.Unlock) (cond (eqb n 7) (Some KernelCall.Slack) (cond (eqb n 8) (Some KernelCall.Put) (cond (eqb n 9) (Some KernelCall.Time) (cond (eqb n 10) (Some KernelCall.Left) None)))))
        ≡ Some KernelCall.Lock → n ≡ 5
    here is = elim (eqb_tells n 5) [
      | inl (is_five, same) ↦ same
      | inr (other, differ) ↦ absurd (none-later (subst (λ b. cond b (Some KernelCall.Lock) (cond (eqb n 6) (Some KernelCall.Unlock) (cond (eqb n 7) (Some KernelCall.Slack) (cond (eqb n 8) (Some KernelCall.Put) (cond (eqb n 9) (Some KernelCall.Time) (cond (eqb n 10) (Some KernelCall.Left) None))))) ≡ Some KernelCall.Lock) other is))
    ]

-- the number of the call that reads what is left of the budget
pub left-number : (n : ℕ) → call_of n ≡ Some KernelCall.Left → n ≡ 10
left-number n =
    passed (eqb n 1) KernelCall.Wait KernelCall.Left _ (λ e. cc) (passed (eqb n 2) KernelCall.Exit KernelCall.Left _ (λ e. cc) (passed (eqb n 3) KernelCall.Create KernelCall.Left _ (λ e. cc)
    (passed (eqb n 4) KernelCall.Delete KernelCall.Left _ (λ e. cc) (passed (eqb n 5) KernelCall.Lock KernelCall.Left _ (λ e. cc) (passed (eqb n 6) KernelCall.Unlock KernelCall.Left _ (λ e. cc)
    (passed (eqb n 7) KernelCall.Slack KernelCall.Left _ (λ e. cc) (passed (eqb n 8) KernelCall.Put KernelCall.Left _ (λ e. cc) (passed (eqb n 9) KernelCall.Time KernelCall.Left _ (λ e. cc) last))))))))
  where
    last : cond (eqb n 10) (Some KernelCall.Left) None ≡ Some KernelCall.Left → n ≡ 10
    last is = elim (eqb_tells n 10) [
      | inl (is_ten, same) ↦ same
      | inr (other, differ) ↦ absurd (none-left (subst (λ b. cond b (Some KernelCall.Left) None ≡ Some KernelCall.Left) other is))
    ]
      where
        none-left : None ≡ Some KernelCall.Left → ⊥
        none-left e = cc

-- a call isn't done where no instruction is that call
pub not-done : (c : Configuration) (program : List ℕ) (image : Image) (number : ℕ) (call : KernelCall) → ((n : ℕ) → call_of n ≡ Some call → n ≡ number)
    → ((k : ℕ) → 4 * k + 4 ≤ length program → instruction_of (slice_range program (4 * k) (4 * k + 4)) ≡ Some (Instr.Trap number) → ⊥)
    → image.code ≡ program → (tick_in c image 0).outcome ≡ Outcome.CallDone call → ⊥
not-done c program image number call numbers none code is =
    let x = image.contexts 0 in
    let none' : (k : ℕ) → 4 * k + 4 ≤ length image.code → instruction_of (slice_range image.code (4 * k) (4 * k + 4)) ≡ Some (Instr.Trap number) → ⊥ = grind (arith, nat_tests) in
    elim (cases_lt (length image.code) (4 * x.pc + 4)) [
      | inl past ↦ grind (arith, nat_tests)
      | inr within ↦
          let (n, (there, named)) = (own-tick c.costs.call image.code x image.memory).trap call is in
          none' x.pc within (there ∙ ap (λ k. Some (Instr.Trap k)) (numbers n named))
    ]
  where
    fault-past : ltb (length image.code) (4 * (image.contexts 0).pc + 4) ≡ true
        → (tick_in c image 0).outcome ≡ Outcome.Fault FaultKind.Fetch
    fault-past test = rw test refl

    no-call : (tick_in c image 0).outcome ≡ Outcome.CallDone call
        → (tick_in c image 0).outcome ≡ Outcome.Fault FaultKind.Fetch → ⊥
    no-call done fault = let never : Outcome.CallDone call ≡ Outcome.Fault FaultKind.Fetch = sym done ∙ fault in cc
