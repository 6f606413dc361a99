-- Without any one of its premises the law is false: short runs of one process that stand alike in all else, and go on otherwise.
use Rattle.dk_repeat.proofs.Names.{ℕ, zero, suc, inl, inr, false, ◌⊎◌, ◌≡◌, ◌+◌, ◌*◌, ◌%◌, ◌≤◌, ◌<◌, cond, List, [], ◌∷◌, length, Option, Some, None, refl, ap, sym, ◌∙◌, subst, arith, map, is_some, slice_index_or, Configuration, period, IsChecked, IsAccepted, first_broken, checked, Nop, Li, Addi, Ld, St, Jmp, Trap, Entry, Has, thread_of, Thread, main_thread, family, accepted, World, world, ReadsNoTick, program, spinner, call_of, earlier-call, value_of, RunsRepeat, ProgramsReadNoTick, WindowsBegin, standing, RunStandsAgain, ReadsNoTickNext, entry_at}
use Rattle.dk_config.specs.Rules.{all_tests, version_tests, count_tests, range_tests, period_tests, name_tests, again_tests, level_tests, budget_tests, user_tests, slowest_tests}

abbrev pub Threads : Configuration → World → World → Type 0
Threads c w v = (p : ℕ) → p < length c.processes → map standing (family c p w.past) ≡ map standing (family c p v.past)

abbrev pub Memories : Configuration → World → World → Type 0
Memories c w v = (p : ℕ) → p < length c.processes → (w.images p).memory ≡ (v.images p).memory

abbrev pub Contexts : Configuration → World → World → Type 0
Contexts c w v =
    (p : ℕ) (x : Thread) → p < length c.processes → Has (family c p w.past) x → x.stop ≡ None
    → (w.images p).contexts x.id.serial ≡ (v.images p).contexts x.id.serial

abbrev Starts : Configuration → ℕ → ℕ → Type 0
Starts c s k = WindowsBegin c s × WindowsBegin c (s + k)

abbrev Clock : Configuration → List (List ℕ) → ℕ → ℕ → Type 0
Clock c programs s k = (n : ℕ) → n < k → ReadsNoTickNext c (world c programs (s + n))

-- the law, with these premises of the two worlds
abbrev LawWith : (Configuration → List (List ℕ) → ℕ → ℕ → World → World → Type 0) → Type 0
LawWith Premises =
    (c : Configuration) (programs : List (List ℕ)) (s k n : ℕ) → IsChecked c → IsAccepted c → 0 < k
    → Premises c programs s k (world c programs s) (world c programs (s + k)) → entry_at c programs (s + k + n) ≡ entry_at c programs (s + n)

-- the law has all of them
whole : RunsRepeat → LawWith (λ c programs s k w v. Starts c s k × Threads c w v × Memories c w v × Contexts c w v × Clock c programs s k)
whole law c programs s k n is passes later met =
    law c programs s k n is passes (record {
      later = later;
      begins = met.0.0;
      begins_later = met.0.1;
      alike = record { threads = met.1; memory = met.2; contexts = met.3 };
      clock = met.4;
    })

-- one process on one level
abbrev pub single : ℕ → ℕ → ℕ → Configuration
single period budget memory = record {
  version = 2;
  costs = record { switch = 0; call = 1 };
  levels = record { period = period; release = 0 } ∷ [];
  processes = record { name = 97 ∷ []; program = 97 ∷ []; level = 0; budget = budget; memory = memory; threads = 0; slack = false; max_level = 0 } ∷ [];
  mutexes = [];
}

-- a number that tells entries apart: the value that is put, and 1000 more for a tick of a thread
abbrev told : Option Entry → ℕ
told None = 0
told (Some e) = value_of e.event + cond (is_some (thread_of e.label)) 1000 0

refuted : (Premises : Configuration → List (List ℕ) → ℕ → ℕ → World → World → Type 0) (c : Configuration) (code : List ℕ) (s k n one other : ℕ)
    → IsChecked c → IsAccepted c → 0 < k → Premises c (code ∷ []) s k (world c (code ∷ []) s) (world c (code ∷ []) (s + k))
    → told (entry_at c (code ∷ []) (s + k + n)) ≡ one → told (entry_at c (code ∷ []) (s + n)) ≡ other → (one ≡ other → ⊥) → LawWith Premises → ⊥
refuted Premises c code s k n one other is passes later met first second differ law =
    differ (sym first ∙ ap told (law c (code ∷ []) s k n is passes later met) ∙ second)

-- the one number below 1
only : (P : ℕ → Type 0) → P 0 → (p : ℕ) → p < 1 → P p
only P h zero known = h
only P h (suc p) known = absurd (omega arith)

-- of a process without children
threads-alike : (c : Configuration) (w v : World) → length c.processes ≡ 1 → map standing (family c 0 w.past) ≡ map standing (family c 0 v.past) → Threads c w v
threads-alike c w v one same = λ p known. only (λ q. map standing (family c q w.past) ≡ map standing (family c q v.past)) same p (omega (arith, known, one))

memories-alike : (c : Configuration) (w v : World) → length c.processes ≡ 1 → (w.images 0).memory ≡ (v.images 0).memory → Memories c w v
memories-alike c w v one same = λ p known. only (λ q. (w.images q).memory ≡ (v.images q).memory) same p (omega (arith, known, one))

contexts-alike : (c : Configuration) (w v : World) (row : Thread) → length c.processes ≡ 1 → family c 0 w.past ≡ row ∷ []
    → (w.images 0).contexts row.id.serial ≡ (v.images 0).contexts row.id.serial → Contexts c w v
contexts-alike c w v row one rows same = λ p x known has running.
    only (λ q. Has (family c q w.past) x → (w.images q).contexts x.id.serial ≡ (v.images q).contexts x.id.serial)
    (λ has'. at x (subst (λ xs. Has xs x) rows has')) p (omega (arith, known, one)) has
  where
    at : (x : Thread) → (row ≡ x) ⊎ ⊥ → (w.images 0).contexts x.id.serial ≡ (v.images 0).contexts x.id.serial
    at x (inl is) = subst (λ (y : Thread). (w.images 0).contexts y.id.serial ≡ (v.images 0).contexts y.id.serial) is same
    at x (inr never) = absurd never

starts-alike : (c : Configuration) (s k : ℕ) → length c.levels ≡ 1 → s % period c 0 ≡ 0 → (s + k) % period c 0 ≡ 0 → Starts c s k
starts-alike c s k one first second =
    (λ i known. only (λ j. s % period c j ≡ 0) first i (omega (arith, known, one)), λ i known. only (λ j. (s + k) % period c j ≡ 0) second i (omega (arith, known, one)))

-- With the tick: in each window it shows the tick at which it began.
abbrev teller : List ℕ
teller = program (Trap 9 ∷ Trap 8 ∷ Li 1 0 ∷ Trap 1 ∷ Jmp 0 ∷ [])

abbrev six : Configuration
six = single 6 5 0

six-passes : first_broken (all_tests six) ≡ None
unfolding all_tests version_tests count_tests range_tests period_tests name_tests again_tests level_tests budget_tests user_tests slowest_tests
six-passes = refl

abbrev Unclocked : Configuration → List (List ℕ) → ℕ → ℕ → World → World → Type 0
Unclocked c programs s k w v = Starts c s k × Threads c w v × Memories c w v × Contexts c w v

pub the-clock-is-needed : LawWith Unclocked → ⊥
the-clock-is-needed =
    let w : World = world six (teller ∷ []) 6 in
    let v : World = world six (teller ∷ []) 12 in
    refuted Unclocked six teller 6 6 2 1013 1007 (checked six six-passes) (accepted six refl) (omega arith)
    (starts-alike six 6 6 refl refl refl, threads-alike six w v refl refl, memories-alike six w v refl refl, contexts-alike six w v (main_thread six 0) refl refl refl) refl refl
    (λ e. absurd (omega arith))

module _ (clocks : ProgramsReadNoTick) where
  clock-of : (c : Configuration) (code : List ℕ) (s k : ℕ) → IsChecked c → IsAccepted c → length c.processes ≡ 1 → ReadsNoTick code → Clock c (code ∷ []) s k
  clock-of c code s k is passes one still = λ n less.
      clocks c (code ∷ []) (s + n) is passes (λ p known. only (λ q. ReadsNoTick (slice_index_or (code ∷ []) q [])) still p (omega (arith, known, one)))

  -- Contexts: it shows how often it has begun, which stands in a register.
  abbrev counter : List ℕ
  counter = program (Addi 1 1 ∷ Trap 8 ∷ Trap 1 ∷ Jmp 0 ∷ [])

  counter-clock : ReadsNoTick counter
  counter-clock zero within is = earlier-call 0 (omega arith) (ap call_of is)
  counter-clock (suc zero) within is = earlier-call 8 (omega arith) (ap call_of is)
  counter-clock (suc (suc zero)) within is = earlier-call 1 (omega arith) (ap call_of is)
  counter-clock (suc (suc (suc zero))) within is = earlier-call 0 (omega arith) (ap call_of is)
  counter-clock (suc (suc (suc (suc k)))) within is = let more : 4 * suc (suc (suc (suc k))) + 4 ≤ 16 = within in absurd (omega arith)

  abbrev WithoutContexts : Configuration → List (List ℕ) → ℕ → ℕ → World → World → Type 0
  WithoutContexts c programs s k w v = Starts c s k × Threads c w v × Memories c w v × Clock c programs s k

  pub contexts-are-needed : LawWith WithoutContexts → ⊥
  contexts-are-needed =
      let w : World = world six (counter ∷ []) 6 in
      let v : World = world six (counter ∷ []) 12 in
      refuted WithoutContexts six counter 6 6 2 1003 1002 (checked six six-passes) (accepted six refl) (omega arith) (
        starts-alike six 6 6 refl refl refl,
        threads-alike six w v refl refl,
        memories-alike six w v refl refl,
        clock-of six counter 6 6 (checked six six-passes) (accepted six refl) refl counter-clock,
      ) refl refl (λ e. absurd (omega arith))

  -- Memories: the same number, in memory.
  abbrev keeper : List ℕ
  keeper = program (Ld 1 2 0 ∷ Addi 1 1 ∷ St 1 2 0 ∷ Trap 8 ∷ Li 1 0 ∷ Trap 1 ∷ Jmp 0 ∷ [])

  keeper-clock : ReadsNoTick keeper
  keeper-clock zero within is = earlier-call 0 (omega arith) (ap call_of is)
  keeper-clock (suc zero) within is = earlier-call 0 (omega arith) (ap call_of is)
  keeper-clock (suc (suc zero)) within is = earlier-call 0 (omega arith) (ap call_of is)
  keeper-clock (suc (suc (suc zero))) within is = earlier-call 8 (omega arith) (ap call_of is)
  keeper-clock (suc (suc (suc (suc zero)))) within is = earlier-call 0 (omega arith) (ap call_of is)
  keeper-clock (suc (suc (suc (suc (suc zero))))) within is = earlier-call 1 (omega arith) (ap call_of is)
  keeper-clock (suc (suc (suc (suc (suc (suc zero)))))) within is = earlier-call 0 (omega arith) (ap call_of is)
  keeper-clock (suc (suc (suc (suc (suc (suc (suc k))))))) within is = let more : 4 * suc (suc (suc (suc (suc (suc (suc k)))))) + 4 ≤ 28 = within in absurd (omega arith)

  abbrev eight : Configuration
  eight = single 8 7 1

  eight-passes : first_broken (all_tests eight) ≡ None
  unfolding all_tests version_tests count_tests range_tests period_tests name_tests again_tests level_tests budget_tests user_tests slowest_tests
  eight-passes = refl

  abbrev WithoutMemories : Configuration → List (List ℕ) → ℕ → ℕ → World → World → Type 0
  WithoutMemories c programs s k w v = Starts c s k × Threads c w v × Contexts c w v × Clock c programs s k

  pub memories-are-needed : LawWith WithoutMemories → ⊥
  memories-are-needed =
      let w : World = world eight (keeper ∷ []) 8 in
      let v : World = world eight (keeper ∷ []) 16 in
      refuted WithoutMemories eight keeper 8 8 4 1003 1002 (checked eight eight-passes) (accepted eight refl) (omega arith) (
        starts-alike eight 8 8 refl refl refl,
        threads-alike eight w v refl refl,
        contexts-alike eight w v (main_thread eight 0) refl refl refl,
        clock-of eight keeper 8 8 (checked eight eight-passes) (accepted eight refl) refl keeper-clock,
      ) refl refl (λ e. absurd (omega arith))

  -- Whether a thread was stopped: where it stopped is where it stood at a window's start before.
  abbrev leaver : List ℕ
  leaver = program (Jmp 3 ∷ Nop ∷ Trap 2 ∷ Jmp 2 ∷ [])

  leaver-clock : ReadsNoTick leaver
  leaver-clock zero within is = earlier-call 0 (omega arith) (ap call_of is)
  leaver-clock (suc zero) within is = earlier-call 0 (omega arith) (ap call_of is)
  leaver-clock (suc (suc zero)) within is = earlier-call 2 (omega arith) (ap call_of is)
  leaver-clock (suc (suc (suc zero))) within is = earlier-call 0 (omega arith) (ap call_of is)
  leaver-clock (suc (suc (suc (suc k)))) within is = let more : 4 * suc (suc (suc (suc k))) + 4 ≤ 16 = within in absurd (omega arith)

  abbrev two : Configuration
  two = single 2 1 0

  two-passes : first_broken (all_tests two) ≡ None
  unfolding all_tests version_tests count_tests range_tests period_tests name_tests again_tests level_tests budget_tests user_tests slowest_tests
  two-passes = refl

  abbrev WithoutStops : Configuration → List (List ℕ) → ℕ → ℕ → World → World → Type 0
  WithoutStops c programs s k w v = Starts c s k × Memories c w v × Contexts c w v × Clock c programs s k

  pub stops-are-needed : LawWith WithoutStops → ⊥
  stops-are-needed =
      let w : World = world two (leaver ∷ []) 2 in
      let v : World = world two (leaver ∷ []) 6 in
      refuted WithoutStops two leaver 2 4 0 0 1000 (checked two two-passes) (accepted two refl) (omega arith) (
        starts-alike two 2 4 refl refl refl,
        memories-alike two w v refl refl,
        contexts-alike two w v (main_thread two 0) refl refl refl,
        clock-of two leaver 2 4 (checked two two-passes) (accepted two refl) refl leaver-clock,
      ) refl refl (λ e. absurd (omega arith))

  -- The starts of all windows: within a window all else can be alike.
  spinner-clock : ReadsNoTick spinner
  spinner-clock zero within is = earlier-call 0 (omega arith) (ap call_of is)
  spinner-clock (suc k) within is = let more : 4 * suc k + 4 ≤ 4 = within in absurd (omega arith)

  abbrev three : Configuration
  three = single 3 1 0

  three-passes : first_broken (all_tests three) ≡ None
  unfolding all_tests version_tests count_tests range_tests period_tests name_tests again_tests level_tests budget_tests user_tests slowest_tests
  three-passes = refl

  abbrev WithoutStarts : Configuration → List (List ℕ) → ℕ → ℕ → World → World → Type 0
  WithoutStarts c programs s k w v = Threads c w v × Memories c w v × Contexts c w v × Clock c programs s k

  pub starts-are-needed : LawWith WithoutStarts → ⊥
  starts-are-needed =
      let w : World = world three (spinner ∷ []) 1 in
      let v : World = world three (spinner ∷ []) 2 in
      refuted WithoutStarts three spinner 1 1 1 1000 0 (checked three three-passes) (accepted three refl) (omega arith) (
        threads-alike three w v refl refl,
        memories-alike three w v refl refl,
        contexts-alike three w v (main_thread three 0) refl refl refl,
        clock-of three spinner 1 1 (checked three three-passes) (accepted three refl) refl spinner-clock,
      ) refl refl (λ e. absurd (omega arith))

  -- all premises can be met: the spinner stands at tick 3 as it stood at tick 0
  pub all-can-be-met : RunStandsAgain three (spinner ∷ []) 0 3
  all-can-be-met =
      let w : World = world three (spinner ∷ []) 0 in
      let v : World = world three (spinner ∷ []) 3 in
      let starts = starts-alike three 0 3 refl refl refl in
      record {
        later = omega arith;
        begins = starts.0;
        begins_later = starts.1;
        alike = record { threads = threads-alike three w v refl refl; memory = memories-alike three w v refl refl; contexts = contexts-alike three w v (main_thread three 0) refl refl refl };
        clock = clock-of three spinner 0 3 (checked three three-passes) (accepted three refl) refl spinner-clock;
      }
