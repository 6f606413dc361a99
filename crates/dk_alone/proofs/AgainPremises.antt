-- Without any one of its premises a process that stands as it stood before need not go on as it did: short runs in which its entries differ.
use Rattle.dk_alone.proofs.Names.{ℕ, zero, suc, ◌≡◌, ◌+◌, ◌*◌, ◌≤◌, ◌<◌, false, List, [], ◌∷◌, length, None, refl, ap, sym, ◌∙◌, arith, slice_index_or, take, Configuration, slots, may_ask, IsChecked, IsAccepted, first_broken, checked, Nop, Li, Addi, Ld, St, Jmp, Trap, Entry, accepted, world, trace, ProcessesRepeat, StandsAgainAsAlone, entries_of, ReadsNoTick, KeepsToItself, WindowBegins, main_is_stopped}
use Rattle.dk_config.specs.Rules.{all_tests, version_tests, count_tests, range_tests, period_tests, name_tests, again_tests, level_tests, budget_tests, user_tests, slowest_tests}
use Rattle.dk_alone.proofs.Premises.{program, spinner, waiter, spinner-clock, call_of, earlier-call, shown, newest, crowded, crowded-passes, plain, plain-passes, lending, lending-passes, growing, growing-passes, parent, parent-clock}

-- what the law asks for, of the tick s and k ticks later, and of the m and n ticks that windows take
abbrev Premise : Type 1
Premise = Configuration → List (List ℕ) → ℕ → ℕ → ℕ → ℕ → ℕ → Type 0

abbrev Accepts : Premise
Accepts c programs p s k m n = IsAccepted c

abbrev Known : Premise
Known c programs p s k m n = p < length c.processes

abbrev Childless : Premise
Childless c programs p s k m n = slots c p ≡ 0

abbrev Slackless : Premise
Slackless c programs p s k m n = may_ask c p ≡ false

abbrev Clockless : Premise
Clockless c programs p s k m n = ReadsNoTick (slice_index_or programs p [])

abbrev Starts : Premise
Starts c programs p s k m n = WindowBegins c p s × WindowBegins c p (s + k)

abbrev Whole : Premise
Whole c programs p s k m n = WindowBegins c p m × WindowBegins c p n

abbrev Memories : Premise
Memories c programs p s k m n = ((world c programs s).images p).memory ≡ ((world c programs (s + k)).images p).memory

abbrev Contexts : Premise
Contexts c programs p s k m n = ((world c programs s).images p).contexts 0 ≡ ((world c programs (s + k)).images p).contexts 0

abbrev Stops : Premise
Stops c programs p s k m n = main_is_stopped c p (trace c programs s) ≡ main_is_stopped c p (trace c programs (s + k))

-- the law, with these premises
abbrev LawWith : Premise → Type 0
LawWith Premises =
    (c : Configuration) (programs others : List (List ℕ)) (p s k m n : ℕ) → IsChecked c → 0 < k
    → slice_index_or programs p [] ≡ slice_index_or others p [] → Premises c programs p s k m n
    → entries_of p (take n (trace c others (s + k + m + n))) ≡ entries_of p (take n (trace c programs (s + m + n)))

abbrev All : Premise
All c programs p s k m n =
    Accepts c programs p s k m n × Known c programs p s k m n × Childless c programs p s k m n × Slackless c programs p s k m n × Clockless c programs p s k m n
    × Starts c programs p s k m n × Whole c programs p s k m n × Memories c programs p s k m n × Contexts c programs p s k m n × Stops c programs p s k m n

-- the law has all of them
whole : StandsAgainAsAlone → ProcessesRepeat → LawWith All
whole as-alone law c programs others p s k m n is later agree met =
    let keeps : KeepsToItself c p (slice_index_or programs p []) = record { known = met.1; threads = met.2; slack = met.3; clock = met.4 } in
    let again = as-alone c programs p s k is met.0 keeps (record {
      later = later;
      begins = met.5.0;
      begins_later = met.5.1;
      alike = record { memory = met.7; context = met.8; stopped = met.9 };
    }) in
    let one : s + k + m + n ≡ s + 1 * k + m + n = omega arith in
    ap (λ i. entries_of p (take n (trace c others i))) one ∙ law c programs others p s k 1 m n is met.0 keeps agree again met.6.0 met.6.1

-- a number that the entries of the last ticks say differs
refuted : (Premises : Premise) (c : Configuration) (programs others : List (List ℕ)) (p s k m n : ℕ) (f : List Entry → ℕ) (one other : ℕ)
    → IsChecked c → 0 < k → slice_index_or programs p [] ≡ slice_index_or others p [] → Premises c programs p s k m n
    → f (entries_of p (take n (trace c others (s + k + m + n)))) ≡ one → f (entries_of p (take n (trace c programs (s + m + n)))) ≡ other
    → (one ≡ other → ⊥) → LawWith Premises → ⊥
refuted Premises c programs others p s k m n f one other is later agree met first second differ law =
    differ (sym first ∙ ap f (law c programs others p s k m n is later agree met) ∙ second)

-- one process on one level
abbrev single : ℕ → ℕ → ℕ → Configuration
single period budget memory = record {
  version = 2;
  costs = record { switch = 0; call = 1 };
  levels = record { period = period; release = 0 } ∷ [];
  processes = record { name = 97 ∷ []; program = 97 ∷ []; level = 0; budget = budget; memory = memory; threads = 0; slack = false; max_level = 0 } ∷ [];
  mutexes = [];
}

-- Acceptance: beside a spinner beta has 3 ticks of its 5.
abbrev WithoutAcceptance : Premise
WithoutAcceptance c programs p s k m n =
    Known c programs p s k m n × Childless c programs p s k m n × Slackless c programs p s k m n × Clockless c programs p s k m n
    × Starts c programs p s k m n × Whole c programs p s k m n × Memories c programs p s k m n × Contexts c programs p s k m n × Stops c programs p s k m n

pub acceptance-is-needed-again : LawWith WithoutAcceptance → ⊥
acceptance-is-needed-again =
    refuted WithoutAcceptance crowded (waiter ∷ spinner ∷ []) (spinner ∷ spinner ∷ []) 1 0 6 0 6 length 3 5 (checked crowded crowded-passes) (omega arith) refl
    (omega arith, refl, refl, spinner-clock, (refl, refl), (refl, refl), refl, refl, refl) refl refl (λ e. absurd (omega arith))

-- Whole windows: in the first 4 ticks of its window beta has 3, or 1.
abbrev WithoutWhole : Premise
WithoutWhole c programs p s k m n =
    Accepts c programs p s k m n × Known c programs p s k m n × Childless c programs p s k m n × Slackless c programs p s k m n × Clockless c programs p s k m n
    × Starts c programs p s k m n × Memories c programs p s k m n × Contexts c programs p s k m n × Stops c programs p s k m n

pub whole-windows-are-needed : LawWith WithoutWhole → ⊥
whole-windows-are-needed =
    refuted WithoutWhole plain (waiter ∷ spinner ∷ []) (spinner ∷ spinner ∷ []) 1 0 20 0 4 length 1 3 (checked plain plain-passes) (omega arith) refl
    (accepted plain refl, omega arith, refl, refl, spinner-clock, (refl, refl), refl, refl, refl) refl refl (λ e. absurd (omega arith))

-- The starts of windows: a tick and two ticks after it waited.
abbrev four : Configuration
four = single 4 3 0

four-passes : first_broken (all_tests four) ≡ None
unfolding all_tests version_tests count_tests range_tests period_tests name_tests again_tests level_tests budget_tests user_tests slowest_tests
four-passes = refl

waiter-clock : ReadsNoTick waiter
waiter-clock zero within is = earlier-call 1 (omega arith) (ap call_of is)
waiter-clock (suc zero) within is = earlier-call 0 (omega arith) (ap call_of is)
waiter-clock (suc (suc k)) within is = let more : 4 * suc (suc k) + 4 ≤ 8 = within in absurd (omega arith)

abbrev WithoutStarts : Premise
WithoutStarts c programs p s k m n =
    Accepts c programs p s k m n × Known c programs p s k m n × Childless c programs p s k m n × Slackless c programs p s k m n × Clockless c programs p s k m n
    × Whole c programs p s k m n × Memories c programs p s k m n × Contexts c programs p s k m n × Stops c programs p s k m n

pub starts-are-needed : LawWith WithoutStarts → ⊥
starts-are-needed =
    refuted WithoutStarts four (waiter ∷ []) (waiter ∷ []) 0 1 1 0 4 length 2 1 (checked four four-passes) (omega arith) refl
    (accepted four refl, omega arith, refl, refl, waiter-clock, (refl, refl), refl, refl, refl) refl refl (λ e. absurd (omega arith))

-- The clock: in each window it shows the tick at which it began.
abbrev teller : List ℕ
teller = program (Trap 9 ∷ Trap 8 ∷ Li 1 0 ∷ Trap 1 ∷ Jmp 0 ∷ [])

abbrev six : Configuration
six = single 6 5 0

six-passes : first_broken (all_tests six) ≡ None
unfolding all_tests version_tests count_tests range_tests period_tests name_tests again_tests level_tests budget_tests user_tests slowest_tests
six-passes = refl

abbrev WithoutClock : Premise
WithoutClock c programs p s k m n =
    Accepts c programs p s k m n × Known c programs p s k m n × Childless c programs p s k m n × Slackless c programs p s k m n
    × Starts c programs p s k m n × Whole c programs p s k m n × Memories c programs p s k m n × Contexts c programs p s k m n × Stops c programs p s k m n

pub the-clock-is-needed : LawWith WithoutClock → ⊥
the-clock-is-needed =
    refuted WithoutClock six (teller ∷ []) (teller ∷ []) 0 6 6 0 6 shown 13 7 (checked six six-passes) (omega arith) refl
    (accepted six refl, omega arith, refl, refl, (refl, refl), (refl, refl), refl, refl, refl) refl refl (λ e. absurd (omega arith))

-- Contexts: it shows how often it has begun, which stands in a register.
abbrev pub counter : List ℕ
counter = program (Addi 1 1 ∷ Trap 8 ∷ Trap 1 ∷ Jmp 0 ∷ [])

counter-clock : ReadsNoTick counter
counter-clock zero within is = earlier-call 0 (omega arith) (ap call_of is)
counter-clock (suc zero) within is = earlier-call 8 (omega arith) (ap call_of is)
counter-clock (suc (suc zero)) within is = earlier-call 1 (omega arith) (ap call_of is)
counter-clock (suc (suc (suc zero))) within is = earlier-call 0 (omega arith) (ap call_of is)
counter-clock (suc (suc (suc (suc k)))) within is = let more : 4 * suc (suc (suc (suc k))) + 4 ≤ 16 = within in absurd (omega arith)

abbrev WithoutContexts : Premise
WithoutContexts c programs p s k m n =
    Accepts c programs p s k m n × Known c programs p s k m n × Childless c programs p s k m n × Slackless c programs p s k m n × Clockless c programs p s k m n
    × Starts c programs p s k m n × Whole c programs p s k m n × Memories c programs p s k m n × Stops c programs p s k m n

pub contexts-are-needed : LawWith WithoutContexts → ⊥
contexts-are-needed =
    refuted WithoutContexts six (counter ∷ []) (counter ∷ []) 0 6 6 0 6 shown 3 2 (checked six six-passes) (omega arith) refl
    (accepted six refl, omega arith, refl, refl, counter-clock, (refl, refl), (refl, refl), refl, refl) refl refl (λ e. absurd (omega arith))

-- Memory: the same number, in memory.
abbrev keeper : List ℕ
keeper = program (Ld 1 2 0 ∷ Addi 1 1 ∷ St 1 2 0 ∷ Trap 8 ∷ Li 1 0 ∷ Trap 1 ∷ Jmp 0 ∷ [])

keeper-clock : ReadsNoTick keeper
keeper-clock zero within is = earlier-call 0 (omega arith) (ap call_of is)
keeper-clock (suc zero) within is = earlier-call 0 (omega arith) (ap call_of is)
keeper-clock (suc (suc zero)) within is = earlier-call 0 (omega arith) (ap call_of is)
keeper-clock (suc (suc (suc zero))) within is = earlier-call 8 (omega arith) (ap call_of is)
keeper-clock (suc (suc (suc (suc zero)))) within is = earlier-call 0 (omega arith) (ap call_of is)
keeper-clock (suc (suc (suc (suc (suc zero))))) within is = earlier-call 1 (omega arith) (ap call_of is)
keeper-clock (suc (suc (suc (suc (suc (suc zero)))))) within is = earlier-call 0 (omega arith) (ap call_of is)
keeper-clock (suc (suc (suc (suc (suc (suc (suc k))))))) within is = let more : 4 * suc (suc (suc (suc (suc (suc (suc k)))))) + 4 ≤ 28 = within in absurd (omega arith)

abbrev eight : Configuration
eight = single 8 7 1

eight-passes : first_broken (all_tests eight) ≡ None
unfolding all_tests version_tests count_tests range_tests period_tests name_tests again_tests level_tests budget_tests user_tests slowest_tests
eight-passes = refl

abbrev WithoutMemories : Premise
WithoutMemories c programs p s k m n =
    Accepts c programs p s k m n × Known c programs p s k m n × Childless c programs p s k m n × Slackless c programs p s k m n × Clockless c programs p s k m n
    × Starts c programs p s k m n × Whole c programs p s k m n × Contexts c programs p s k m n × Stops c programs p s k m n

pub memories-are-needed : LawWith WithoutMemories → ⊥
memories-are-needed =
    refuted WithoutMemories eight (keeper ∷ []) (keeper ∷ []) 0 8 8 0 8 shown 3 2 (checked eight eight-passes) (omega arith) refl
    (accepted eight refl, omega arith, refl, refl, keeper-clock, (refl, refl), (refl, refl), refl, refl) refl refl (λ e. absurd (omega arith))

-- Whether it was stopped: where it stopped is where it stood at a window's start before.
abbrev leaver : List ℕ
leaver = program (Jmp 3 ∷ Nop ∷ Trap 2 ∷ Jmp 2 ∷ [])

leaver-clock : ReadsNoTick leaver
leaver-clock zero within is = earlier-call 0 (omega arith) (ap call_of is)
leaver-clock (suc zero) within is = earlier-call 0 (omega arith) (ap call_of is)
leaver-clock (suc (suc zero)) within is = earlier-call 2 (omega arith) (ap call_of is)
leaver-clock (suc (suc (suc zero))) within is = earlier-call 0 (omega arith) (ap call_of is)
leaver-clock (suc (suc (suc (suc k)))) within is = let more : 4 * suc (suc (suc (suc k))) + 4 ≤ 16 = within in absurd (omega arith)

abbrev two : Configuration
two = single 2 1 0

two-passes : first_broken (all_tests two) ≡ None
unfolding all_tests version_tests count_tests range_tests period_tests name_tests again_tests level_tests budget_tests user_tests slowest_tests
two-passes = refl

abbrev WithoutStops : Premise
WithoutStops c programs p s k m n =
    Accepts c programs p s k m n × Known c programs p s k m n × Childless c programs p s k m n × Slackless c programs p s k m n × Clockless c programs p s k m n
    × Starts c programs p s k m n × Whole c programs p s k m n × Memories c programs p s k m n × Contexts c programs p s k m n

pub stops-are-needed : LawWith WithoutStops → ⊥
stops-are-needed =
    refuted WithoutStops two (leaver ∷ []) (leaver ∷ []) 0 2 4 0 2 length 0 1 (checked two two-passes) (omega arith) refl
    (accepted two refl, omega arith, refl, refl, leaver-clock, (refl, refl), (refl, refl), refl, refl) refl refl (λ e. absurd (omega arith))

-- Slack: in each window beta has what alpha leaves.
abbrev asking : List ℕ
asking = program (Li 1 65535 ∷ Trap 7 ∷ Jmp 0 ∷ [])

asking-clock : ReadsNoTick asking
asking-clock zero within is = earlier-call 0 (omega arith) (ap call_of is)
asking-clock (suc zero) within is = earlier-call 7 (omega arith) (ap call_of is)
asking-clock (suc (suc zero)) within is = earlier-call 0 (omega arith) (ap call_of is)
asking-clock (suc (suc (suc k))) within is = let more : 4 * suc (suc (suc k)) + 4 ≤ 12 = within in absurd (omega arith)

abbrev WithoutSlackless : Premise
WithoutSlackless c programs p s k m n =
    Accepts c programs p s k m n × Known c programs p s k m n × Childless c programs p s k m n × Clockless c programs p s k m n
    × Starts c programs p s k m n × Whole c programs p s k m n × Memories c programs p s k m n × Contexts c programs p s k m n × Stops c programs p s k m n

pub no-slack-is-needed-again : LawWith WithoutSlackless → ⊥
no-slack-is-needed-again =
    refuted WithoutSlackless lending (spinner ∷ asking ∷ []) (waiter ∷ asking ∷ []) 1 20 60 0 20 length 16 14 (checked lending lending-passes) (omega arith) refl
    (accepted lending refl, omega arith, refl, asking-clock, (refl, refl), (refl, refl), refl, refl, refl) refl refl (λ e. absurd (omega arith))

-- Children: in which order the ticks of beta's child and its main come hangs on alpha.
abbrev WithoutChildless : Premise
WithoutChildless c programs p s k m n =
    Accepts c programs p s k m n × Known c programs p s k m n × Slackless c programs p s k m n × Clockless c programs p s k m n
    × Starts c programs p s k m n × Whole c programs p s k m n × Memories c programs p s k m n × Contexts c programs p s k m n × Stops c programs p s k m n

pub no-children-is-needed-again : LawWith WithoutChildless → ⊥
no-children-is-needed-again =
    refuted WithoutChildless growing (spinner ∷ parent ∷ []) (waiter ∷ parent ∷ []) 1 20 20 0 20 newest 0 1 (checked growing growing-passes) (omega arith) refl
    (accepted growing refl, omega arith, refl, parent-clock, (refl, refl), (refl, refl), refl, refl, refl) refl refl (λ e. absurd (omega arith))
