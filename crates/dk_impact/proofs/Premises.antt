-- Without any one of the things that a process must see unchanged the law is false: runs of one process in two configurations that differ in it alone.
use Rattle.dk_impact.proofs.Names.{ℕ, zero, suc, ◌≡◌, ◌+◌, ◌*◌, ◌/◌, ◌%◌, ◌≤◌, inl, ◌⊎◌, true, false, List, [], ◌∷◌, length, map, Option, Some, None, refl, ap, sym, ◌∙◌, subst, arith, slice_index_or, div-add-mod, Configuration, Mutex, LevelRow, period, main_level, max_level, budget, memory, longest_hold, is_user, IsChecked, IsAccepted, first_broken, checked, Ld, Jmp, Trap, Event, Entry, number, world, trace, accepted, alone, entries_of, ReadsNoTick, KeepsToItself, program, call_of, earlier-call, MakesNoThread, SeesTheSameButPeriod, renamed, IsSameAcross, ChangesOfOthersHaveNoImpact, nat_tests}
use Rattle.dk_config.specs.Rules.{all_tests, version_tests, count_tests, range_tests, period_tests, name_tests, again_tests, level_tests, budget_tests, user_tests, slowest_tests}

-- one process, with a level for each of these periods, at the last of them
abbrev pub frame : ℕ → ℕ → List LevelRow → ℕ → ℕ → ℕ → List Mutex → Configuration
frame switch call levels level budget memory mutexes = record {
  version = 2;
  costs = record { switch = switch; call = call };
  levels = levels;
  processes = record { name = 97 ∷ []; program = 97 ∷ []; level = level; budget = budget; memory = memory; threads = 0; slack = false; max_level = level } ∷ [];
  mutexes = mutexes;
}

abbrev pub at_period : ℕ → List LevelRow
at_period ticks = record { period = ticks; release = 0 } ∷ []

abbrev pub held_for : ℕ → List Mutex
held_for ticks = record { name = 109 ∷ []; ceiling = 0; hold = ticks; users = (97 ∷ []) ∷ [] } ∷ []

abbrev plain : Configuration
plain = frame 0 1 (at_period 10) 0 5 0 []

abbrev switching : Configuration
switching = frame 1 1 (at_period 10) 0 5 0 []

abbrev slow_calls : Configuration
slow_calls = frame 0 2 (at_period 10) 0 5 0 []

abbrev twice_the_period : Configuration
twice_the_period = frame 0 1 (at_period 20) 0 5 0 []

abbrev more_budget : Configuration
more_budget = frame 0 1 (at_period 10) 0 6 0 []

abbrev a_word : Configuration
a_word = frame 0 1 (at_period 10) 0 5 1 []

abbrev locking : Configuration
locking = frame 0 1 (at_period 10) 0 5 0 (held_for 2)

abbrev holding : Configuration
holding = frame 0 1 (at_period 10) 0 5 0 (held_for 3)

abbrev deeper : Configuration
deeper = frame 0 1 (record { period = 5; release = 0 } ∷ at_period 10) 1 5 0 []

-- its budget is more than its window
abbrev crowded : Configuration
crowded = frame 0 1 (at_period 4) 0 5 0 []

abbrev Passes : Configuration → Type 0
Passes c = first_broken (all_tests c) ≡ None

plain-passes : Passes plain
unfolding all_tests version_tests count_tests range_tests period_tests name_tests again_tests level_tests budget_tests user_tests slowest_tests
plain-passes = refl

switching-passes : Passes switching
unfolding all_tests version_tests count_tests range_tests period_tests name_tests again_tests level_tests budget_tests user_tests slowest_tests
switching-passes = refl

slow-passes : Passes slow_calls
unfolding all_tests version_tests count_tests range_tests period_tests name_tests again_tests level_tests budget_tests user_tests slowest_tests
slow-passes = refl

twice-passes : Passes twice_the_period
unfolding all_tests version_tests count_tests range_tests period_tests name_tests again_tests level_tests budget_tests user_tests slowest_tests
twice-passes = refl

more-passes : Passes more_budget
unfolding all_tests version_tests count_tests range_tests period_tests name_tests again_tests level_tests budget_tests user_tests slowest_tests
more-passes = refl

word-passes : Passes a_word
unfolding all_tests version_tests count_tests range_tests period_tests name_tests again_tests level_tests budget_tests user_tests slowest_tests
word-passes = refl

locking-passes : Passes locking
unfolding all_tests version_tests count_tests range_tests period_tests name_tests again_tests level_tests budget_tests user_tests slowest_tests
locking-passes = refl

holding-passes : Passes holding
unfolding all_tests version_tests count_tests range_tests period_tests name_tests again_tests level_tests budget_tests user_tests slowest_tests
holding-passes = refl

deeper-passes : Passes deeper
unfolding all_tests version_tests count_tests range_tests period_tests name_tests again_tests level_tests budget_tests user_tests slowest_tests
deeper-passes = refl

crowded-passes : Passes crowded
unfolding all_tests version_tests count_tests range_tests period_tests name_tests again_tests level_tests budget_tests user_tests slowest_tests
crowded-passes = refl

-- shows a register, for ever
abbrev pub putter : List ℕ
putter = program (Trap 8 ∷ Jmp 0 ∷ [])

-- reads a word of its memory, for ever
abbrev loader : List ℕ
loader = program (Ld 1 2 0 ∷ Jmp 0 ∷ [])

-- locks, and never unlocks
abbrev locker : List ℕ
locker = program (Trap 5 ∷ Jmp 1 ∷ [])

-- asks for a child of level 0
abbrev creator : List ℕ
creator = program (Trap 3 ∷ Jmp 0 ∷ [])

pub putter-clock : ReadsNoTick putter
putter-clock zero within is = earlier-call 8 (omega arith) (ap call_of is)
putter-clock (suc zero) within is = earlier-call 0 (omega arith) (ap call_of is)
putter-clock (suc (suc k)) within is = let more : 4 * suc (suc k) + 4 ≤ 8 = within in absurd (omega arith)

loader-clock : ReadsNoTick loader
loader-clock is within at = grind (arith, nat_tests, earlier-call, call_of)

locker-clock : ReadsNoTick locker
locker-clock zero within is = earlier-call 5 (omega arith) (ap call_of is)
locker-clock (suc zero) within is = earlier-call 0 (omega arith) (ap call_of is)
locker-clock (suc (suc k)) within is = let more : 4 * suc (suc k) + 4 ≤ 8 = within in absurd (omega arith)

creator-clock : ReadsNoTick creator
creator-clock zero within is = earlier-call 3 (omega arith) (ap call_of is)
creator-clock (suc zero) within is = earlier-call 0 (omega arith) (ap call_of is)
creator-clock (suc (suc k)) within is = let more : 4 * suc (suc k) + 4 ≤ 8 = within in absurd (omega arith)

-- the law, with these premises in place of what the process sees
abbrev Premise : Type 1
Premise = Configuration → ℕ → Configuration → ℕ → List ℕ → Type 0

abbrev LawWith : Premise → Type 0
LawWith Premises =
    (c c' : Configuration) (programs others : List (List ℕ)) (p p' n : ℕ) → IsChecked c → IsAccepted c → IsChecked c' → IsAccepted c'
    → KeepsToItself c p (slice_index_or programs p []) → KeepsToItself c' p' (slice_index_or others p' [])
    → slice_index_or programs p [] ≡ slice_index_or others p' [] → Premises c p c' p' (slice_index_or programs p [])
    → n % period c (main_level c p) ≡ 0 → IsSameAcross p p' (world c programs n) (world c' others n)

abbrev of_alpha : Configuration → List ℕ → ℕ → List Entry
of_alpha c code n = entries_of 0 (trace c (code ∷ []) n)

-- a number that the entries say differs
refuted : (Premises : Premise) (c c' : Configuration) (code : List ℕ) (n : ℕ) (f : List Entry → ℕ) (k m : ℕ)
    → Passes c → Passes c' → IsAccepted c → IsAccepted c' → KeepsToItself c 0 code → KeepsToItself c' 0 code → Premises c 0 c' 0 code → n % period c (main_level c 0) ≡ 0
    → f (map (renamed 0) (of_alpha c code n)) ≡ k → f (of_alpha c' code n) ≡ m → (k ≡ m → ⊥) → LawWith Premises → ⊥
refuted Premises c c' code n f k m passes passes' fits fits' keeps keeps' met begins one other differ law =
    differ (sym one ∙ ap f (law c c' (code ∷ []) (code ∷ []) 0 0 n (checked c passes) fits (checked c' passes') fits' keeps keeps' refl met begins).entries ∙ other)

abbrev Switch : Premise
Switch c p c' p' program = c.costs.switch ≡ c'.costs.switch

abbrev Call : Premise
Call c p c' p' program = c.costs.call ≡ c'.costs.call

abbrev Period : Premise
Period c p c' p' program = period c (main_level c p) ≡ period c' (main_level c' p')

abbrev Budget : Premise
Budget c p c' p' program = budget c p ≡ budget c' p'

abbrev Memory : Premise
Memory c p c' p' program = memory c p ≡ memory c' p'

abbrev Mutexes : Premise
Mutexes c p c' p' program = (m : ℕ) → is_user c m p ≡ is_user c' m p'

abbrev Holds : Premise
Holds c p c' p' program = (m : ℕ) → is_user c m p ≡ true → longest_hold c m ≡ longest_hold c' m

abbrev Levels : Premise
Levels c p c' p' program = ((main_level c p ≡ main_level c' p') × (max_level c p ≡ max_level c' p')) ⊎ MakesNoThread program

abbrev all : Premise → Premise → Premise → Premise → Premise → Premise → Premise → Premise
all P Q R S T U V c p c' p' program =
    P c p c' p' program × Q c p c' p' program × R c p c' p' program × S c p c' p' program × T c p c' p' program × U c p c' p' program × V c p c' p' program

-- the law is the one with all of them
whole : ChangesOfOthersHaveNoImpact
    → LawWith (λ c p c' p' program. Levels c p c' p' program × all Switch Call Period Budget Memory Mutexes Holds c p c' p' program)
whole law c c' programs others p p' n passes fits passes' fits' keeps keeps' agree met begins =
    law c c' programs others p p' n passes fits passes' fits' keeps keeps' agree
    (record {
      but_period = record {
        but_time = record { switch = met.1.0; call = met.1.1; memory = met.1.4; mutexes = inl (record { users = met.1.5; holds = met.1.6 }); levels = met.0 };
        budget = met.1.3;
      };
      period = met.1.2;
    })
    begins

-- how many entries have an event
abbrev told : List Entry → ℕ
told [] = 0
told (e ∷ past) = one e.event + told past
  where
    one : Option Event → ℕ
    one None = 0
    one (Some event) = 1

-- the numbers of the refusals, added up
abbrev pub refusals : List Entry → ℕ
refusals [] = 0
refusals (e ∷ past) = one e.event + refusals past
  where
    one : Option Event → ℕ
    one (Some (Event.Refused why)) = number why
    one _ = 0

pub switch-is-needed : LawWith (all Levels Call Period Budget Memory Mutexes Holds) → ⊥
switch-is-needed =
    refuted (all Levels Call Period Budget Memory Mutexes Holds) plain switching putter 10 told 3 2 plain-passes switching-passes (accepted plain refl) (accepted switching refl)
    (record { known = omega arith; threads = refl; slack = refl; clock = putter-clock }) (record { known = omega arith; threads = refl; slack = refl; clock = putter-clock })
    (inl (refl, refl), refl, refl, refl, refl, λ m. refl, λ m is. refl) refl refl refl (λ e. absurd (omega arith))

pub call-is-needed : LawWith (all Levels Switch Period Budget Memory Mutexes Holds) → ⊥
call-is-needed =
    refuted (all Levels Switch Period Budget Memory Mutexes Holds) plain slow_calls putter 10 told 3 2 plain-passes slow-passes (accepted plain refl) (accepted slow_calls refl)
    (record { known = omega arith; threads = refl; slack = refl; clock = putter-clock }) (record { known = omega arith; threads = refl; slack = refl; clock = putter-clock })
    (inl (refl, refl), refl, refl, refl, refl, λ m. refl, λ m is. refl) refl refl refl (λ e. absurd (omega arith))

pub period-is-needed : LawWith (all Levels Switch Call Budget Memory Mutexes Holds) → ⊥
period-is-needed =
    refuted (all Levels Switch Call Budget Memory Mutexes Holds) plain twice_the_period putter 20 length 10 5 plain-passes twice-passes (accepted plain refl) (accepted twice_the_period refl)
    (record { known = omega arith; threads = refl; slack = refl; clock = putter-clock }) (record { known = omega arith; threads = refl; slack = refl; clock = putter-clock })
    (inl (refl, refl), refl, refl, refl, refl, λ m. refl, λ m is. refl) refl refl refl (λ e. absurd (omega arith))

pub budget-is-needed : LawWith (all Levels Switch Call Period Memory Mutexes Holds) → ⊥
budget-is-needed =
    refuted (all Levels Switch Call Period Memory Mutexes Holds) plain more_budget putter 10 length 5 6 plain-passes more-passes (accepted plain refl) (accepted more_budget refl)
    (record { known = omega arith; threads = refl; slack = refl; clock = putter-clock }) (record { known = omega arith; threads = refl; slack = refl; clock = putter-clock })
    (inl (refl, refl), refl, refl, refl, refl, λ m. refl, λ m is. refl) refl refl refl (λ e. absurd (omega arith))

pub memory-is-needed : LawWith (all Levels Switch Call Period Budget Mutexes Holds) → ⊥
memory-is-needed =
    refuted (all Levels Switch Call Period Budget Mutexes Holds) plain a_word loader 10 told 1 0 plain-passes word-passes (accepted plain refl) (accepted a_word refl)
    (record { known = omega arith; threads = refl; slack = refl; clock = loader-clock }) (record { known = omega arith; threads = refl; slack = refl; clock = loader-clock })
    (inl (refl, refl), refl, refl, refl, refl, λ m. refl, λ m is. refl) refl refl refl (λ e. absurd (omega arith))

no-user : (m : ℕ) → is_user plain m 0 ≡ true → longest_hold plain m ≡ longest_hold locking m
no-user m is = grind (arith, nat_tests)

pub mutexes-are-needed : LawWith (all Levels Switch Call Period Budget Memory Holds) → ⊥
mutexes-are-needed =
    refuted (all Levels Switch Call Period Budget Memory Holds) plain locking locker 10 refusals 8 0 plain-passes locking-passes (accepted plain refl) (accepted locking refl)
    (record { known = omega arith; threads = refl; slack = refl; clock = locker-clock }) (record { known = omega arith; threads = refl; slack = refl; clock = locker-clock })
    (inl (refl, refl), refl, refl, refl, refl, refl, no-user) refl refl refl (λ e. absurd (omega arith))

same-users : (m : ℕ) → is_user locking m 0 ≡ is_user holding m 0
same-users m = grind (arith, nat_tests)

pub holds-are-needed : LawWith (all Levels Switch Call Period Budget Memory Mutexes) → ⊥
holds-are-needed =
    refuted (all Levels Switch Call Period Budget Memory Mutexes) locking holding locker 10 length 3 4 locking-passes holding-passes (accepted locking refl) (accepted holding refl)
    (record { known = omega arith; threads = refl; slack = refl; clock = locker-clock }) (record { known = omega arith; threads = refl; slack = refl; clock = locker-clock })
    (inl (refl, refl), refl, refl, refl, refl, refl, same-users) refl refl refl (λ e. absurd (omega arith))

-- a create of a child at level 0 is refused by its level where the process's level is slower, and by its slots where it isn't
pub levels-are-needed : LawWith (all Switch Call Period Budget Memory Mutexes Holds) → ⊥
levels-are-needed =
    refuted (all Switch Call Period Budget Memory Mutexes Holds) plain deeper creator 10 refusals 12 6 plain-passes deeper-passes (accepted plain refl) (accepted deeper refl)
    (record { known = omega arith; threads = refl; slack = refl; clock = creator-clock }) (record { known = omega arith; threads = refl; slack = refl; clock = creator-clock })
    (refl, refl, refl, refl, refl, λ m. refl, λ m is. refl) refl refl refl (λ e. absurd (omega arith))

-- At any period the process by itself is the same only where its budget fits both windows, as it does where both are accepted.
pub acceptance-is-needed
    : ((c c' : Configuration) (code : List ℕ) (p p' k : ℕ) → IsChecked c → IsAccepted c → IsChecked c' → KeepsToItself c p code → KeepsToItself c' p' code
    → SeesTheSameButPeriod c p c' p' code
    → IsSameAcross p p' (alone c p code (k * period c (main_level c p))) (alone c' p' code (k * period c' (main_level c' p'))))
    → ⊥
acceptance-is-needed law =
    let same = law plain crowded putter 0 0 1 (checked plain plain-passes) (accepted plain refl) (checked crowded crowded-passes)
    (record { known = omega arith; threads = refl; slack = refl; clock = putter-clock }) (record { known = omega arith; threads = refl; slack = refl; clock = putter-clock })
    (record {
      but_time = record { switch = refl; call = refl; memory = refl; mutexes = inl (record { users = λ m. refl; holds = λ m is. refl }); levels = inl (refl, refl) };
      budget = refl;
    }) in
    differ _ _ refl refl (ap length same.entries)
  where
    differ : (n m : ℕ) → n ≡ 5 → m ≡ 4 → n ≡ m → ⊥
    differ n m five four is = absurd (omega (arith, five, four, is))

-- the law at any period, with these premises in place of what the process sees
abbrev AnyPeriodWith : Premise → Type 0
AnyPeriodWith Premises =
    (c c' : Configuration) (programs others : List (List ℕ)) (p p' k : ℕ) → IsChecked c → IsAccepted c → IsChecked c' → IsAccepted c'
    → KeepsToItself c p (slice_index_or programs p []) → KeepsToItself c' p' (slice_index_or others p' [])
    → slice_index_or programs p [] ≡ slice_index_or others p' [] → Premises c p c' p' (slice_index_or programs p [])
    → IsSameAcross p p' (world c programs (k * period c (main_level c p))) (world c' others (k * period c' (main_level c' p')))

-- So what the law above needs beside the period this one needs too: with one period it is that law.
pub of-one-period : (Premises : Premise) → AnyPeriodWith Premises → LawWith (λ c p c' p' code. Period c p c' p' code × Premises c p c' p' code)
of-one-period Premises law c c' programs others p p' n passes fits passes' fits' keeps keeps' agree met begins =
    let P = period c (main_level c p) in
    let k = n / P in
    let parts : P * k + n % P ≡ n = div-add-mod n P in
    let turned : P * k ≡ k * P = grind arith in
    let is : k * P ≡ n = omega (arith, parts, turned, begins) in
    subst (λ m. IsSameAcross p p' (world c programs m) (world c' others m)) is
    (subst (λ Q. IsSameAcross p p' (world c programs (k * P)) (world c' others (k * Q))) (sym met.0)
    (law c c' programs others p p' k passes fits passes' fits' keeps keeps' agree met.1))
