-- Without any one of its premises the law of a greater budget is false: runs of one process in two configurations that differ in its budget alone.
use Rattle.dk_impact.proofs.Names.{ℕ, zero, suc, ◌≡◌, ◌+◌, ◌*◌, ◌≤◌, ◌<◌, inl, inr, ◌⊎◌, Bool, true, false, not, ◌&&◌, List, [], ◌∷◌, length, map, None, refl, ap, sym, ◌∙◌, arith, list_any, Configuration, period, main_level, budget, IsChecked, IsAccepted, is_user, longest_hold, first_broken, checked, Nop, Jmp, Trap, Entry, does, main_id, world, accepted, entries_of, KeepsToItself, ReadsNoTick, own_window, overruns, program, call_of, earlier-call, shown, renamed, IsSameAcross, SeesTheSameButTime, ReadsNoBudget, is_for_want, nat_tests, GreaterBudgetsHaveNoImpact}
use Rattle.dk_config.specs.Rules.{all_tests, version_tests, count_tests, range_tests, period_tests, name_tests, again_tests, level_tests, budget_tests, user_tests, slowest_tests}
use Rattle.dk_impact.proofs.Premises.{frame, at_period, held_for, putter, putter-clock, refusals}

abbrev with_budget : ℕ → Configuration
with_budget ticks = frame 0 1 (at_period 12) 0 ticks 0 (held_for 3)

abbrev four : Configuration
four = with_budget 4

abbrev six : Configuration
six = with_budget 6

abbrev seven : Configuration
seven = with_budget 7

abbrev Passes : Configuration → Type 0
Passes c = first_broken (all_tests c) ≡ None

four-passes : Passes four
unfolding all_tests version_tests count_tests range_tests period_tests name_tests again_tests level_tests budget_tests user_tests slowest_tests
four-passes = refl

six-passes : Passes six
unfolding all_tests version_tests count_tests range_tests period_tests name_tests again_tests level_tests budget_tests user_tests slowest_tests
six-passes = refl

seven-passes : Passes seven
unfolding all_tests version_tests count_tests range_tests period_tests name_tests again_tests level_tests budget_tests user_tests slowest_tests
seven-passes = refl

-- waits for its lock until only two ticks are left
abbrev late_locker : List ℕ
late_locker = program (Nop ∷ Nop ∷ Nop ∷ Trap 5 ∷ Trap 8 ∷ Trap 1 ∷ [])

-- shows what is left of its budget, and waits
abbrev left_teller : List ℕ
left_teller = program (Trap 10 ∷ Trap 8 ∷ Trap 1 ∷ Jmp 0 ∷ [])

-- waits in the fifth tick of each window
abbrev late_waiter : List ℕ
late_waiter = program (Nop ∷ Nop ∷ Nop ∷ Trap 8 ∷ Trap 1 ∷ Jmp 0 ∷ [])

clock-of : (k : ℕ) → (k < 9) ⊎ (k ≡ 10) → k ≡ 9 → ⊥
clock-of k (inl less) is = omega arith
clock-of k (inr ten) is = omega arith

budget-of : (k : ℕ) → k < 10 → k ≡ 10 → ⊥
budget-of k less is = omega arith

late-clock : ReadsNoTick late_locker
late-clock zero within is = earlier-call 0 (omega arith) (ap call_of is)
late-clock (suc zero) within is = earlier-call 0 (omega arith) (ap call_of is)
late-clock (suc (suc zero)) within is = earlier-call 0 (omega arith) (ap call_of is)
late-clock (suc (suc (suc zero))) within is = earlier-call 5 (omega arith) (ap call_of is)
late-clock (suc (suc (suc (suc zero)))) within is = earlier-call 8 (omega arith) (ap call_of is)
late-clock (suc (suc (suc (suc (suc zero))))) within is = earlier-call 1 (omega arith) (ap call_of is)
late-clock (suc (suc (suc (suc (suc (suc k)))))) within is = let more : 4 * suc (suc (suc (suc (suc (suc k))))) + 4 ≤ 24 = within in absurd (omega arith)

late-reads : ReadsNoBudget late_locker
late-reads zero within is = budget-of 0 (omega arith) (ap call_of is)
late-reads (suc zero) within is = budget-of 0 (omega arith) (ap call_of is)
late-reads (suc (suc zero)) within is = budget-of 0 (omega arith) (ap call_of is)
late-reads (suc (suc (suc zero))) within is = budget-of 5 (omega arith) (ap call_of is)
late-reads (suc (suc (suc (suc zero)))) within is = budget-of 8 (omega arith) (ap call_of is)
late-reads (suc (suc (suc (suc (suc zero))))) within is = budget-of 1 (omega arith) (ap call_of is)
late-reads (suc (suc (suc (suc (suc (suc k)))))) within is = let more : 4 * suc (suc (suc (suc (suc (suc k))))) + 4 ≤ 24 = within in absurd (omega arith)

teller-clock : ReadsNoTick left_teller
teller-clock zero within is = clock-of 10 (inr refl) (ap call_of is)
teller-clock (suc zero) within is = earlier-call 8 (omega arith) (ap call_of is)
teller-clock (suc (suc zero)) within is = earlier-call 1 (omega arith) (ap call_of is)
teller-clock (suc (suc (suc zero))) within is = earlier-call 0 (omega arith) (ap call_of is)
teller-clock (suc (suc (suc (suc k)))) within is = let more : 4 * suc (suc (suc (suc k))) + 4 ≤ 16 = within in absurd (omega arith)

waiter-clock : ReadsNoTick late_waiter
waiter-clock zero within is = earlier-call 0 (omega arith) (ap call_of is)
waiter-clock (suc zero) within is = earlier-call 0 (omega arith) (ap call_of is)
waiter-clock (suc (suc zero)) within is = earlier-call 0 (omega arith) (ap call_of is)
waiter-clock (suc (suc (suc zero))) within is = earlier-call 8 (omega arith) (ap call_of is)
waiter-clock (suc (suc (suc (suc zero)))) within is = earlier-call 1 (omega arith) (ap call_of is)
waiter-clock (suc (suc (suc (suc (suc zero))))) within is = earlier-call 0 (omega arith) (ap call_of is)
waiter-clock (suc (suc (suc (suc (suc (suc k)))))) within is = let more : 4 * suc (suc (suc (suc (suc (suc k))))) + 4 ≤ 24 = within in absurd (omega arith)

waiter-reads : ReadsNoBudget late_waiter
waiter-reads zero within is = budget-of 0 (omega arith) (ap call_of is)
waiter-reads (suc zero) within is = budget-of 0 (omega arith) (ap call_of is)
waiter-reads (suc (suc zero)) within is = budget-of 0 (omega arith) (ap call_of is)
waiter-reads (suc (suc (suc zero))) within is = budget-of 8 (omega arith) (ap call_of is)
waiter-reads (suc (suc (suc (suc zero)))) within is = budget-of 1 (omega arith) (ap call_of is)
waiter-reads (suc (suc (suc (suc (suc zero))))) within is = budget-of 0 (omega arith) (ap call_of is)
waiter-reads (suc (suc (suc (suc (suc (suc k)))))) within is = let more : 4 * suc (suc (suc (suc (suc (suc k))))) + 4 ≤ 24 = within in absurd (omega arith)

putter-reads : ReadsNoBudget putter
putter-reads zero within is = budget-of 8 (omega arith) (ap call_of is)
putter-reads (suc zero) within is = budget-of 0 (omega arith) (ap call_of is)
putter-reads (suc (suc k)) within is = let more : 4 * suc (suc k) + 4 ≤ 8 = within in absurd (omega arith)

-- what the law asks of two configurations, a program, and the windows before the k-th
abbrev Premise : Type 1
Premise = Configuration → Configuration → List ℕ → ℕ → Type 0

abbrev NoLess : Premise
NoLess c c' code k = budget c 0 ≤ budget c' 0

abbrev Reads : Premise
Reads c c' code k = ReadsNoBudget code

abbrev EachWindow : (List Entry → Bool) → Premise
EachWindow told c c' code k = (j : ℕ) → j < k → told (own_window c (code ∷ []) 0 (j * period c (main_level c 0))) ≡ false

abbrev Waits : Premise
Waits c c' code k = EachWindow (overruns 0) c c' code k

abbrev WantsNone : Premise
WantsNone c c' code k = EachWindow (list_any (does is_for_want (main_id 0))) c c' code k

-- the law of a process that has no other beside it, with these premises
abbrev LawWith : Premise → Type 0
LawWith Premises =
    (c c' : Configuration) (code : List ℕ) (k : ℕ) → IsChecked c → IsAccepted c → IsChecked c' → IsAccepted c' → KeepsToItself c 0 code → KeepsToItself c' 0 code
    → SeesTheSameButTime c 0 c' 0 code → Premises c c' code k
    → IsSameAcross 0 0 (world c (code ∷ []) (k * period c (main_level c 0))) (world c' (code ∷ []) (k * period c' (main_level c' 0)))

neither : (a b : Bool) → a ≡ false → b ≡ false → (not a && not b) ≡ true
neither a b one other = grind (arith, nat_tests)

-- the law is the one with all four
whole : GreaterBudgetsHaveNoImpact → LawWith (λ c c' code k. NoLess c c' code k × Reads c c' code k × Waits c c' code k × WantsNone c c' code k)
whole law c c' code k passes fits passes' fits' keeps keeps' sees met =
    law c c' (code ∷ []) (code ∷ []) 0 0 k passes fits passes' fits' keeps keeps' refl (record { sees = sees; budget = met.0; reads = met.1 })
    (λ j less. neither (overruns 0 (own_window c (code ∷ []) 0 (j * period c (main_level c 0)))) _ (met.2 j less) (met.3 j less))

abbrev of_alpha : Configuration → List ℕ → List Entry
of_alpha c code = entries_of 0 (world c (code ∷ []) 12).past

-- a number that the entries of the first window say differs
refuted : (Premises : Premise) (one other : ℕ) (code : List ℕ) (f : List Entry → ℕ) (k m : ℕ) → Passes (with_budget one) → Passes (with_budget other)
    → IsAccepted (with_budget one) → IsAccepted (with_budget other) → KeepsToItself (with_budget one) 0 code → KeepsToItself (with_budget other) 0 code
    → Premises (with_budget one) (with_budget other) code 1 → f (map (renamed 0) (of_alpha (with_budget one) code)) ≡ k → f (of_alpha (with_budget other) code) ≡ m
    → (k ≡ m → ⊥) → LawWith Premises → ⊥
refuted Premises one other code f k m passes passes' fits fits' keeps keeps' met first second differ law =
    differ
    (sym first
    ∙ ap f (law (with_budget one) (with_budget other) code 1 (checked (with_budget one) passes) fits (checked (with_budget other) passes') fits' keeps keeps'
    (record { switch = refl; call = refl; memory = refl; mutexes = inl (record { users = same-users one other; holds = same-holds one other }); levels = inl (refl, refl) }) met).entries
    ∙ second)
  where
    same-users : (a b m : ℕ) → is_user (with_budget a) m 0 ≡ is_user (with_budget b) m 0
    same-users a b m = grind (arith, nat_tests)

    same-holds : (a b m : ℕ) → is_user (with_budget a) m 0 ≡ true → longest_hold (with_budget a) m ≡ longest_hold (with_budget b) m
    same-holds a b m is = refl

first-only : (P : ℕ → Type 0) → P 0 → (j : ℕ) → j < 1 → P j
first-only P is zero less = is
first-only P is (suc j) less = absurd (omega arith)

-- it shows more registers in a longer share
pub waits-are-needed : LawWith (λ c c' code k. NoLess c c' code k × Reads c c' code k × WantsNone c c' code k) → ⊥
waits-are-needed =
    refuted (λ c c' code k. NoLess c c' code k × Reads c c' code k × WantsNone c c' code k) 6 7 putter length 6 7 six-passes seven-passes (accepted six refl) (accepted seven refl)
    (record { known = omega arith; threads = refl; slack = refl; clock = putter-clock }) (record { known = omega arith; threads = refl; slack = refl; clock = putter-clock })
    (omega arith, putter-reads, first-only (λ j. list_any (does is_for_want (main_id 0)) (own_window six (putter ∷ []) 0 (j * 12)) ≡ false) refl) refl refl (λ e. absurd (omega arith))

-- with a tick more its lock is granted
pub granted-locks-are-needed : LawWith (λ c c' code k. NoLess c c' code k × Reads c c' code k × Waits c c' code k) → ⊥
granted-locks-are-needed =
    refuted (λ c c' code k. NoLess c c' code k × Reads c c' code k × Waits c c' code k) 6 7 late_locker refusals 10 12 six-passes seven-passes (accepted six refl) (accepted seven refl)
    (record { known = omega arith; threads = refl; slack = refl; clock = late-clock }) (record { known = omega arith; threads = refl; slack = refl; clock = late-clock })
    (omega arith, late-reads, first-only (λ j. overruns 0 (own_window six (late_locker ∷ []) 0 (j * 12)) ≡ false) refl) refl refl (λ e. absurd (omega arith))

-- it shows what is left
pub unread-budgets-are-needed : LawWith (λ c c' code k. NoLess c c' code k × Waits c c' code k × WantsNone c c' code k) → ⊥
unread-budgets-are-needed =
    refuted (λ c c' code k. NoLess c c' code k × Waits c c' code k × WantsNone c c' code k) 6 7 left_teller shown 5 6 six-passes seven-passes (accepted six refl) (accepted seven refl)
    (record { known = omega arith; threads = refl; slack = refl; clock = teller-clock }) (record { known = omega arith; threads = refl; slack = refl; clock = teller-clock }) (
      omega arith,
      first-only (λ j. overruns 0 (own_window six (left_teller ∷ []) 0 (j * 12)) ≡ false) refl,
      first-only (λ j. list_any (does is_for_want (main_id 0)) (own_window six (left_teller ∷ []) 0 (j * 12)) ≡ false) refl,
    ) refl refl (λ e. absurd (omega arith))

-- with two ticks less it doesn't come to its wait
pub no-less-is-needed : LawWith (λ c c' code k. Reads c c' code k × Waits c c' code k × WantsNone c c' code k) → ⊥
no-less-is-needed =
    refuted (λ c c' code k. Reads c c' code k × Waits c c' code k × WantsNone c c' code k) 6 4 late_waiter length 5 4 six-passes four-passes (accepted six refl) (accepted four refl)
    (record { known = omega arith; threads = refl; slack = refl; clock = waiter-clock }) (record { known = omega arith; threads = refl; slack = refl; clock = waiter-clock }) (
      waiter-reads,
      first-only (λ j. overruns 0 (own_window six (late_waiter ∷ []) 0 (j * 12)) ≡ false) refl,
      first-only (λ j. list_any (does is_for_want (main_id 0)) (own_window six (late_waiter ∷ []) 0 (j * 12)) ≡ false) refl,
    ) refl refl (λ e. absurd (omega arith))
