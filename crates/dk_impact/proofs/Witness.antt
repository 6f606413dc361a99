-- The premises can be met all at once by configurations that differ in much: a level before and one after, a process before and one after, another user of the mutex and another ceiling.
use Rattle.dk_impact.proofs.Names.{ℕ, zero, suc, ◌≡◌, ◌+◌, ◌*◌, ◌%◌, ◌≤◌, ◌<◌, ◌⊎◌, inl, inr, None, Bool, true, false, not, List, [], ◌∷◌, map, refl, ap, subst, arith, slice_index_or, list_any, Configuration, longest_hold, is_user, first_broken, checked, Jmp, Trap, Entry, stops, world, accepted, KeepsToItself, ReadsNoTick, ProcessStandsAgain, own_window, program, spinner, call_of, SeesTheSame, SeesTheSameButPeriod, MakesNoThread, IsSameAcross, renamed, ChangesOfOthersHaveNoImpact, ChangesOfPeriodHaveNoImpact, FirstWindowsTellAcross, FirstWindowsTellAtAnyPeriod, nat_tests}
use Rattle.dk_config.specs.Rules.{all_tests, version_tests, count_tests, range_tests, period_tests, name_tests, again_tests, level_tests, budget_tests, user_tests, slowest_tests}

abbrev pub old_at : ℕ → Configuration
old_at ticks = record {
  version = 1;
  costs = record { switch = 1; call = 2 };
  levels = record { period = ticks; release = 0 } ∷ [];
  processes = record { name = 97 ∷ []; program = 97 ∷ []; level = 0; budget = 12; memory = 1; threads = 0; slack = false; max_level = 0 } ∷ [];
  mutexes = record { name = 109 ∷ []; ceiling = 0; hold = 3; users = (97 ∷ []) ∷ [] } ∷ [];
}

abbrev new_at : ℕ → Configuration
new_at ticks = record {
  version = 2;
  costs = record { switch = 1; call = 2 };
  levels = record { period = 10; release = 0 } ∷ record { period = ticks; release = 0 } ∷ record { period = 120; release = 2 } ∷ [];
  processes =
      record { name = 98 ∷ []; program = 98 ∷ []; level = 0; budget = 3; memory = 0; threads = 0; slack = true; max_level = 2 }
      ∷ record { name = 97 ∷ []; program = 97 ∷ []; level = 1; budget = 12; memory = 1; threads = 0; slack = false; max_level = 2 }
      ∷ [];
  mutexes = record { name = 110 ∷ []; ceiling = 0; hold = 3; users = (98 ∷ []) ∷ (97 ∷ []) ∷ [] } ∷ [];
}

abbrev pub old : Configuration
old = old_at 20

abbrev new : Configuration
new = new_at 20

-- its budget is the whole window
abbrev faster : Configuration
faster = old_at 12

abbrev slower : Configuration
slower = new_at 40

pub old-passes : first_broken (all_tests old) ≡ None
unfolding all_tests version_tests count_tests range_tests period_tests name_tests again_tests level_tests budget_tests user_tests slowest_tests
old-passes = refl

new-passes : first_broken (all_tests new) ≡ None
unfolding all_tests version_tests count_tests range_tests period_tests name_tests again_tests level_tests budget_tests user_tests slowest_tests
new-passes = refl

faster-passes : first_broken (all_tests faster) ≡ None
unfolding all_tests version_tests count_tests range_tests period_tests name_tests again_tests level_tests budget_tests user_tests slowest_tests
faster-passes = refl

slower-passes : first_broken (all_tests slower) ≡ None
unfolding all_tests version_tests count_tests range_tests period_tests name_tests again_tests level_tests budget_tests user_tests slowest_tests
slower-passes = refl

-- locks, shows, unlocks, and waits
abbrev worker : List ℕ
worker = program (Trap 5 ∷ Trap 6 ∷ Trap 8 ∷ Trap 10 ∷ Trap 1 ∷ Jmp 0 ∷ [])

pub less-than : (k n : ℕ) → k < n → k ≡ n → ⊥
less-than k n less is = omega arith

pub more-than : (k n : ℕ) → n < k → k ≡ n → ⊥
more-than k n more is = omega arith

worker-clock : ReadsNoTick worker
worker-clock zero within is = less-than 5 9 (omega arith) (ap call_of is)
worker-clock (suc zero) within is = less-than 6 9 (omega arith) (ap call_of is)
worker-clock (suc (suc zero)) within is = less-than 8 9 (omega arith) (ap call_of is)
worker-clock (suc (suc (suc zero))) within is = more-than 10 9 (omega arith) (ap call_of is)
worker-clock (suc (suc (suc (suc zero)))) within is = less-than 1 9 (omega arith) (ap call_of is)
worker-clock (suc (suc (suc (suc (suc zero))))) within is = less-than 0 9 (omega arith) (ap call_of is)
worker-clock (suc (suc (suc (suc (suc (suc k)))))) within is = let more : 4 * suc (suc (suc (suc (suc (suc k))))) + 4 ≤ 24 = within in absurd (omega arith)

worker-makes-none : MakesNoThread worker
worker-makes-none zero within is = more-than 5 3 (omega arith) (ap call_of is)
worker-makes-none (suc zero) within is = more-than 6 3 (omega arith) (ap call_of is)
worker-makes-none (suc (suc zero)) within is = more-than 8 3 (omega arith) (ap call_of is)
worker-makes-none (suc (suc (suc zero))) within is = more-than 10 3 (omega arith) (ap call_of is)
worker-makes-none (suc (suc (suc (suc zero)))) within is = less-than 1 3 (omega arith) (ap call_of is)
worker-makes-none (suc (suc (suc (suc (suc zero))))) within is = less-than 0 3 (omega arith) (ap call_of is)
worker-makes-none (suc (suc (suc (suc (suc (suc k)))))) within is = let more : 4 * suc (suc (suc (suc (suc (suc k))))) + 4 ≤ 24 = within in absurd (omega arith)

same-users : (ticks other m : ℕ) → is_user (old_at ticks) m 0 ≡ is_user (new_at other) m 1
same-users ticks other m = grind (arith, nat_tests)

same-holds : (ticks other m : ℕ) → is_user (old_at ticks) m 0 ≡ true → longest_hold (old_at ticks) m ≡ longest_hold (new_at other) m
same-holds ticks other m is = grind (arith, nat_tests)

sees-but-period : (ticks other : ℕ) → SeesTheSameButPeriod (old_at ticks) 0 (new_at other) 1 worker
sees-but-period ticks other =
    record {
      but_time = record { switch = refl; call = refl; memory = refl; mutexes = inl (record { users = same-users ticks other; holds = same-holds ticks other }); levels = inr worker-makes-none };
      budget = refl;
    }

sees : SeesTheSame old 0 new 1 worker
sees = record { but_period = sees-but-period 20 20; period = refl }

-- so the worker has the same in both, whatever the other does
pub the-worker-is-the-same : ChangesOfOthersHaveNoImpact → IsSameAcross 0 1 (world old (worker ∷ []) 40) (world new (spinner ∷ worker ∷ []) 40)
the-worker-is-the-same law =
    law old new (worker ∷ []) (spinner ∷ worker ∷ []) 0 1 40 (checked old old-passes) (accepted old refl) (checked new new-passes) (accepted new refl)
    (record { known = omega arith; threads = refl; slack = refl; clock = worker-clock }) (record { known = omega arith; threads = refl; slack = refl; clock = worker-clock })
    refl sees refl

-- and so after three windows of 12 ticks, which its budget fills, and three of 40
pub the-worker-is-the-same-at-any-period : ChangesOfPeriodHaveNoImpact → IsSameAcross 0 1 (world faster (worker ∷ []) 36) (world slower (spinner ∷ worker ∷ []) 120)
the-worker-is-the-same-at-any-period law =
    law faster slower (worker ∷ []) (spinner ∷ worker ∷ []) 0 1 3 (checked faster faster-passes) (accepted faster refl) (checked slower slower-passes) (accepted slower refl)
    (record { known = omega arith; threads = refl; slack = refl; clock = worker-clock }) (record { known = omega arith; threads = refl; slack = refl; clock = worker-clock })
    refl (sees-but-period 12 40)

-- by itself it stands at tick 80 as it stood at tick 40
again : ProcessStandsAgain old (worker ∷ []) 0 40 40
again = record { later = omega arith; begins = refl; begins_later = refl; alike = record { memory = refl; context = refl; stopped = refl } }

-- in a window its main isn't stopped
abbrev pub goes-on : List Entry → Bool
goes-on window = not (list_any (stops (record { process = 1; serial = 0 })) window)

-- a tick of the windows up to tick 80
pub first-four : (tick : ℕ) → tick % 20 ≡ 0 → tick < 80 → ((tick ≡ 0) ⊎ (tick ≡ 20)) ⊎ ((tick ≡ 40) ⊎ (tick ≡ 60))
first-four tick begins early = grind (arith, nat_tests)

goes-on-first : (tick : ℕ) → ((tick ≡ 0) ⊎ (tick ≡ 20)) ⊎ ((tick ≡ 40) ⊎ (tick ≡ 60)) → goes-on (map (renamed 1) (own_window old (worker ∷ []) 0 tick)) ≡ true
goes-on-first tick (inl (inl is)) = ap (λ t. goes-on (map (renamed 1) (own_window old (worker ∷ []) 0 t))) is
goes-on-first tick (inl (inr is)) = ap (λ t. goes-on (map (renamed 1) (own_window old (worker ∷ []) 0 t))) is
goes-on-first tick (inr (inl is)) = ap (λ t. goes-on (map (renamed 1) (own_window old (worker ∷ []) 0 t))) is
goes-on-first tick (inr (inr is)) = ap (λ t. goes-on (map (renamed 1) (own_window old (worker ∷ []) 0 t))) is

-- so four windows of the old configuration show that it is never stopped in the new one, whatever the other does
pub the-worker-goes-on : FirstWindowsTellAcross → (others : List (List ℕ)) (tick : ℕ) → worker ≡ slice_index_or others 1 [] → tick % 20 ≡ 0
    → goes-on (own_window new others 1 tick) ≡ true
the-worker-goes-on law others tick agree begins =
    law old new (worker ∷ []) others 0 1 40 40 goes-on (checked old old-passes) (accepted old refl) (checked new new-passes) (accepted new refl)
    (record { known = omega arith; threads = refl; slack = refl; clock = worker-clock })
    (subst (KeepsToItself new 1) agree (record { known = omega arith; threads = refl; slack = refl; clock = worker-clock }))
    agree sees again (λ t start early. goes-on-first t (first-four t start early)) tick begins

-- nor at half its rate
pub the-worker-goes-on-slower : FirstWindowsTellAtAnyPeriod → (others : List (List ℕ)) (tick : ℕ) → worker ≡ slice_index_or others 1 [] → tick % 40 ≡ 0
    → goes-on (own_window slower others 1 tick) ≡ true
the-worker-goes-on-slower law others tick agree begins =
    law old slower (worker ∷ []) others 0 1 40 40 goes-on (checked old old-passes) (accepted old refl) (checked slower slower-passes) (accepted slower refl)
    (record { known = omega arith; threads = refl; slack = refl; clock = worker-clock })
    (subst (KeepsToItself slower 1) agree (record { known = omega arith; threads = refl; slack = refl; clock = worker-clock }))
    agree (sees-but-period 20 40) again (λ t start early. goes-on-first t (first-four t start early)) tick begins
