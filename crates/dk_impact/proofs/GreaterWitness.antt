-- The premises of the laws of a greater budget can be met all at once: a worker of which the budget, the number and the level change, beside another that never waits.
use Rattle.dk_impact.proofs.Names.{ℕ, zero, suc, ◌≡◌, ◌+◌, ◌*◌, ◌%◌, ◌≤◌, ◌⊎◌, inl, inr, None, true, false, List, [], ◌∷◌, map, refl, ap, subst, arith, slice_index_or, Configuration, longest_hold, is_user, first_broken, checked, Jmp, Trap, accepted, KeepsToItself, ReadsNoTick, ProcessStandsAgain, own_window, program, call_of, GivesNoLess, ReadsNoBudget, MakesNoThread, has_enough, renamed, FirstWindowsTellWithMore, nat_tests}
use Rattle.dk_config.specs.Rules.{all_tests, version_tests, count_tests, range_tests, period_tests, name_tests, again_tests, level_tests, budget_tests, user_tests, slowest_tests}
use Rattle.dk_impact.proofs.Witness.{old, old-passes, less-than, more-than, first-four, goes-on}

-- its budget was 12
abbrev more : Configuration
more = record {
  version = 2;
  costs = record { switch = 1; call = 2 };
  levels = record { period = 10; release = 0 } ∷ record { period = 20; release = 0 } ∷ record { period = 120; release = 2 } ∷ [];
  processes =
      record { name = 98 ∷ []; program = 98 ∷ []; level = 0; budget = 3; memory = 0; threads = 0; slack = true; max_level = 2 }
      ∷ record { name = 97 ∷ []; program = 97 ∷ []; level = 1; budget = 13; memory = 1; threads = 0; slack = false; max_level = 2 }
      ∷ [];
  mutexes = record { name = 110 ∷ []; ceiling = 0; hold = 3; users = (98 ∷ []) ∷ (97 ∷ []) ∷ [] } ∷ [];
}

more-passes : first_broken (all_tests more) ≡ None
unfolding all_tests version_tests count_tests range_tests period_tests name_tests again_tests level_tests budget_tests user_tests slowest_tests
more-passes = refl

-- locks, unlocks, and waits
abbrev locker : List ℕ
locker = program (Trap 5 ∷ Trap 6 ∷ Trap 1 ∷ Jmp 0 ∷ [])

locker-clock : ReadsNoTick locker
locker-clock zero within is = less-than 5 9 (omega arith) (ap call_of is)
locker-clock (suc zero) within is = less-than 6 9 (omega arith) (ap call_of is)
locker-clock (suc (suc zero)) within is = less-than 1 9 (omega arith) (ap call_of is)
locker-clock (suc (suc (suc zero))) within is = less-than 0 9 (omega arith) (ap call_of is)
locker-clock (suc (suc (suc (suc k)))) within is = let most : 4 * suc (suc (suc (suc k))) + 4 ≤ 16 = within in absurd (omega arith)

locker-reads : ReadsNoBudget locker
locker-reads zero within is = less-than 5 10 (omega arith) (ap call_of is)
locker-reads (suc zero) within is = less-than 6 10 (omega arith) (ap call_of is)
locker-reads (suc (suc zero)) within is = less-than 1 10 (omega arith) (ap call_of is)
locker-reads (suc (suc (suc zero))) within is = less-than 0 10 (omega arith) (ap call_of is)
locker-reads (suc (suc (suc (suc k)))) within is = let most : 4 * suc (suc (suc (suc k))) + 4 ≤ 16 = within in absurd (omega arith)

locker-makes-none : MakesNoThread locker
locker-makes-none zero within is = more-than 5 3 (omega arith) (ap call_of is)
locker-makes-none (suc zero) within is = more-than 6 3 (omega arith) (ap call_of is)
locker-makes-none (suc (suc zero)) within is = less-than 1 3 (omega arith) (ap call_of is)
locker-makes-none (suc (suc (suc zero))) within is = less-than 0 3 (omega arith) (ap call_of is)
locker-makes-none (suc (suc (suc (suc k)))) within is = let most : 4 * suc (suc (suc (suc k))) + 4 ≤ 16 = within in absurd (omega arith)

same-users : (m : ℕ) → is_user old m 0 ≡ is_user more m 1
same-users m = grind (arith, nat_tests)

same-holds : (m : ℕ) → is_user old m 0 ≡ true → longest_hold old m ≡ longest_hold more m
same-holds m is = grind (arith, nat_tests)

given : GivesNoLess old 0 more 1 locker
given =
    record {
      sees = record { switch = refl; call = refl; memory = refl; mutexes = inl (record { users = same-users; holds = same-holds }); levels = inr locker-makes-none };
      budget = omega arith;
      reads = locker-reads;
    }

again : ProcessStandsAgain old (locker ∷ []) 0 40 40
again = record { later = omega arith; begins = refl; begins_later = refl; alike = record { memory = refl; context = refl; stopped = refl } }

enough-first : (tick : ℕ) → ((tick ≡ 0) ⊎ (tick ≡ 20)) ⊎ ((tick ≡ 40) ⊎ (tick ≡ 60)) → has_enough 0 (own_window old (locker ∷ []) 0 tick) ≡ true
enough-first tick (inl (inl is)) = ap (λ t. has_enough 0 (own_window old (locker ∷ []) 0 t)) is
enough-first tick (inl (inr is)) = ap (λ t. has_enough 0 (own_window old (locker ∷ []) 0 t)) is
enough-first tick (inr (inl is)) = ap (λ t. has_enough 0 (own_window old (locker ∷ []) 0 t)) is
enough-first tick (inr (inr is)) = ap (λ t. has_enough 0 (own_window old (locker ∷ []) 0 t)) is

goes-on-first : (tick : ℕ) → ((tick ≡ 0) ⊎ (tick ≡ 20)) ⊎ ((tick ≡ 40) ⊎ (tick ≡ 60)) → goes-on (map (renamed 1) (own_window old (locker ∷ []) 0 tick)) ≡ true
goes-on-first tick (inl (inl is)) = ap (λ t. goes-on (map (renamed 1) (own_window old (locker ∷ []) 0 t))) is
goes-on-first tick (inl (inr is)) = ap (λ t. goes-on (map (renamed 1) (own_window old (locker ∷ []) 0 t))) is
goes-on-first tick (inr (inl is)) = ap (λ t. goes-on (map (renamed 1) (own_window old (locker ∷ []) 0 t))) is
goes-on-first tick (inr (inr is)) = ap (λ t. goes-on (map (renamed 1) (own_window old (locker ∷ []) 0 t))) is

-- so four windows with a budget of 12 show that it is never stopped with one of 13, whatever the other does
pub the-locker-goes-on : FirstWindowsTellWithMore → (others : List (List ℕ)) (tick : ℕ) → locker ≡ slice_index_or others 1 [] → tick % 20 ≡ 0
    → goes-on (own_window more others 1 tick) ≡ true
the-locker-goes-on law others tick agree begins =
    law old more (locker ∷ []) others 0 1 40 40 goes-on (checked old old-passes) (accepted old refl) (checked more more-passes) (accepted more refl)
    (record { known = omega arith; threads = refl; slack = refl; clock = locker-clock })
    (subst (KeepsToItself more 1) agree (record { known = omega arith; threads = refl; slack = refl; clock = locker-clock }))
    agree given again (λ t start early. enough-first t (first-four t start early)) (λ t start early. goes-on-first t (first-four t start early)) tick begins
