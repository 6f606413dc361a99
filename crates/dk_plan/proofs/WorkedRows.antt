-- The worked rows: the budgets of two spinners, and a base for two asks.
use Rattle.dk_plan.proofs.Names.{◌≡◌, ℕ, false, List, [], ◌∷◌, refl, arith, ProcessRow, Configuration, verdict_of, rows_of, Accepted, Ask, Fraction, IsBelow, IsSame, CanHave, with_budget}
use Rattle.dk_config.specs.Rules.{all_tests, version_tests, count_tests, range_tests, period_tests, name_tests, again_tests, level_tests, budget_tests, user_tests, slowest_tests}
use Rattle.dk_plan.specs.Base.{period_got, utilisation}
use Rattle.dk_plan.proofs.Accepting.{accepted_from}

abbrev process : List ℕ → ℕ → ℕ → ProcessRow
process name level budget = record { name = name; program = 115 ∷ []; level = level; budget = budget; memory = 0; threads = 0; slack = false; max_level = 1 }

-- alpha has the period 10 and the budget 3, beta the period 20 and this budget
abbrev two_spinners : ℕ → Configuration
two_spinners beta = record {
  version = 1;
  costs = record { switch = 0; call = 1 };
  levels = record { period = 10; release = 0 } ∷ record { period = 20; release = 0 } ∷ [];
  processes = process (97 ∷ []) 0 3 ∷ process (98 ∷ []) 1 beta ∷ [];
  mutexes = [];
}

beta_can_have_14 : CanHave (two_spinners 5) 1 14
unfolding all_tests version_tests count_tests range_tests period_tests name_tests again_tests level_tests budget_tests user_tests slowest_tests
beta_can_have_14 = record { unbroken = refl; certified = refl }

beta_and_no_more : CanHave (two_spinners 5) 1 15 → ⊥
beta_and_no_more have = let wrong : verdict_of (with_budget (two_spinners 5) 1 15) ≡ Accepted (rows_of (with_budget (two_spinners 5) 1 15)) = have.certified in absurd (cc)

alpha_can_have_7 : CanHave (two_spinners 5) 0 7
unfolding all_tests version_tests count_tests range_tests period_tests name_tests again_tests level_tests budget_tests user_tests slowest_tests
alpha_can_have_7 = record { unbroken = refl; certified = refl }

alpha_and_no_more : CanHave (two_spinners 5) 0 8 → ⊥
alpha_and_no_more have = let wrong : verdict_of (with_budget (two_spinners 5) 0 8) ≡ Accepted (rows_of (with_budget (two_spinners 5) 0 8)) = have.certified in absurd (cc)

-- beside a beta of 25 ticks there is none
alpha_can_have_none : (b : ℕ) → CanHave (two_spinners 25) 0 b → ⊥
alpha_can_have_none b have = let fits = accepted_from (with_budget (two_spinners 25) 0 b) have.certified 1 (omega arith) in omega (arith, fits)

abbrev two_asks : List Ask
two_asks = record { period = 10; budget = 3 } ∷ record { period = 25; budget = 5 } ∷ []

abbrev eleven_of_20 : Fraction
eleven_of_20 = record { numerator = 11; denominator = 20 }

gets_20 : period_got 10 25 ≡ 20
unfolding period_got
gets_20 = refl

base_10 : IsSame (utilisation 10 two_asks) eleven_of_20
unfolding period_got utilisation
base_10 = refl

base_5 : IsSame (utilisation 5 two_asks) eleven_of_20
unfolding period_got utilisation
base_5 = refl

base_6 : IsBelow eleven_of_20 (utilisation 6 two_asks)
unfolding period_got utilisation
base_6 = omega arith

base_7 : IsBelow eleven_of_20 (utilisation 7 two_asks)
unfolding period_got utilisation
base_7 = omega arith

base_8 : IsBelow eleven_of_20 (utilisation 8 two_asks)
unfolding period_got utilisation
base_8 = omega arith

base_9 : IsBelow eleven_of_20 (utilisation 9 two_asks)
unfolding period_got utilisation
base_9 = omega arith
