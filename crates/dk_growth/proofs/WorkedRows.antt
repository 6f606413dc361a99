-- The worked row: two spinners with the periods 10 and 20 and the budgets 3 and 5 grow by 66 percent. With 66 their budgets are 5 and 9, and the slower level needs 2 * 5 + 9 = 19 of 20;
-- with 67 they are 6 and 9, and it needs 21.
use Rattle.std.proofs.Common.{◌≡◌, ℕ, false, List, [], ◌∷◌, refl}
use Rattle.dk_config.specs.declared.rows.ProcessRow.{ProcessRow}
use Rattle.dk_config.specs.Configuration.{Configuration}
use Rattle.dk_config.specs.Rules.{all_tests, version_tests, count_tests, range_tests, period_tests, name_tests, again_tests, level_tests, budget_tests, user_tests, slowest_tests}
use Rattle.std.specs.Prelude.{Some}
use Rattle.dk_config.specs.Certification.{first_failing}
use Rattle.dk_certify.specs.Verdicts.{verdict_of, rows_of}
use Rattle.dk_certify.specs.declared.certifying.Verdict.TheVariants.{Accepted}
use Rattle.dk_margins.specs.Margins.{Stands}
use Rattle.dk_growth.specs.Growth.{grown, grown_budget}

abbrev process : List ℕ → ℕ → ℕ → ProcessRow
process name level budget = record { name = name; program = 115 ∷ []; level = level; budget = budget; memory = 0; threads = 0; slack = false; max_level = 1 }

abbrev two_spinners : Configuration
two_spinners = record {
  version = 1;
  costs = record { switch = 0; call = 1 };
  levels = record { period = 10; release = 0 } ∷ record { period = 20; release = 0 } ∷ [];
  processes = process (97 ∷ []) 0 3 ∷ process (98 ∷ []) 1 5 ∷ [];
  mutexes = [];
}

three_grows : grown_budget 66 3 ≡ 5
three_grows = refl

five_grows : grown_budget 66 5 ≡ 9
five_grows = refl

by_66 : Stands (grown two_spinners 66)
unfolding all_tests version_tests count_tests range_tests period_tests name_tests again_tests level_tests budget_tests user_tests slowest_tests
by_66 = record { unbroken = refl; certified = refl }

and_no_more : Stands (grown two_spinners 67) → ⊥
and_no_more stands = let wrong : verdict_of (grown two_spinners 67) ≡ Accepted (rows_of (grown two_spinners 67)) = stands.certified in absurd (cc)

the_second_fails : first_failing (grown two_spinners 67) ≡ Some 1
the_second_fails = refl
