-- A configuration in which no level fails is accepted.
use Rattle.dk_bound.proofs.Names.{◌≡◌, ◌+◌, inl, inr, ltb, length, refl, subst, arith, Some, None, MatchOption, cases_Bool, nat_tests, Configuration, period, level_demand, level_blocking, fails_at, first_failing, IsAccepted, first_of-is, NoAnswer, IsFirst, first-none}

pub accepted : (c : Configuration) → first_failing c ≡ None → IsAccepted c
accepted c none j known =
    let n = length c.levels in
    let free : NoAnswer (fails_at c) 0 (0 + n) =
    subst (λ o. MatchOption o (NoAnswer (fails_at c) 0 (0 + n)) (IsFirst (fails_at c) 0 (0 + n))) none (first_of-is (fails_at c) 0 n) in
    elim (cases_Bool (ltb (period c j) (level_demand c j + level_blocking c j))) [
      | inr fits ↦ grind (arith, nat_tests)
      | inl fails ↦
          let at : fails_at c j ≡ Some j = rw fails refl in
          let none_at = free j (omega arith) (omega arith) in
          absurd (cc)
    ]

-- an accepted configuration has no level that fails
pub no-failing : (c : Configuration) → IsAccepted c → first_failing c ≡ None
no-failing c accepted = grind (arith, nat_tests, first-none, accepted)
