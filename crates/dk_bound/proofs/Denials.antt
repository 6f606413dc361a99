-- A denial has its level, which has work and not a tick to give, and is told only where slack is denied.
use Rattle.dk_bound.proofs.Names.{ℕ, zero, suc, ◌≡◌, ◌+◌, ◌-◌, ◌<◌, ◌≤◌, inl, inr, Bool, true, false, cond, ◌&&◌, eqb, ltb, List, length, sym, ap, subst, arith, is_some, Option, Some, None, unwrap_or, option_map, MatchOption, list_all, option_or, cases_Bool, cases_lt, cases_eq, nat_tests, Configuration, numbers, below, first_of, window_end, Choice, Entry, Thread, blocking, own_demand, remaining_demand, fits, fits_at, is_tight_at, work_at, wish_at, claims_slack_at, denied, DemandFits, IsDenied, DeniedFor, DenialIsTight, numbers-has, has-numbers, find-some, first_of-is, NoAnswer, IsFirst, option_or-none}

-- where not all numbers pass a test, one fails it
fails-at : (test : ℕ → Bool) (low n : ℕ) → list_all test (numbers low n) ≡ false → (k : ℕ) × (low ≤ k) × (k < low + n) × (test k ≡ false)
fails-at test low zero fails = absurd (cc)
fails-at test low (suc n) fails =
    elim (cases_Bool (test low)) [
      | inl passes ↦
          let rest : list_all test (numbers (suc low) n) ≡ false = rw passes at fails in
          let r = fails-at test (suc low) n rest in
          (r.0, omega (arith, r.1), omega (arith, r.2), r.3)
      | inr here ↦ (low, omega arith, omega arith, here)
    ]

-- a level that has no tick to give after one more has none to give now
tight-at : (c : Configuration) (past : List Entry) (k : ℕ) → DemandFits c past → k < length c.levels
    → fits_at c (length past) past k ≡ false → is_tight_at c (length past) past k ≡ true
tight-at c past k fitting known fails = grind (arith, nat_tests)

abbrev slack_first : Configuration → List Entry → Option Bool
slack_first c past = first_of (claims_slack_at c past) (below (length c.levels))

abbrev ClaimsFirst : Configuration → List Entry → Option Bool → Type 0
ClaimsFirst c past o = MatchOption o (NoAnswer (claims_slack_at c past) 0 (0 + length c.levels)) (IsFirst (claims_slack_at c past) 0 (0 + length c.levels))

claim-is : (work : Option Choice) (wish : Option Thread) (b : Bool) → work ≡ None → option_or (option_map (λ w. false) work) (option_map (λ x. true) wish) ≡ Some b → b ≡ true
claim-is work wish b none is = grind (arith, nat_tests)

claim-some : (work : Option Choice) (wish : Option Thread) → work ≡ None → is_some wish ≡ true → option_or (option_map (λ w. false) work) (option_map (λ x. true) wish) ≡ None → ⊥
claim-some work wish none some is = grind (arith, nat_tests)

-- where slack is denied the first claim is one for slack
claims-slack : (c : Configuration) (past : List Entry) (o : Option Bool) → ClaimsFirst c past o → IsDenied c past → o ≡ Some true
claims-slack c past None none d =
    let at = none d.level (omega arith) (let known = d.known in omega arith) in
    absurd (claim-some (work_at c past d.level) (wish_at c past d.level) d.no_work d.asks at)
claims-slack c past (Some b) first d =
    let p = first.place in
    let known = d.known in
    elim (cases_lt d.level p) [
      | inl later ↦
          let at = first.before d.level (omega arith) later in
          absurd (claim-some (work_at c past d.level) (wish_at c past d.level) d.no_work d.asks at)
      | inr early ↦
          let none : work_at c past p ≡ None =
          elim (cases_eq p d.level) [
            | inl same ↦ subst (λ i. work_at c past i ≡ None) (sym same) d.no_work
            | inr other ↦ option_or-none (work_at c past p) _ (d.first p (omega arith))
          ] in
          ap Some (claim-is (work_at c past p) (wish_at c past p) b none first.answer)
    ]

pub denied-for : (c : Configuration) (past : List Entry) → DemandFits c past → IsDenied c past → (j : ℕ) × DeniedFor c past j
denied-for c past fitting d =
    let n = length past in
    let L = length c.levels in
    let claims : slack_first c past ≡ Some true = claims-slack c past (slack_first c past) (first_of-is (claims_slack_at c past) 0 L) d in
    let fails = fails-at (fits_at c n past) 0 L d.tight in
    let tight = tight-at c past fails.0 fitting (omega (arith, fails.2)) fails.3 in
    let r = find-some (is_tight_at c n past) (below L) fails.0 (numbers-has 0 L fails.0 (omega arith) (omega (arith, fails.2))) tight in
    let range = has-numbers 0 L r.0 r.1 in
    let is : denied c past ≡ Some r.0 = rw (claims, d.tight) r.3 in
    let both : (ltb 0 (own_demand c n past r.0) && eqb (remaining_demand c n past r.0 + blocking c past r.0) (window_end c r.0 n - n)) ≡ true = r.2 in
    (r.0, record { answer = is; known = omega (arith, range.1); own = grind (arith, nat_tests); full = grind (arith, nat_tests) })

-- what a claim for slack says of its level
record ClaimsSlack (work : Option Choice) (wish : Option Thread) : Type 0 where
  pub no_work : work ≡ None
  pub asks : is_some wish ≡ true

denied-by : (c : Configuration) (past : List Entry) (o : Option Bool) → ClaimsFirst c past o → o ≡ Some true → fits c (length past) past ≡ false → IsDenied c past
denied-by c past o first is tight = grind (arith, nat_tests)

-- the answer is there only where its condition holds
answered : (o : Option Bool) (fitting : Bool) (found : Option ℕ) (j : ℕ) → cond (unwrap_or o false && cond fitting false true) found None ≡ Some j
    → (o ≡ Some true) × (fitting ≡ false)
answered o fitting found j is = grind (arith, nat_tests)

pub is-denied : (c : Configuration) (past : List Entry) (j : ℕ) → denied c past ≡ Some j → IsDenied c past
is-denied c past j is =
    let r = answered (slack_first c past) (fits c (length past) past) _ j is in
    denied-by c past (slack_first c past) (first_of-is (claims_slack_at c past) 0 (length c.levels)) r.0 r.1

pub denial-tight : (c : Configuration) (past : List Entry) → DemandFits c past → DenialIsTight c past
denial-tight c past fitting = (denied-for c past fitting, is-denied c past)
