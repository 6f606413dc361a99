-- A budget between two that a process can have; one greatest budget, and one best base.
use Rattle.dk_plan.proofs.Names.{◌≡◌, ℕ, List, ◌/◌, ◌<◌, ◌≤◌, inl, inr, length, arith, Option, IfSome, unwrap_or, mul-le-mul_right, cases_lt, Configuration, period, main_level, BreaksNoRule, Ask, GreaterTakeMore, NoneLess, CanHave, NoGreater, with_budget, LevelFits, nat_tests}
use Rattle.dk_plan.proofs.Demands.{demand-before, demand-from, blocking-same}
use Rattle.dk_plan.proofs.Accepting.{accepted_from, certified_from}
use Rattle.dk_plan.proofs.Unbroken.{range_needed, room_needed, unbroken-with}

-- a level that fits with a budget fits with a lesser one
fits_with_less : (c : Configuration) (p : ℕ) → p < length c.processes → (b more j : ℕ) → b ≤ more → LevelFits c p j more → LevelFits c p j b
fits_with_less c p inside b more j less fits =
    let blocking = blocking-same c p inside b j in
    let blocking_more = blocking-same c p inside more j in
    elim (cases_lt j (main_level c p)) [
      | inl before ↦
          let demand = demand-before c p inside b j before in
          let demand_more = demand-before c p inside more j before in
          omega (arith, demand, demand_more, blocking, blocking_more, fits)
      | inr from ↦
          let demand = demand-from c p inside b j from in
          let demand_more = demand-from c p inside more j from in
          let product = mul-le-mul_right (period c j / period c (main_level c p)) less in
          omega (arith, demand, demand_more, blocking, blocking_more, product, fits)
    ]

pub between : (c : Configuration) → BreaksNoRule c → (p : ℕ) → p < length c.processes → (low high : ℕ) → CanHave c p low → CanHave c p high → (b : ℕ) → low ≤ b → b ≤ high → CanHave c p b
between c unbroken p inside low high at_low at_high b above below =
    let least = room_needed c p low inside at_low.unbroken in
    let most = range_needed c p high inside at_high.unbroken in
    let accepted = accepted_from (with_budget c p high) at_high.certified in
    record {
      unbroken = unbroken-with c p b unbroken (omega (arith, least, above)) (omega (arith, most, below));
      certified = certified_from (with_budget c p b) (λ j level. fits_with_less c p inside b high j below (accepted j level));
    }

-- a budget that a process can have and that isn't above another one
not_above : (c : Configuration) (p : ℕ) → p < length c.processes → (answer : Option ℕ) → NoGreater c p answer → (b : ℕ) → CanHave c p b → b ≤ unwrap_or answer 0
not_above c p inside answer no_greater b have = grind (arith, nat_tests, range_needed)

pub one_budget : (c : Configuration) (p : ℕ) → p < length c.processes → (a b : Option ℕ) → IfSome a (CanHave c p) → NoGreater c p a → IfSome b (CanHave c p) → NoGreater c p b → a ≡ b
one_budget c p inside a b have_a greatest_a have_b greatest_b = grind (arith, nat_tests, room_needed, not_above)

pub one_base : (lo hi : ℕ) (asks : List Ask) (a b : ℕ) → lo ≤ a → a ≤ hi → NoneLess lo hi asks a → GreaterTakeMore hi asks a → lo ≤ b → b ≤ hi → NoneLess lo hi asks b → GreaterTakeMore hi asks b → a ≡ b
one_base lo hi asks a b a_from a_to a_least a_more b_from b_to b_least b_more = grind (arith, nat_tests)
