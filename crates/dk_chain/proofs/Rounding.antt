-- What rounding up to multiples of periods that divide one another comes to.
use Rattle.dk_chain.proofs.Names.{ℕ, ◌≡◌, ◌+◌, ◌-◌, ◌/◌, ◌<◌, ◌≤◌, inl, inr, arith, ◌∣◌, cases_lt, div-add-mod', le_of_dvd, dvd-mul_left, dvd-sub, dvd-add, round_up, nat_tests}
use Rattle.std.proofs.Math.Nat.{dvd_trans}

pub round-divides : (n P : ℕ) → P ∣ round_up n P
round-divides n P = dvd-mul_left P ((n + (P - 1)) / P)

pub round-above : (n P : ℕ) → 0 < P → n ≤ round_up n P
round-above n P positive = grind (arith, nat_tests)

pub round-near : (n P : ℕ) → 0 < P → round_up n P ≤ n + (P - 1)
round-near n P positive = let split = div-add-mod' (n + (P - 1)) P in omega (arith, split)

-- two multiples are a period apart, or more
pub apart : (P a b : ℕ) → P ∣ a → P ∣ b → a < b → a + P ≤ b
apart P a b da db less = grind (arith, nat_tests, dvd-sub, le_of_dvd)

pub round-least : (n P v : ℕ) → 0 < P → P ∣ v → n ≤ v → round_up n P ≤ v
round-least n P v positive dv le =
    elim (cases_lt v (round_up n P)) [
      | inr fine ↦ omega arith
      | inl more ↦
          let far = apart P v (round_up n P) dv (round-divides n P) more in
          let near = round-near n P positive in
          absurd (omega (arith, far, near))
    ]

-- a multiple stays out of the rounding
pub round-shift : (a e P : ℕ) → 0 < P → P ∣ a → round_up (a + e) P ≡ a + round_up e P
round-shift a e P positive da =
    let above = round-above e P positive in
    let most = round-least (a + e) P (a + round_up e P) positive (dvd-add P da (round-divides e P)) (omega (arith, above)) in
    let over = round-above (a + e) P positive in
    let rest = round-least e P (round_up (a + e) P - a) positive (dvd-sub P (round-divides (a + e) P) da) (omega (arith, over)) in
    omega (arith, most, over, rest)

-- rounding to a shorter period first
pub round-twice : (n e H Q : ℕ) → 0 < H → 0 < Q → H ∣ Q → round_up (round_up n H + e) Q ≡ round_up (n + round_up e H) Q
round-twice n e H Q some positive divides =
    let v = round_up (n + round_up e H) Q in
    let w = round_up (round_up n H + e) Q in
    let whole : H ∣ v = dvd_trans H divides (round-divides (n + round_up e H) Q) in
    let whole' : H ∣ w = dvd_trans H divides (round-divides (round_up n H + e) Q) in
    let over = round-above (n + round_up e H) Q positive in
    let over' = round-above (round_up n H + e) Q positive in
    let first = round-least n H (v - round_up e H) some (dvd-sub H whole (round-divides e H)) (omega (arith, over)) in
    let second = round-least e H (w - round_up n H) some (dvd-sub H whole' (round-divides n H)) (omega (arith, over')) in
    let e_above = round-above e H some in
    let n_above = round-above n H some in
    let le = round-least (round_up n H + e) Q v positive (round-divides (n + round_up e H) Q) (omega (arith, over, first, e_above)) in
    let ge = round-least (n + round_up e H) Q w positive (round-divides (round_up n H + e) Q) (omega (arith, over', second, n_above)) in
    omega (arith, le, ge)

pub round-one : (P : ℕ) → 0 < P → round_up 1 P ≡ P
round-one P positive = grind (arith, nat_tests)

pub round-whole : (n P : ℕ) → 0 < P → P ∣ n → round_up n P ≡ n
round-whole n P positive dn = grind (arith, nat_tests, round-above, round-least)
