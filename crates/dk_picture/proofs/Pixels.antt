-- A tick's place and its middle are in the pixels of its bar.
use Rattle.dk_picture.proofs.Names.{ℕ, ◌≡◌, ◌+◌, ◌-◌, ◌*◌, ◌/◌, ◌<◌, ◌≤◌, sym, subst, arith, add-mul, div-mul-le_self, lt-div-mul-add, mul_left_comm, Span, BeginsAt, IsInBar, before, middle_of, place_of, ticks_in}

one_more : (q n : ℕ) → (q + 1) * n ≡ q * n + n
one_more q n = let both = add-mul q 1 n in omega (arith, both)

-- the numbers of a place and of a middle, behind the left edge
place_low : (b n : ℕ) → (b * 960) / n * n ≤ b * 960
place_low b n = div-mul-le_self (b * 960) n

high_of : (b n q : ℕ) → b * 960 < q * n + n → b * 960 < (q + 1) * n
high_of b n q up = let next = one_more q n in omega (arith, up, next)

place_high : (b n : ℕ) → 0 < n → b * 960 < ((b * 960) / n + 1) * n
place_high b n some = high_of b n ((b * 960) / n) (lt-div-mul-add {a = b * 960} {b = n} some)

half_low : (b n q : ℕ) → q * (2 * n) ≤ (2 * b + 1) * 960 → q * n < (b + 1) * 960
half_low b n q down = let half = mul_left_comm q 2 n in omega (arith, down, half)

half_high : (b n q : ℕ) → (2 * b + 1) * 960 < q * (2 * n) + 2 * n → b * 960 < (q + 1) * n
half_high b n q up = let half = mul_left_comm q 2 n in high_of b n q (omega (arith, up, half))

middle_low : (b n : ℕ) → ((2 * b + 1) * 960) / (2 * n) * n < (b + 1) * 960
middle_low b n = half_low b n (((2 * b + 1) * 960) / (2 * n)) (div-mul-le_self ((2 * b + 1) * 960) (2 * n))

middle_high : (b n : ℕ) → 0 < n → b * 960 < (((2 * b + 1) * 960) / (2 * n) + 1) * n
middle_high b n some = half_high b n (((2 * b + 1) * 960) / (2 * n)) (lt-div-mul-add {a = (2 * b + 1) * 960} {b = 2 * n} (omega (arith, some)))

module _ (s : Span) (t : ℕ) where
  some_ticks : 0 < ticks_in s
  some_ticks = omega arith

  within : t ≤ s.to → before s t ≡ t - s.from
  within low = omega (arith, low)

  behind_left : (x : ℕ) → 200 + x - 200 ≡ x
  behind_left x = omega arith

  pub begins_at_place : t ≤ s.to → BeginsAt s t (place_of s t)
  begins_at_place low =
      let n = ticks_in s in
      let q = (before s t * 960) / n in
      let back = behind_left q in
      let ticks = within low in
      record {
        inside = omega arith;
        low = subst (λ y. y * n ≤ (t - s.from) * 960) (sym back) (subst (λ b. q * n ≤ b * 960) ticks (place_low (before s t) n));
        high = subst (λ y. (t - s.from) * 960 < (y + 1) * n) (sym back) (subst (λ b. b * 960 < (q + 1) * n) ticks (place_high (before s t) n some_ticks));
      }

  pub middle_in_bar : t < s.to → IsInBar s t (middle_of s t)
  middle_in_bar low =
      let n = ticks_in s in
      let q = ((2 * before s t + 1) * 960) / (2 * n) in
      let back = behind_left q in
      let ticks = within (omega (arith, low)) in
      record {
        inside = omega arith;
        begins = subst (λ y. (t - s.from) * 960 < (y + 1) * n) (sym back) (subst (λ b. b * 960 < (q + 1) * n) ticks (middle_high (before s t) n some_ticks));
        ends = subst (λ y. y * n < (t - s.from + 1) * 960) (sym back) (subst (λ b. q * n < (b + 1) * 960) ticks (middle_low (before s t) n));
      }
