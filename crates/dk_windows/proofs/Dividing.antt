-- A product with a reciprocal that is rounded up is the quotient.
use Rattle.std.proofs.Common.{◌≡◌, ◌<◌, ◌≤◌, ◌+◌, ◌*◌, ◌/◌, ◌%◌, ◌^◌, ℕ, ap, arith, inl, inr}
use Rattle.std.specs.Int.{div_ceil}
use Rattle.std.proofs.lemmas.Bool.{cases_lt}
use Rattle.std.proofs.lemmas.Grind.{div_ceil_times}
use Rattle.std.proofs.lemmas.Nat.{div-add-mod'}
use Rattle.std.proofs.Math.Nat.{div-eq_of_lt-le, mod-lt, mul-le-mul}
use Rattle.dk_config.specs.declared.TheConstants.{MAX_SPAN}
use Rattle.dk_windows.specs.Periods.{IsPeriod}

-- n is q times p and r more: the product isn't below q times s
low : (n p m s q r : ℕ) → q * p + r ≡ n → s ≤ m * p → q * s ≤ n * m
low n p m s q r is under =
    let one : q * s ≤ q * (m * p) = mul-le-mul (omega arith) under in
    let two : q * (m * p) ≡ q * p * m = grind arith in
    let three : q * p * m ≤ n * m = mul-le-mul (omega arith) (omega arith) in
    omega (arith, one, two, three)

-- and is below the next multiple of s
high : (n p m s q r : ℕ) → q * p + r ≡ n → r < p → m * p < s + p → n * p < s → n * m < (q + 1) * s
high n p m s q r is rest over large =
    elim (cases_lt (n * m) ((q + 1) * s)) [
      | inl less ↦ less
      | inr more ↦
          let one : (q + 1) * s * p ≤ n * m * p = mul-le-mul more (omega arith) in
          let two : n * (m * p) ≤ n * (s + p) = mul-le-mul (omega arith) (omega arith) in
          let three : (n + 1) * s ≤ (q + 1) * p * s = mul-le-mul (omega arith) (omega arith) in
          let four : (q + 1) * p * s ≡ (q + 1) * s * p = grind arith in
          let five : n * m * p ≡ n * (m * p) = grind arith in
          let six : n * (s + p) ≡ n * s + n * p = grind arith in
          let seven : (n + 1) * s ≡ n * s + s = grind arith in
          absurd (omega (arith, one, two, three, four, five, six, seven))
    ]

-- the quotient of n by p is that of its product with m by s, where m is s over p, rounded up
by-product : (n p m s : ℕ) → 0 < p → s ≤ m * p → m * p < s + p → n * p < s → (n * m) / s ≡ n / p
by-product n p m s positive under over large =
    let is = div-add-mod' n p in
    let rest : n % p < p = mod-lt n positive in
    div-eq_of_lt-le s (low n p m s (n / p) (n % p) is under) (high n p m s (n / p) (n % p) is rest over large)

pub windows_in-exact : (n p m : ℕ) → IsPeriod p m → n ≤ MAX_SPAN * 2 ^ 32 → (n * m) / 2 ^ 72 ≡ n / p
windows_in-exact n p m is few =
    let (under, over) = div_ceil_times (2 ^ 72) p is.positive in
    let product = mul-le-mul few is.short in
    let same : m * p ≡ div_ceil (2 ^ 72) p * p = ap (λ k. k * p) is.reciprocal in
    by-product n p m (2 ^ 72) is.positive (omega arith) (omega arith) (omega (arith, product))
