-- What asks take together with a base: the sum of the fractions, and the same in windows of the greatest period that one gets.
use Rattle.dk_plan.proofs.Names.{◌≡◌, ◌∙◌, sym, ap, ℕ, ◌+◌, ◌*◌, ◌/◌, ◌^◌, ◌<◌, ◌≤◌, List, [], ◌∷◌, length, max, arith, refl, ◌⊎◌, inl, inr, All, All-head, All-tail, sum_by-cons, mul-div_cancel, mul-pos, MAX_SPAN, Ask, AreAsks, IsAsk, fraction_sum, longest_got, part_of, period_got, ticks_in, nat_tests}
use Rattle.dk_plan.specs.Base.{utilisation}
use Rattle.dk_plan.proofs.Doubles.{double_divides, period_got-double, period_got-positive, period_got-of_double}

-- asks for a base are asks for a shorter one
pub asks_for : (longest base : ℕ) (asks : List Ask) → base ≤ longest → AreAsks longest asks → AreAsks base asks
asks_for longest base asks h are = grind (arith, nat_tests)

pub base_short : (longest : ℕ) (asks : List Ask) → AreAsks longest asks → longest ≤ MAX_SPAN
base_short longest [] are = let wrong = are.some in absurd (omega (arith, wrong))
base_short longest (ask ∷ asks) are = let is = All-head (IsAsk longest) ask asks are.each in let long = is.long in let short = is.period in omega (arith, long, short)

-- an ask more
joined : (b q d n s w t r : ℕ) → t ≡ r → w ≡ r * q → s * d ≡ n * w → (b * t + s) * (q * d) ≡ (b * d + n * q) * w
joined b q d n s w t r t_is w_is rest =
    let own = ap (λ x. b * d * x) w_is in
    let windows = ap (λ x. b * x * (q * d)) t_is in
    let others = ap (λ x. x * q) rest in
    omega (arith, own, windows, others)

module _ (base : ℕ) (some : 1 ≤ base) where
  abbrev got : Ask → ℕ
  got ask = period_got base ask.period

  longer : (a b : ℕ) → (k : ℕ) × (a ≡ base * 2 ^ k) → (k : ℕ) × (b ≡ base * 2 ^ k) → (k : ℕ) × (max a b ≡ base * 2 ^ k)
  longer a b (i, a_is) (k, b_is) =
      elim (less_or_not a b) [
        | inl less ↦ (k, omega (arith, less, b_is))
        | inr not ↦ (i, omega (arith, not, a_is))
      ]
    where
      less_or_not : (a b : ℕ) → (a ≤ b) ⊎ (b < a)
      less_or_not a b = grind arith

  -- the greatest period that an ask gets is a double of the base too
  greatest_is : (asks : List Ask) → 1 ≤ length asks → All (IsAsk base) asks → (k : ℕ) × (longest_got base asks ≡ base * 2 ^ k)
  greatest_is [] h each = absurd (omega arith)
  greatest_is (ask ∷ []) h each =
      let (k, is) = period_got-double base ask.period some (All-head (IsAsk base) ask [] each).long in
      (k, omega (arith, is))
  greatest_is (ask ∷ next ∷ asks) h each =
      let here = period_got-double base ask.period some (All-head (IsAsk base) ask (next ∷ asks) each).long in
      let later = greatest_is (next ∷ asks) (omega arith) (All-tail (IsAsk base) ask (next ∷ asks) each) in
      longer (got ask) (longest_got base (next ∷ asks)) here later

  -- and so a multiple of what each gets
  multiple : (whole k : ℕ) → whole ≡ base * 2 ^ k → (ask : Ask) → IsAsk base ask → got ask ≤ whole → (r : ℕ) × (whole ≡ r * got ask)
  multiple whole k is ask fits most =
      let (i, here) = period_got-double base ask.period some fits.long in
      let (r, times) = double_divides base i k some (omega (arith, is, here, most)) in
      (r, is ∙ times ∙ ap (λ n. r * n) (sym here))

  -- the budgets of whole windows, against the sum of the fractions
  claimed : (whole k : ℕ) → whole ≡ base * 2 ^ k → (asks : List Ask) → All (IsAsk base) asks → longest_got base asks ≤ whole
      → ticks_in base whole asks * (utilisation base asks).denominator ≡ (utilisation base asks).numerator * whole
  unfolding utilisation
  claimed whole k is [] each most = omega arith
  claimed whole k is (ask ∷ asks) each most =
      let fits = All-head (IsAsk base) ask asks each in
      let (r, times) = multiple whole k is ask fits (omega (arith, most)) in
      let rest = claimed whole k is asks (All-tail (IsAsk base) ask asks each) (omega (arith, most)) in
      let windows : whole / got ask ≡ r = ap (λ n. n / got ask) times ∙ mul-div_cancel r (period_got-positive base ask.period some fits.long) in
      rw (sum_by-cons (λ a. a.budget * (whole / got a)) ask asks)
      (joined ask.budget (got ask) (utilisation base asks).denominator (utilisation base asks).numerator (ticks_in base whole asks) whole (whole / got ask) r windows times rest)

  -- whole windows of the greatest period are the sum of the fractions
  pub exact : (asks : List Ask) → AreAsks base asks → (ticks whole : ℕ) → whole ≡ longest_got base asks → ticks ≡ ticks_in base whole asks
      → ticks * (utilisation base asks).denominator ≡ (utilisation base asks).numerator * whole
  exact asks are ticks whole whole_is ticks_is = grind (arith, nat_tests, greatest_is, claimed)

  pub denominator-positive : (asks : List Ask) → All (IsAsk base) asks → 0 < (utilisation base asks).denominator
  unfolding utilisation
  denominator-positive [] each = omega arith
  denominator-positive (ask ∷ asks) each =
      mul-pos (period_got-positive base ask.period some (All-head (IsAsk base) ask asks each).long) (denominator-positive asks (All-tail (IsAsk base) ask asks each))

  pub greatest-positive : (asks : List Ask) → AreAsks base asks → 0 < longest_got base asks
  greatest-positive [] are = let wrong = are.some in absurd (omega (arith, wrong))
  greatest-positive (ask ∷ asks) are =
      let here = period_got-positive base ask.period some (All-head (IsAsk base) ask asks are.each).long in
      omega (arith, here)

  -- the base's double takes as much
  pub utilisation-of_double : (asks : List Ask) → All (IsAsk (2 * base)) asks → utilisation base asks ≡ utilisation (2 * base) asks
  unfolding utilisation
  utilisation-of_double [] each = refl
  utilisation-of_double (ask ∷ asks) each =
      let same = period_got-of_double base ask.period some (All-head (IsAsk (2 * base)) ask asks each).long in
      let rest = utilisation-of_double asks (All-tail (IsAsk (2 * base)) ask asks each) in
      ap (λ q. fraction_sum (record { numerator = ask.budget; denominator = q }) (utilisation base asks)) (sym same)
      ∙ ap (λ u. fraction_sum (part_of (2 * base) ask) u) rest
