-- The periods that asks get with a base, and what part of the processor they take.
use Rattle.std.specs.Prelude.{ℕ, suc, ◌≡◌, ◌+◌, ◌*◌, ◌/◌, ◌^◌, ◌<◌, ◌≤◌, nat_le, List, [], ◌∷◌, length, map, filter, sum_by, All}
use Rattle.dk_config.specs.Sums.{below, greatest}
use Rattle.dk_config.specs.declared.TheConstants.{MAX_SPAN}
use Rattle.dk_plan.specs.declared.TheConstants.{MAX_ASKS}
use Rattle.dk_plan.specs.declared.harmonising.Ask.{Ask}
use Rattle.dk_plan.specs.declared.harmonising.Fraction.{Fraction}

-- what an ask gets: a double of the base up to the asked period, and no double up to it is greater
pub record Gets (base asked got : ℕ) : Type 0 where
  pub doubled : (k : ℕ) × (got ≡ base * 2 ^ k)
  pub within : got ≤ asked
  pub longest : (k : ℕ) → base * 2 ^ k ≤ asked → base * 2 ^ k ≤ got

-- the greatest double of the base up to the asked period; a base passes the period before it is doubled so often
unfoldable pub period_got : ℕ → ℕ → ℕ
period_got base asked = greatest (filter (λ q. nat_le q asked) (map (λ k. base * 2 ^ k) (below (suc asked))))

abbrev pub fraction_sum : Fraction → Fraction → Fraction
fraction_sum a b = record {
  numerator = a.numerator * b.denominator + b.numerator * a.denominator;
  denominator = a.denominator * b.denominator;
}

-- what one ask takes
abbrev pub part_of : ℕ → Ask → Fraction
part_of base ask = record { numerator = ask.budget; denominator = period_got base ask.period }

-- the sum of each ask's budget divided by the period that it gets
unfoldable pub utilisation : ℕ → List Ask → Fraction
utilisation base [] = record { numerator = 0; denominator = 1 }
utilisation base (ask ∷ asks) = fraction_sum (part_of base ask) (utilisation base asks)

-- the greatest period that an ask gets
abbrev pub longest_got : ℕ → List Ask → ℕ
longest_got base asks = greatest (map (λ ask. period_got base ask.period) asks)

-- what the asks take in a window of this length, each its budget once in each of its own windows
abbrev pub ticks_in : ℕ → ℕ → List Ask → ℕ
ticks_in base window asks = sum_by (λ ask. ask.budget * (window / period_got base ask.period)) asks

-- fractions are compared by their cross products, so nothing is rounded
abbrev pub IsAtMost : Fraction → Fraction → Type 0
IsAtMost a b = a.numerator * b.denominator ≤ b.numerator * a.denominator

abbrev pub IsBelow : Fraction → Fraction → Type 0
IsBelow a b = a.numerator * b.denominator < b.numerator * a.denominator

abbrev pub IsSame : Fraction → Fraction → Type 0
IsSame a b = a.numerator * b.denominator ≡ b.numerator * a.denominator

-- no base of the range takes less
abbrev pub NoneLess : ℕ → ℕ → List Ask → ℕ → Type 0
NoneLess lo hi asks base = (p : ℕ) → lo ≤ p → p ≤ hi → IsAtMost (utilisation base asks) (utilisation p asks)

-- each greater base of the range takes more
abbrev pub GreaterTakeMore : ℕ → List Ask → ℕ → Type 0
GreaterTakeMore hi asks base = (p : ℕ) → base < p → p ≤ hi → IsBelow (utilisation base asks) (utilisation p asks)

-- an ask with numbers from 1 to 1,000,000, whose period is at least the longest base
pub record IsAsk (longest : ℕ) (ask : Ask) : Type 0 where
  pub long : longest ≤ ask.period
  pub period : ask.period ≤ MAX_SPAN
  pub some : 1 ≤ ask.budget
  pub budget : ask.budget ≤ MAX_SPAN

pub record AreAsks (longest : ℕ) (asks : List Ask) : Type 0 where
  pub some : 1 ≤ length asks
  pub few : length asks ≤ MAX_ASKS
  pub each : All (IsAsk longest) asks
