-- What always comes before a main only rises with the ticks, so a search from below finds the least number that has room.
use Rattle.std.proofs.Common.{ℕ, suc, ◌≡◌, ◌+◌, ◌-◌, ◌*◌, ◌/◌, ◌<◌, ◌≤◌, inl, inr, length, arith}
use Rattle.std.specs.Prelude.{min, max}
use Rattle.std.proofs.lemmas.Bool.{cases_Bool, cases_lt}
use Rattle.std.proofs.lemmas.Bool.Decides.{nat_tests}
use Rattle.dk_config.specs.Configuration.{Configuration}
use Rattle.dk_config.specs.Checked.{IsChecked}
use Rattle.dk_config.specs.Windows.{period, release, main_level}
use Rattle.dk_config.proofs.Sums.{sum_from-le}
use Rattle.dk_config.specs.Ahead.{windows_begun, ahead, IsEnough}
use Rattle.dk_when.specs.Earliest.{may_hold_off, windows_over, always_ahead, MayHave}
use Rattle.dk_when.proofs.Rising.{begun-rises, div-rises, times-rises}

over-rises : (c : Configuration) (p i f g : ℕ) → 0 < period c i → f ≤ g → windows_over c p i f ≤ windows_over c p i g
over-rises c p i f g positive le =
    elim (cases_Bool (may_hold_off c p i)) [
      | inl may ↦ let more = div-rises f g (period c i) positive le in rw may (omega (arith, more))
      | inr off ↦ let more = begun-rises c i f g positive le in rw off more
    ]

always-rises : (c : Configuration) (p f g : ℕ) → IsChecked c → p < length c.processes → f ≤ g → always_ahead c p f ≤ always_ahead c p g
always-rises c p f g checked here le =
    let known = checked.levels p here in
    sum_from-le 0 (suc (main_level c p)) (λ i. release c i * windows_over c p i f) (λ i. release c i * windows_over c p i g)
    (λ i a b. times-rises (release c i) (windows_over c p i f) (windows_over c p i g) (over-rises c p i f g (checked.positive i (omega arith)) le))

-- no number of ticks below this one has room
pub record Trying (c : Configuration) (p k window least : ℕ) : Type 0 where
  pub within : least ≤ window
  pub short : (f : ℕ) → f < least → f < always_ahead c p f + k

module _ (c : Configuration) (p k window least : ℕ) where
  pub try-step : IsChecked c → p < length c.processes → Trying c p k window least → (needs next : ℕ) → needs ≡ always_ahead c p least + k → next ≡ min needs window
      → Trying c p k window next
  try-step checked here before needs next is smaller = record {
    within = omega arith;
    short =
        λ f low. elim (cases_lt f least) [
          | inl old ↦ before.short f old
          | inr new ↦ let rises = always-rises c p least f checked here (omega arith) in omega (arith, rises, is, smaller, low)
        ];
  }

-- what is enough in every run has room
over-begun : (c : Configuration) (p i f : ℕ) → 0 < period c i → 0 < f → windows_over c p i f ≤ windows_begun c i f
over-begun c p i f positive some =
    elim (cases_Bool (may_hold_off c p i)) [
      | inl may ↦ let one = one-begun (period c i) f positive some in let more = begun-more (period c i) f positive in rw may (omega (arith, one, more))
      | inr off ↦ rw off (omega arith)
    ]
  where
    one-begun : (P f : ℕ) → 0 < P → 0 < f → 1 ≤ (f + (P - 1)) / P
    one-begun P f positive some = grind (arith, nat_tests)

    begun-more : (P f : ℕ) → 0 < P → f / P ≤ (f + (P - 1)) / P
    begun-more P f positive = div-rises f (f + (P - 1)) P positive (omega arith)

always-ahead : (c : Configuration) (p f : ℕ) → IsChecked c → p < length c.processes → 0 < f → always_ahead c p f ≤ ahead c p f
always-ahead c p f checked here some =
    let known = checked.levels p here in
    let kernel = sum_from-le 0 (suc (main_level c p)) (λ i. release c i * windows_over c p i f) (λ i. release c i * windows_begun c i f)
    (λ i a b. times-rises (release c i) (windows_over c p i f) (windows_begun c i f) (over-begun c p i f (checked.positive i (omega arith)) some)) in
    omega (arith, kernel)

pub soon-enough : (c : Configuration) (p k f : ℕ) → IsChecked c → p < length c.processes → 0 < k → IsEnough c p k f → MayHave c p k f
soon-enough c p k f checked here some enough = record {
  within = enough.within;
  room =
      elim enough.room [
        | inl whole ↦ inl whole
        | inr room ↦ let fits = room.1 in let less = always-ahead c p f checked here (omega (arith, fits, some)) in inr (omega (arith, fits, less))
      ];
}
