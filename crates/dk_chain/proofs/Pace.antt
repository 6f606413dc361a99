-- A chain keeps the pace of its slowest level.
use Rattle.dk_chain.proofs.Names.{ℕ, ◌≡◌, ◌+◌, ◌-◌, ◌<◌, ◌≤◌, ap, ◌∙◌, arith, ◌∣◌, dvd_trans, round_up, nat_tests}
use Rattle.dk_chain.proofs.Rounding.{round-divides, round-shift, round-twice}

-- the next process is of a level that is not slower than the slowest so far
pub faster : (n lag gap H Q : ℕ) → 0 < Q → Q ∣ H → round_up (round_up n H + lag + gap) Q ≡ round_up n H + round_up (lag + gap) Q
faster n lag gap H Q positive divides =
    let sum : round_up n H + lag + gap ≡ round_up n H + (lag + gap) = omega arith in
    ap (λ k. round_up k Q) sum ∙ round-shift (round_up n H) (lag + gap) Q positive (dvd_trans Q divides (round-divides n H))

-- it is of a slower level
pub slower : (t lead lag gap H Q : ℕ) → 0 < H → 0 < Q → H ∣ Q
    → round_up (round_up (t + lead) H + lag + gap) Q ≡ round_up (t + (lead + round_up (lag + gap) H)) Q + 0
slower t lead lag gap H Q some positive divides =
    let sum : round_up (t + lead) H + lag + gap ≡ round_up (t + lead) H + (lag + gap) = omega arith in
    let moved : t + lead + round_up (lag + gap) H ≡ t + (lead + round_up (lag + gap) H) = omega arith in
    let none : round_up (t + (lead + round_up (lag + gap) H)) Q ≡ round_up (t + (lead + round_up (lag + gap) H)) Q + 0 = omega arith in
    ap (λ k. round_up k Q) sum ∙ round-twice (t + lead) (lag + gap) H Q some positive divides ∙ ap (λ k. round_up k Q) moved ∙ none

-- each event is answered in so many ticks, and one of them in no fewer
pub enough_of : (f : ℕ → ℕ) (H lead k : ℕ) → 0 < H → ((t : ℕ) → f t ≡ round_up (t + lead) H + k) → (t : ℕ) → f t ≤ t + (lead + k + (H - 1))
enough_of f H lead k positive is t = grind (arith, nat_tests)

pub met_at : (f : ℕ → ℕ) (H lead k : ℕ) → 0 < H → ((t : ℕ) → f t ≡ round_up (t + lead) H + k)
    → f (round_up lead H + 1 - lead) ≡ (round_up lead H + 1 - lead) + (lead + k + (H - 1))
met_at f H lead k positive is = grind (arith, nat_tests)

pub met_of : (f : ℕ → ℕ) (H lead k : ℕ) → 0 < H → ((t : ℕ) → f t ≡ round_up (t + lead) H + k) → (t : ℕ) × (f t ≡ t + (lead + k + (H - 1)))
met_of f H lead k positive is = (round_up lead H + 1 - lead, met_at f H lead k positive is)
