-- The search through the upper half of a range of bases.
use Rattle.dk_plan.proofs.Names.{◌≡◌, ◌∙◌, sym, subst, true, false, ℕ, zero, suc, ◌+◌, ◌*◌, ◌<◌, ◌≤◌, ◌⊎◌, inl, inr, List, refl, arith, le_of_lt, Ask, Fraction, AreAsks, IsAtMost, IsBelow, IsSame, NoneLess, utilisation, nat_tests}
use Rattle.dk_plan.proofs.Fractions.{same_order, same_strict_order, at_most_in_turn}
use Rattle.dk_plan.proofs.Claims.{asks_for, denominator-positive, utilisation-of_double}
use Rattle.dk_plan.proofs.Accepting.{before_or_here}

-- the best of the bases from the first one on and below this one
pub record BestSoFar (asks : List Ask) (first base best : ℕ) (least : Fraction) : Type 0 where
  pub from : first ≤ best
  pub before : best < base
  pub exact : IsSame least (utilisation best asks)
  pub positive : 0 < least.denominator
  pub no_less : (p : ℕ) → first ≤ p → p < base → IsAtMost (utilisation best asks) (utilisation p asks)
  pub no_greater : (p : ℕ) → best < p → p < base → IsBelow (utilisation best asks) (utilisation p asks)

module _ (asks : List Ask) (first base best : ℕ) (least next : Fraction) (some : 1 ≤ first) (are : AreAsks base asks) (so_far : BestSoFar asks first base best least)
    (exact : IsSame next (utilisation base asks)) (positive : 0 < next.denominator) where
  each_positive : (p : ℕ) → first ≤ p → p ≤ base → 0 < (utilisation p asks).denominator
  each_positive p a b = denominator-positive p (omega arith) asks (asks_for base p asks b are).each

  pub better : IsAtMost next least → BestSoFar asks first (base + 1) base next
  better h =
      let from = so_far.from in
      let before = so_far.before in
      let under = same_order next least (utilisation base asks) (utilisation best asks) exact so_far.exact positive so_far.positive h in
      record {
        from = omega (arith, from, before);
        before = omega arith;
        exact = exact;
        positive = positive;
        no_less = λ p a b.
            elim (before_or_here p base b) [
              | inl earlier ↦ at_most_in_turn (utilisation base asks) (utilisation best asks) (utilisation p asks) (each_positive best from (le_of_lt before)) under (so_far.no_less p a earlier)
              | inr here ↦ subst (λ n. IsAtMost (utilisation base asks) (utilisation n asks)) (sym here) (omega arith)
            ];
        no_greater = λ p a b. absurd (omega arith);
      }

  pub worse : IsBelow least next → BestSoFar asks first (base + 1) best least
  worse h =
      let from = so_far.from in
      let before = so_far.before in
      let above = same_strict_order least next (utilisation best asks) (utilisation base asks) so_far.exact exact so_far.positive positive
      (each_positive best from (le_of_lt before)) (each_positive base (omega (arith, from, before)) (omega arith)) h in
      record {
        from = from;
        before = omega (arith, before);
        exact = so_far.exact;
        positive = so_far.positive;
        no_less = λ p a b.
            elim (before_or_here p base b) [
              | inl earlier ↦ so_far.no_less p a earlier
              | inr here ↦ subst (λ n. IsAtMost (utilisation best asks) (utilisation n asks)) (sym here) (le_of_lt above)
            ];
        no_greater = λ p a b.
            elim (before_or_here p base b) [
              | inl earlier ↦ so_far.no_greater p a earlier
              | inr here ↦ subst (λ n. IsBelow (utilisation best asks) (utilisation n asks)) (sym here) above
            ];
      }

-- each base has a double in the upper half that takes as much, itself where it lies there
upper : (asks : List Ask) (hi p steps : ℕ) → AreAsks hi asks → 1 ≤ p → p ≤ hi → hi ≤ p + steps
    → (q : ℕ) × (hi < 2 * q) × (q ≤ hi) × (p ≤ q) × (utilisation p asks ≡ utilisation q asks)
upper asks hi p zero are some fits enough = (p, omega arith, fits, omega arith, refl)
upper asks hi p (suc steps) are some fits enough =
    elim (within_or_not (2 * p) hi) [
      | inl within ↦
          let (q, wide, short, from, same) = upper asks hi (2 * p) steps are (omega arith) within (omega arith) in
          (q, wide, short, omega (arith, from), utilisation-of_double p some asks (asks_for hi (2 * p) asks within are).each ∙ same)
      | inr over ↦ (p, over, fits, omega arith, refl)
    ]
  where
    within_or_not : (a b : ℕ) → (a ≤ b) ⊎ (b < a)
    within_or_not a b = grind arith

-- what is least in the upper half is least of all
pub least_of_all : (asks : List Ask) (lo hi first best : ℕ) → 1 ≤ lo → AreAsks hi asks → ((p : ℕ) → lo ≤ p → hi < 2 * p → first ≤ p)
    → NoneLess first hi asks best → NoneLess lo hi asks best
least_of_all asks lo hi first best some are upper_half no_less p a b =
    let (q, wide, short, from, same) = upper asks hi p hi are (omega arith) b (omega arith) in
    subst (λ u. IsAtMost (utilisation best asks) u) (sym same) (no_less q (upper_half q (omega (arith, from)) wide) short)

pub below_otherwise : (a b : Fraction) → (IsAtMost b a → false ≡ true) → IsBelow a b
below_otherwise a b h = grind (arith, nat_tests)
