-- The order of fractions with cross products.
use Rattle.dk_plan.proofs.Names.{ap, ◌*◌, ◌<◌, arith, le_of_mul-le-mul_right, lt_of_mul-lt-mul_right, mul-lt-mul_of_pos_right, mul-le-mul_right, mul-pos, Fraction, IsAtMost, IsBelow, IsSame}

-- two fractions in other words
module _ (a b u v : Fraction) (a_is : IsSame a u) (b_is : IsSame b v) (a_positive : 0 < a.denominator) (b_positive : 0 < b.denominator) where
  pub same_order : IsAtMost a b → IsAtMost u v
  same_order h =
      let wide = mul-le-mul_right (u.denominator * v.denominator) h in
      let left = ap (λ n. n * (v.denominator * b.denominator)) a_is in
      let right = ap (λ n. n * (u.denominator * a.denominator)) b_is in
      le_of_mul-le-mul_right {m = u.numerator * v.denominator} {n = v.numerator * u.denominator} {k = a.denominator * b.denominator} (omega (arith, wide, left, right)) (mul-pos a_positive b_positive)

  pub same_strict_order : 0 < u.denominator → 0 < v.denominator → IsBelow a b → IsBelow u v
  same_strict_order u_positive v_positive h =
      let wide = mul-lt-mul_of_pos_right {k = u.denominator * v.denominator} h (mul-pos u_positive v_positive) in
      let left = ap (λ n. n * (v.denominator * b.denominator)) a_is in
      let right = ap (λ n. n * (u.denominator * a.denominator)) b_is in
      lt_of_mul-lt-mul_right (a.denominator * b.denominator) {m = u.numerator * v.denominator} {n = v.numerator * u.denominator} (omega (arith, wide, left, right))

module _ (a b c : Fraction) (positive : 0 < b.denominator) where
  pub at_most_in_turn : IsAtMost a b → IsAtMost b c → IsAtMost a c
  at_most_in_turn h k =
      let first = mul-le-mul_right c.denominator h in
      let second = mul-le-mul_right a.denominator k in
      le_of_mul-le-mul_right {m = a.numerator * c.denominator} {n = c.numerator * a.denominator} {k = b.denominator} (omega (arith, first, second)) positive
