-- The marks of ticks, counted one after another.
use Rattle.std.proofs.Common.{ℕ, suc, ◌≡◌, ◌∙◌, ◌+◌, List, sym, ap, arith}
use Rattle.std.specs.Prelude.{Bool, true, false, if◌then◌else◌}
use Rattle.dk_overrun_spans.specs.declared.overrun.Overrun.{Overrun}
use Rattle.dk_overrun_spans.specs.Marks.{AreMarks, is_last, is_marked, overran_in}

module _ (os : List Overrun) (tick left found : ℕ) where
  counted : (b : Bool) → found + ((if b then 1 else 0) + overran_in os (tick + 1) left) ≡ (if b then (found + 1) else found) + overran_in os (tick + 1) left
  counted true = omega arith
  counted false = omega arith

  pub one-counted : (marks : List Bool) → AreMarks os marks → found + overran_in os tick (suc left) ≡ (if is_marked marks tick then (found + 1) else found) + overran_in os (tick + 1) left
  one-counted marks are =
      ap (λ n. found + ((if is_last os tick then 1 else 0) + overran_in os n left)) (let next : suc tick ≡ tick + 1 = omega arith in next)
      ∙ ap (λ b. found + ((if b then 1 else 0) + overran_in os (tick + 1) left)) (sym (are tick)) ∙ counted (is_marked marks tick)
