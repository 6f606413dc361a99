-- Which queues stay empty, and who stays first behind them, where a node leaves its queue.
use Rattle.dk_rail.proofs.Names.{ℕ, ◌≡◌, ◌≢◌, false, eqb, List, Option, Some, IfSome, slice_get, ◌∙◌, ap, arith, eqb-false, eqb_tells, length-map, AreQuiet, queue_at, unlinked, without, nat_tests}
use Rattle.std.proofs.Common.{[], ◌∷◌, None}
use Rattle.std.proofs.Math.ListN.{get_or-map}
use Rattle.std.specs.Option.{option_eq}
use Rattle.dk_rail.specs.Waits.{IsFirst}

pub quiet-unlinked : (quiet node : ℕ) (lists : List (List ℕ)) → AreQuiet quiet lists → AreQuiet quiet (unlinked lists node)
quiet-unlinked quiet node lists was k less = get_or-map (without node) lists k [] ∙ ap (without node) (was k less)

-- whoever stands first in a queue stays there
remains : (xs : List ℕ) (x y : ℕ) → y ≢ x → slice_get xs 0 ≡ Some y → slice_get (without x xs) 0 ≡ Some y
remains [] x y other is = absurd (cc)
remains (z ∷ zs) x y other is = grind (arith, nat_tests, eqb_tells)

-- unless it is the one that leaves
pub first-unlinked : (lists : List (List ℕ)) (quiet node : ℕ) (first : Option ℕ) → option_eq eqb first (Some node) ≡ false
    → IfSome first (λ n. IsFirst lists (record { level = quiet; node = n })) → IfSome first (λ n. IsFirst (unlinked lists node) (record { level = quiet; node = n }))
first-unlinked lists quiet node None other is = tt
first-unlinked lists quiet node (Some n) other is = record {
  known = omega (arith, length-map lists (without node), is.known);
  before = quiet-unlinked quiet node lists is.before;
  front = ap (λ (xs : List ℕ). slice_get xs 0) (get_or-map (without node) lists quiet []) ∙ remains (queue_at lists quiet) node n (eqb-false n node other) is.front;
}
