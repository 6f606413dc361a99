-- Who stands first in a queue is whose wish is the oldest.
use Rattle.dk_slack.proofs.Names.{◌≡◌, ◌∙◌, ℕ, List, [], ap, map, refl, slice_get, sym, slice_get-map, option_map, queue_at, wish_at, wishes_in, Wish, first_node, Wanted}
use Rattle.std.proofs.Common.{Option, Some, None}
use Rattle.std.proofs.Math.ListN.{get_or-map}

module _ (rows : List Wanted) (lists : List (List ℕ)) (level : ℕ) where
  pub front : slice_get (queue_at lists level) 0 ≡ first_node level (wishes_in rows lists)
  front =
      sym (ap (λ (ws : List Wish). option_map (λ (w : Wish). w.node) (slice_get ws 0)) (get_or-map (map (wish_at rows)) lists level [])
      ∙ ap (option_map (λ (w : Wish). w.node)) (slice_get-map (wish_at rows) (queue_at lists level) 0)
      ∙ same (slice_get (queue_at lists level) 0))
    where
      same : (o : Option ℕ) → option_map (λ (w : Wish). w.node) (option_map (wish_at rows) o) ≡ o
      same None = refl
      same (Some n) = refl

  pub nobody : queue_at lists level ≡ [] → first_node level (wishes_in rows lists) ≡ None
  nobody none = sym front ∙ ap (λ (xs : List ℕ). slice_get xs 0) none
