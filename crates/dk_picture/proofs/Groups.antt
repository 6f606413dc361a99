-- The groups that have been read are the first of all, and where one comes behind as many as a picture has, they are too many.
use Rattle.dk_picture.proofs.Names.{ℕ, ◌≡◌, ◌∙◌, ◌++◌, [], ◌∷◌, List, length, sym, ap, arith, append_assoc, length-append, slice_get, flat_map-append, append-nil, LedgerLine, Journal, IsReadable, get_seam, groups, Cutting, HasGiven, groups_in_order, making_of, makings, IsTooMany}

pub too_many : (j : Journal) (gs : List LedgerLine) (g : LedgerLine) (c : Cutting) (from to t : ℕ) → IsReadable j → HasGiven j (gs ++ g ∷ []) c
    → c.from ≡ from → c.to ≡ to → length gs ≡ 4000 → t ≡ g.start → IsTooMany (groups from to j.entries) t
too_many j gs g c from to t readable has is_from is_to full is =
    let order = groups_in_order j (gs ++ g ∷ []) c readable has in
    let all : groups from to j.entries ≡ gs ++ g ∷ order.0 =
    ap (λ n. groups n to j.entries) (sym is_from) ∙ ap (λ n. groups c.from n j.entries) (sym is_to) ∙ order.1 ∙ append_assoc gs (g ∷ []) order.0 in
    let count = ap length all ∙ length-append gs (g ∷ order.0) in
    record {
      more = omega (arith, count, full);
      group = g;
      first = ap (λ xs. slice_get xs 4000) all ∙ ap (slice_get (gs ++ g ∷ order.0)) (sym full) ∙ get_seam gs g order.0;
      tick = is;
    }

-- the line of the next group, where it makes a child
pub one_making : (gs : List LedgerLine) (g : LedgerLine) (old new : List LedgerLine) → old ≡ makings gs → new ≡ old ++ making_of g → new ≡ makings (gs ++ g ∷ [])
one_making gs g old new so_far more =
    more ∙ ap (λ t. t ++ making_of g) so_far ∙ ap (λ t. makings gs ++ t) (sym (append-nil (making_of g))) ∙ sym (flat_map-append making_of gs (g ∷ []))
