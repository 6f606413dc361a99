-- Where a process has room, the node of its next child is nobody's.
use Rattle.dk_recount.proofs.Names.{◌≡◌, ◌<◌, ◌≤◌, ◌+◌, ◌*◌, inl, inr, true, false, eqb, ℕ, [], ◌∷◌, length, Some, ap, sym, subst, arith, slice_get, option_map_or, cases_Bool, eq-eqb, eqb-true, ltb-true, slice_get_within, MAX_CHILDREN, MAX_THREADS, ThreadId, Has, list_any-has, ThreadRow, Family, has_slot, is_taken, Table, AreFamilies, rows_of, children_at, most_at, free_slot, has_room, stands, FreesSlots, HasRow, row-slot, some-family, node_in, free_node, nat_tests}
use Rattle.dk_recount.proofs.Rows.{slot-is}

apart-numbers : (p q s f : ℕ) → s ≤ MAX_CHILDREN → f ≤ MAX_CHILDREN → MAX_THREADS * q + s ≡ MAX_THREADS * p + f → (q ≡ p) × (s ≡ f)
apart-numbers p q s f low high same = (omega (arith, low, high, same), omega (arith, low, high, same))

module _ (frees : FreesSlots) (table : Table) (p : ℕ) (are : AreFamilies table.levels table.families) (room : has_room table p ≡ true) (standing : stands table p ≡ true) where
  fam : (f : Family) × (slice_get table.families p ≡ Some f)
  fam = some-family table p standing

  rows-p : rows_of table p ≡ fam.0.main ∷ fam.0.children
  rows-p = ap (λ o. option_map_or (λ (z : Family). z.main ∷ z.children) o []) fam.1

  children-p : children_at table p ≡ fam.0.children
  children-p = ap (λ o. option_map_or (λ (z : Family). z.children) o []) fam.1

  few : length (children_at table p) < MAX_CHILDREN
  few =
      let less = ltb-true (length (children_at table p)) (most_at table p) room in
      let most : most_at table p ≡ fam.0.most = ap (λ o. option_map_or (λ (z : Family). z.most) o 0) fam.1 in
      let high = (are p fam.0 fam.1).few in
      omega (arith, less, most, high)

  pub free-here : (1 ≤ free_slot (children_at table p)) × (free_slot (children_at table p) ≤ MAX_CHILDREN) × (is_taken (children_at table p) (free_slot (children_at table p)) ≡ false)
  free-here = frees (children_at table p) few

  pub not-free : (y : ThreadId) (h : HasRow table y) → node_in table y ≡ free_node table p → ⊥
  not-free y h same =
      let low = row-slot table y.process h.row are h.among in
      let slot = slot-is table y h in
      let free = free-here in
      let sums : MAX_THREADS * y.process + h.row.slot ≡ MAX_THREADS * p + free_slot (children_at table p) = omega (arith, slot, same) in
      let both = apart-numbers p y.process h.row.slot (free_slot (children_at table p)) low free.1 sums in
      let among : Has (fam.0.main ∷ fam.0.children) h.row = subst (λ rows. Has rows h.row) rows-p (subst (λ k. Has (rows_of table k) h.row) both.0 h.among) in
      elim among [
        | inl is ↦
            let none-slot = (are p fam.0 fam.1).main_slot in
            let a : fam.0.main.slot ≡ h.row.slot = ap (λ (r : ThreadRow). r.slot) is in
            let b = both.1 in
            let low' = free.0 in
            omega (arith, none-slot, a, b, low')
        | inr has ↦
            let on : has_slot (free_slot (children_at table p)) h.row ≡ true = eq-eqb h.row.slot (free_slot (children_at table p)) both.1 in
            let taken = list_any-has (has_slot (free_slot (children_at table p))) (children_at table p) h.row (subst (λ rows. Has rows h.row) (sym children-p) has) on in
            let off = free.2 in
            absurd (cc)
      ]

  pub apart : (y : ThreadId) → HasRow table y → eqb (free_node table p) (node_in table y) ≡ false
  apart y h =
      elim (cases_Bool (eqb (free_node table p) (node_in table y))) [
        | inl on ↦ absurd (not-free y h (sym (eqb-true (free_node table p) (node_in table y) on)))
        | inr off ↦ off
      ]

  pub below-nodes : free_node table p < MAX_THREADS * length table.families
  below-nodes = grind (arith, nat_tests, slice_get_within, fam, free-here)
