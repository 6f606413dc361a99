-- The next child of a process gets a slot of its own, and all others keep theirs.
use Rattle.dk_recount.proofs.Names.{◌≡◌, ◌+◌, ◌*◌, ◌∙◌, ◌⊎◌, inl, inr, ◌++◌, Bool, true, false, eqb, ℕ, [], ◌∷◌, Option, Some, None, option_map, refl, ap, sym, find, slice_get, if◌then◌else◌, option_map_or, option_or, cases_Bool, eqb-true, find-append, MAX_THREADS, ThreadId, same-id, find-has, end_at, ThreadRow, Family, is_row_of, AreFamilies, find_row, free_slot, has_room, new_row, rows_of, serials_at, stands, FreesSlots, HasRow, changed-here, changed-there, begun-found, some-family, Tables, node_in, child_row, free_node, with_child, Adds, HasOwn, IsNewRow, slots, nat_tests, arith}
use Rattle.dk_recount.proofs.Create.Node.{free-here, not-free}

-- the slot of a row that is found
slot-found : (o : Option ThreadRow) (s : ℕ) → option_map (λ (row : ThreadRow). row.slot) o ≡ Some s → (row : ThreadRow) × (o ≡ Some row) × (row.slot ≡ s)
slot-found None s at = absurd (cc)
slot-found (Some row) s at = (row, refl, cc)

module _ (frees : FreesSlots) (d : Tables) (p level quota : ℕ) (are : AreFamilies d.threads.levels d.threads.families)
    (room : has_room d.threads p ≡ true) (standing : stands d.threads p ≡ true) where
  abbrev new : Tables
  new = with_child p level quota d

  abbrev row : ThreadRow
  row = child_row p level d

  abbrev start : ℕ
  start = end_at d.demand.windows level

  fam : (f : Family) × (slice_get d.threads.families p ≡ Some f)
  fam = some-family d.threads p standing

  abbrev last : Family → ThreadRow
  last f = new_row (record { process = p; serial = f.serials + 1 }) level (free_slot f.children) start

  found-new : find_row new.threads row.id ≡ Some row
  found-new = begun-found d.threads p level start are standing

  -- whoever has a row afterwards had it before, or is the new child
  found-after : (y : ThreadId) (r : ThreadRow) → find_row new.threads y ≡ Some r → (find_row d.threads y ≡ Some r) ⊎ ((y ≡ row.id) × (r ≡ row))
  found-after y r found =
      elim (cases_Bool (eqb y.process p)) [
        | inr other ↦ grind (arith, nat_tests, changed-there)
        | inl here ↦ own (eqb-true y.process p here)
      ]
    where
      own : y.process ≡ p → (find_row d.threads y ≡ Some r) ⊎ ((y ≡ row.id) × (r ≡ row))
      own process =
          let f = fam.0 in
          let rows : rows_of d.threads p ≡ f.main ∷ f.children = ap (λ o. option_map_or (λ (z : Family). z.main ∷ z.children) o []) fam.1 in
          let rows' : rows_of new.threads p ≡ (f.main ∷ f.children) ++ last f ∷ [] = grind (arith, nat_tests, changed-here, fam) in
          let joined : option_or (find (is_row_of y) (f.main ∷ f.children)) (find (is_row_of y) (last f ∷ [])) ≡ Some r = grind (arith, nat_tests, find-append) in
          let old : find_row d.threads y ≡ find (is_row_of y) (f.main ∷ f.children) = grind (arith, nat_tests) in
          go (find (is_row_of y) (f.main ∷ f.children)) joined old
        where
          go : (o : Option ThreadRow) → option_or o (find (is_row_of y) (last fam.0 ∷ [])) ≡ Some r → find_row d.threads y ≡ o
              → (find_row d.threads y ≡ Some r) ⊎ ((y ≡ row.id) × (r ≡ row))
          go (Some z) is at = inl (at ∙ is)
          go None is at =
              let named = (find-has (is_row_of y) (last fam.0 ∷ []) r is).1 in
              let last-is = find-only (last fam.0) is in
              let name : y ≡ (last fam.0).id = same-id y r.id named ∙ ap (λ (z : ThreadRow). z.id) last-is in
              let serials : serials_at d.threads p ≡ fam.0.serials = ap (λ o. option_map_or (λ (z : Family). z.serials) o 0) fam.1 in
              let id : y ≡ row.id = name ∙ sym (ap (λ n. record { process = p; serial = n + 1 }) serials) in
              let both : Some row ≡ Some r = sym found-new ∙ sym (ap (find_row new.threads) id) ∙ found in
              inr (id, cc)
            where
              find-only : (z : ThreadRow) → find (is_row_of y) (z ∷ []) ≡ Some r → r ≡ z
              find-only z is' = go' (is_row_of y z) is'
                where
                  go' : (b : Bool) → (if b then Some z else None) ≡ Some r → r ≡ z
                  go' true some = cc
                  go' false none = absurd (cc)

  added : Adds (slots d) (slots new) row.id row.slot
  added = record {
    at = ap (option_map (λ (r : ThreadRow). r.slot)) found-new;
    others = grind (arith, nat_tests, slot-found, found-after);
  }

  own-slot : HasOwn (slots new) row.id row.slot
  own-slot y at process =
      let f = slot-found (find_row new.threads y) row.slot at in
      elim (found-after y f.0 f.1) [
        | inr child ↦ ap (λ (i : ThreadId). i.serial) child.0
        | inl old ↦
            let h = find-has (is_row_of y) (rows_of d.threads y.process) f.0 old in
            let own : HasRow d.threads y = record { row = f.0; found = old; among = h.0; name = sym (same-id y f.0.id h.1) } in
            let slot : node_in d.threads y ≡ MAX_THREADS * y.process + f.0.slot = ap (λ o. MAX_THREADS * y.process + option_map_or (λ (r : ThreadRow). r.slot) o 0) old in
            let same : node_in d.threads y ≡ free_node d.threads p = slot ∙ ap (λ n. MAX_THREADS * n + f.0.slot) process ∙ ap (λ n. MAX_THREADS * p + n) f.2 in
            absurd (not-free frees d.threads p are room standing y own same)
      ]

  pub is-new : (x : ThreadId) → x.process ≡ p → IsNewRow x level d new row
  is-new x process = grind (arith, nat_tests, free-here, added, own-slot)
