-- The nodes of the threads, before and after the ends and starts of a tick.
use Rattle.dk_recount.proofs.Names.{◌≡◌, ◌<◌, ◌≤◌, ◌+◌, ◌*◌, ◌∙◌, inl, inr, true, false, eqb, ℕ, List, [], ◌∷◌, length, map, Option, Some, None, refl, ap, sym, subst, slice_get, find, filter_map, option_map_or, cases_Bool, slice_get-map, MAX_THREADS, Configuration, ThreadId, Entry, is_same, Has, Thread, family, same-id, same-self, find-has, ThreadRow, Family, is_row_of, ends_at, kept, started, Table, rows_of, find_row, family_ended, family_started, AreFamilies, has_row, end_in_row, AreThreads, rows-apart, row-lasts, row-before, find-left, row-of-thread, row-there, slot_in, node_in, due_threads, node_on, nat_tests, arith}
use Rattle.dk_recount.proofs.Rows.{slot-is}

-- and so are all threads
find-due : (now : ℕ) (t : Table) (i : ThreadId) (row : ThreadRow) → find_row t i ≡ Some row → ends_at now row ≡ false
    → slot_in (due_threads now t) i ≡ row.slot
find-due now t i row found lasts = go (slice_get t.families i.process) refl
  where
    go : (o : Option Family) → slice_get t.families i.process ≡ o → slot_in (due_threads now t) i ≡ row.slot
    go None at =
        let none : None ≡ Some row = ap (λ o. find (is_row_of i) (option_map_or (λ (f : Family). f.main ∷ f.children) o [])) (sym at) ∙ found in
        absurd (cc)
    go (Some f) at =
        let later : slice_get (due_threads now t).families i.process ≡ Some (family_started now (family_ended now f)) = grind (arith, nat_tests, slice_get-map) in
        let before : find (is_row_of i) (f.main ∷ f.children) ≡ Some row = grind (arith, nat_tests) in
        let rows : rows_of (due_threads now t) i.process ≡ f.main ∷ map (started now) (filter_map (kept now) f.children) = grind (arith, nat_tests) in
        ap (λ rs. option_map_or (λ (r : ThreadRow). r.slot) (find (is_row_of i) rs) 0) rows
        ∙ (elim (cases_Bool (is_row_of i f.main)) [
          | inl here ↦ grind (arith, nat_tests)
          | inr other ↦ rw (other, find-left now i f.children row (rw other at before) lasts) refl
        ])

-- A thread that has a row at the next tick keeps its node.
pub node-kept : (c : Configuration) (was now : ℕ) (all : List Entry) (t : Table) (x : Thread) → was ≤ now → AreThreads c was all t
    → x.id.process < length c.processes → Has (family c x.id.process all) x
    → ((y : Thread) → Has (family c x.id.process all) y → y.id ≡ x.id → y ≡ x)
    → has_row c now x ≡ true → node_in (due_threads now t) x.id ≡ node_in t x.id
node-kept c was now all t x le is known among alone there =
    let before = row-before c was now x le there in
    let h = row-there c was all t x is known among before in
    let r = row-of-thread c was all t x.id.process h.row is known h.among in
    let name : r.0.id ≡ x.id = ap (λ (z : ThreadRow). z.id) (sym r.3) ∙ h.name in
    let same : r.0 ≡ x = alone r.0 r.1 name in
    let end : h.row.end ≡ end_in_row c x = ap (λ (z : ThreadRow). z.end) r.3 ∙ ap (end_in_row c) same in
    let lasts : ends_at now h.row ≡ false = ap (λ o. option_map_or (λ tick. eqb tick now) o false) end ∙ row-lasts c now x there in
    ap (λ s. MAX_THREADS * x.id.process + s) (find-due now t x.id h.row h.found lasts ∙ sym (slot-is t x.id h))

-- the node of a row is that of its thread
pub node-of-row : (t : Table) (row : ThreadRow) → AreFamilies t.levels t.families → Has (rows_of t row.id.process) row → node_on row ≡ node_in t row.id
node-of-row t row are h = go (find_row t row.id) refl
  where
    none : (rows : List ThreadRow) → Has rows row → find (is_row_of row.id) rows ≡ None → ⊥
    none [] k off = k
    none (z ∷ rows) (inl is) off =
        let on : is_row_of row.id z ≡ true = subst (λ (r : ThreadRow). is_same row.id r.id ≡ true) (sym is) (same-self row.id) in
        let some : Some z ≡ None = rw on at off in
        absurd (cc)
    none (z ∷ rows) (inr k) off =
        elim (cases_Bool (is_row_of row.id z)) [
          | inl on ↦ let some : Some z ≡ None = rw on at off in absurd (cc)
          | inr other ↦ none rows k (rw other at off)
        ]

    go : (o : Option ThreadRow) → find_row t row.id ≡ o → node_on row ≡ node_in t row.id
    go None at = absurd (none (rows_of t row.id.process) h at)
    go (Some r) at =
        let f = find-has (is_row_of row.id) (rows_of t row.id.process) r at in
        let same : row ≡ r = rows-apart t row.id.process row r are h f.0 (same-id row.id r.id f.1) in
        ap (λ (q : ThreadRow). MAX_THREADS * row.id.process + q.slot) same ∙ ap (λ o. MAX_THREADS * row.id.process + option_map_or (λ (q : ThreadRow). q.slot) o 0) (sym at)
