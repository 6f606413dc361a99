-- The rows of a process that haven't been stopped are those of its threads that run.
use Rattle.dk_recount.proofs.Names.{◌≡◌, ◌<◌, ◌≤◌, ◌∙◌, inl, inr, Bool, false, eqb, ℕ, List, [], ◌∷◌, length, map, Some, is_none, ap, sym, subst, arith, filter, filter_map, find, nat_tests, MAX_CHILDREN, Configuration, ThreadId, Label, Entry, quiet, Has, Thread, family, same-id, same-self, filter-has, map-has, find-some, filter_map-has, family-charged, FamiliesStand, ThreadRow, AreChildren, is_row_of, Table, AreFamilies, find_row, is_running, rows_of, row_at, counted_row, unplaced, AreThreads, unplaced-running, running-rows, RowOf, row-says, names-apart, child-slot, family-of, slot-apart, child-later, one-row, node_on}
use Rattle.dk_recount.proofs.Stop.ShutTables.{AreApart}

-- Rows of one process in slots of their own are apart.

nodes-apart : (q r : ThreadRow) → q.slot ≤ MAX_CHILDREN → r.slot ≤ MAX_CHILDREN → (r.slot ≡ q.slot → ⊥) → eqb (node_on q) (node_on r) ≡ false
nodes-apart q r low high apart = grind (arith, nat_tests)

children-apart : (levels low high : ℕ) (rows : List ThreadRow) → AreChildren levels low high rows → AreApart rows
children-apart levels low high [] are = tt
children-apart levels low high (r ∷ rows) are = grind (arith, nat_tests, nodes-apart, child-slot, slot-apart, names-apart, child-later, children-apart levels r.id.serial high rows)

pub family-apart : (table : Table) (p : ℕ) (row : ThreadRow) → AreFamilies table.levels table.families → Has (rows_of table p) row → AreApart (rows_of table p)
family-apart table p row are among =
    let f = family-of table p row are among in
    let is = f.1 in
    subst AreApart (sym f.2) (first f.0.main f.0.children f.0.serials is.main_slot is.main_serial is.children)
  where
    first : (main : ThreadRow) (rows : List ThreadRow) (high : ℕ) → main.slot ≡ 0 → main.id.serial ≡ 0 → AreChildren table.levels 0 high rows → AreApart (main ∷ rows)
    first main rows high slot serial are' = (
      (λ q h.
          let low = (child-slot table.levels 0 high rows q are' h).0 in
          let top = (child-slot table.levels 0 high rows q are' h).1 in
          let later = child-later table.levels 0 high rows q are' h in (
            nodes-apart q main top (omega (arith, slot)) (λ same. omega (arith, same, low, slot)),
            names-apart q main (omega (arith, later, serial)),
          )),
      children-apart table.levels 0 high rows are',
    )

pub filter-apart : (test : ThreadRow → Bool) (rows : List ThreadRow) → AreApart rows → AreApart (filter test rows)
filter-apart test [] apart = tt
filter-apart test (r ∷ rows) apart = grind (arith, nat_tests, filter-has, filter-apart test rows)

module _ (c : Configuration) (label : Label) (past : List Entry) (table : Table) (p : ℕ) (known : p < length c.processes)
    (are : AreFamilies table.levels table.families) (recount : AreThreads c (length past) (quiet label ∷ past) table) (stand : FamiliesStand c past) where
  abbrev now : ℕ
  now = length past

  rows-are : map unplaced (rows_of table p) ≡ filter_map (row_at c now) (family c p past)
  rows-are = recount.rows p known ∙ ap (filter_map (row_at c now)) (family-charged c p label past)

  pub paired : map unplaced (filter is_running (rows_of table p)) ≡ map (counted_row c now) (filter (λ x. is_none x.stop) (family c p past))
  paired = unplaced-running (rows_of table p) ∙ ap (filter is_running) rows-are ∙ running-rows c now (family c p past)

  pub in-family : (y : Thread) → Has (family c p past) y → y.id.process ≡ p
  in-family y h =
      let f = stand p known in
      elim (subst (λ xs. Has xs y) f.rows h) [
        | inl is ↦ ap (λ (z : Thread). z.id.process) (sym is) ∙ ap (λ (i : ThreadId). i.process) f.id
        | inr child ↦ (f.each y child).process
      ]

  -- whose row it is
  pub owner : (r : ThreadRow) → Has (rows_of table p) r → (x : Thread) × RowOf c past r x × (r.id.process ≡ p)
  owner r h =
      let has : Has (filter_map (row_at c now) (family c p past)) (unplaced r) = subst (λ rows. Has rows (unplaced r)) rows-are (map-has unplaced (rows_of table p) r h) in
      let y = filter_map-has (row_at c now) (family c p past) (unplaced r) has in
      let at = row-says c now r y.0 y.2 in
      let process = in-family y.0 y.1 in
      let id : y.0.id ≡ r.id = ap (λ (z : ThreadRow). z.id) at.1 in (
        y.0,
        record {
          process = subst (λ k. k < length c.processes) (sym process) known;
          family = subst (λ k. Has (family c k past) y.0) (sym process) y.1;
          there = at.0;
          counted = at.1;
          id = id;
          level = ap (λ (z : ThreadRow). z.level) at.1;
        },
        sym (ap (λ (i : ThreadId). i.process) id) ∙ process,
      )

  -- and it is found by its name
  pub found-row : (r : ThreadRow) → Has (rows_of table p) r → find_row table r.id ≡ Some r
  found-row r h =
      let process = (owner r h).2 in
      let f = find-some (is_row_of r.id) (rows_of table p) r h (same-self r.id) in
      let serial : r.id.serial ≡ f.0.id.serial = ap (λ (i : ThreadId). i.serial) (same-id r.id f.0.id f.2) in
      let same : f.0 ≡ r = one-row table p f.0 r are f.1 h (sym serial) in
      ap (λ q. find (is_row_of r.id) (rows_of table q)) process ∙ f.3 ∙ ap Some same
