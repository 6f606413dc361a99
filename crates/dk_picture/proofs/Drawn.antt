-- The bars of groups in turn, and the marks of their events.
use Rattle.dk_picture.proofs.Names.{ℕ, zero, suc, ◌≡◌, ◌∙◌, ◌+◌, ◌-◌, ◌<◌, ◌≤◌, ◌++◌, [], ◌∷◌, List, length, map, drop, sym, ap, subst, refl, arith, length-append, length-drop, append_assoc, None, replicate, append-nil, length-replicate, length-take, map-append, Label, Entry, LedgerLine, Heading, entries_of, AreFilled, AreInTurn, length-entries, groups, slice, whole_slice, Row, bar_of, bars, Mark, marks, marks_at, marks_of, AddUp, AreBarsOf, Cell, cell_of, cells_of, marks_from, groups_filled, groups_in_turn}
use Rattle.std.specs.Prelude.{flat_map}

module _ (h : Heading) (rows : List Row) where
  adds_up : (from s n : ℕ) (gs : List LedgerLine) → AreFilled gs → AreInTurn s gs → from ≤ s → n ≡ (s - from) + length (flat_map entries_of gs) → AddUp (s - from) (bars h rows from gs) n
  adds_up from s n [] filled turn past is = omega (arith, is)
  adds_up from s n (g ∷ gs) filled turn past is =
      let at = turn.0 in
      let own = length-entries g filled.0 in
      let all = length-append (entries_of g) (flat_map entries_of gs) in
      let next : (s + g.count) - from ≡ (s - from) + g.count = omega (arith, past) in (
        omega (arith, at),
        subst (λ x. AddUp x (bars h rows from gs) n) next (adds_up from (s + g.count) n gs filled.1 turn.1 (omega (arith, past)) (omega (arith, is, own, all, past))),
      )

  -- a cell more at the end
  one_more : {A : Type 0} (x : A) (n : ℕ) → replicate (suc n) x ≡ replicate n x ++ x ∷ []
  one_more x zero = refl
  one_more x (suc n) = ap (λ t. x ∷ t) (one_more x n)

  abbrev cell : Entry → Cell
  cell e = cell_of rows e.label

  map_copies : (e : Entry) (n : ℕ) → map cell (replicate n e) ≡ replicate n (cell e)
  map_copies e zero = refl
  map_copies e (suc n) = ap (λ t. cell e ∷ t) (map_copies e n)

  group_cells : (from : ℕ) (g : LedgerLine) → 0 < g.count → cells_of (bar_of h rows from g) ≡ map cell (entries_of g)
  group_cells from g some =
      let quiet : Entry = record { label = g.label; event = None } in
      let last : Entry = record { label = g.label; event = g.event } in
      let count : g.count ≡ suc (g.count - 1) = omega (arith, some) in
      ap (λ n. replicate n (cell last)) count ∙ one_more (cell last) (g.count - 1)
      ∙ ap (λ t. t ++ cell last ∷ []) (sym (map_copies quiet (g.count - 1)))
      ∙ sym (map-append cell (replicate (g.count - 1) quiet) (last ∷ []))

  all_cells : (from : ℕ) (gs : List LedgerLine) → AreFilled gs → flat_map cells_of (bars h rows from gs) ≡ map cell (flat_map entries_of gs)
  all_cells from [] filled = refl
  all_cells from (g ∷ gs) filled =
      ap (λ t. t ++ flat_map cells_of (bars h rows from gs)) (group_cells from g filled.0)
      ∙ ap (λ t. map cell (entries_of g) ++ t) (all_cells from gs filled.1)
      ∙ sym (map-append cell (entries_of g) (flat_map entries_of gs))

  pub bars_drawn : (from to : ℕ) (es : List Entry) → from ≤ to → to ≤ length es → AreBarsOf h rows from to es
  bars_drawn from to es begins within =
      let gs = groups from to es in
      let whole = whole_slice from to es in
      let count = ap length whole in
      let taken = length-take (to - from) (drop from es) in
      let dropped = length-drop from es in
      let none : from - from ≡ 0 = omega arith in
      record {
        add_up = subst (λ x. AddUp x (bars h rows from gs) (to - from)) none
            (adds_up from from (to - from) gs (groups_filled from to es) (groups_in_turn from to es) (omega arith) (omega (arith, count, taken, dropped, begins, within)));
        ticks = all_cells from gs (groups_filled from to es) ∙ ap (map cell) whole;
      }

  -- ---- marks

  abbrev marked : ℕ → List Entry → List Mark
  marked t es = marks_from h rows t es

  marked_both : (t : ℕ) (xs ys : List Entry) → marked t (xs ++ ys) ≡ marked t xs ++ marked (t + length xs) ys
  marked_both t [] ys = let same : t ≡ t + 0 = omega arith in ap (λ n. marked n ys) same
  marked_both t (x ∷ xs) ys =
      let same : (t + 1) + length xs ≡ t + suc (length xs) = omega arith in
      ap (λ m. marks_at h rows t x.label x.event ++ m) (marked_both (t + 1) xs ys ∙ ap (λ n. marked (t + 1) xs ++ marked n ys) same)
      ∙ sym (append_assoc (marks_at h rows t x.label x.event) (marked (t + 1) xs) (marked (t + suc (length xs)) ys))

  no_marks : (label : Label) (t n : ℕ) → marked t (replicate n (record { label = label; event = None })) ≡ []
  no_marks label t zero = refl
  no_marks label t (suc n) = no_marks label (t + 1) n

  group_marks : (g : LedgerLine) → marks_of h rows g ≡ marked g.start (entries_of g)
  group_marks g =
      let quiet : Entry = record { label = g.label; event = None } in
      let last : Entry = record { label = g.label; event = g.event } in
      let count = length-replicate (g.count - 1) quiet in
      sym (marked_both g.start (replicate (g.count - 1) quiet) (last ∷ [])
      ∙ ap (λ m. m ++ marked (g.start + length (replicate (g.count - 1) quiet)) (last ∷ [])) (no_marks g.label g.start (g.count - 1))
      ∙ append-nil (marks_at h rows (g.start + length (replicate (g.count - 1) quiet)) g.label g.event)
      ∙ ap (λ n. marks_at h rows (g.start + n) g.label g.event) count)

  all_marks : (s : ℕ) (gs : List LedgerLine) → AreFilled gs → AreInTurn s gs → marks h rows gs ≡ marked s (flat_map entries_of gs)
  all_marks s [] filled turn = refl
  all_marks s (g ∷ gs) filled turn =
      ap (λ m. m ++ marks h rows gs) (group_marks g ∙ ap (λ n. marked n (entries_of g)) turn.0)
      ∙ ap (λ m. marked s (entries_of g) ++ m) (all_marks (s + g.count) gs filled.1 turn.1)
      ∙ ap (λ n. marked s (entries_of g) ++ marked (s + n) (flat_map entries_of gs)) (sym (length-entries g filled.0))
      ∙ sym (marked_both s (entries_of g) (flat_map entries_of gs))

  pub marks_drawn : (from to : ℕ) (es : List Entry) → marks h rows (groups from to es) ≡ marks_from h rows from (slice from to es)
  marks_drawn from to es =
      all_marks from (groups from to es) (groups_filled from to es) (groups_in_turn from to es) ∙ ap (marked from) (whole_slice from to es)
