-- The demand cells at the next tick, and at the start.
use Rattle.dk_demand.proofs.Names.{ℕ, suc, ◌≡◌, ◌+◌, ◌<◌, inl, inr, true, false, cond, List, [], ◌∷◌, length, refl, sym, ap, ◌∙◌, subst, arith, slice_index, cases_Bool, nat_tests, Configuration, LevelRow, numbers, below, Clock, clock_at, Entry, blocking, own_demand, remaining_demand, Always, begins, ClockKeeps, WindowsRelease, NothingBlocksAtStart, by_level, at_level, set_to, each_level, released_own, released_remaining, opened_cells, ClockMovesCells, CellsStart, CountsAt, Cells, cells_at_start, next_tick, released_cells}
use Rattle.std.specs.Prelude.{map}
use Rattle.dk_demand.proofs.EachLevel.{one_by_one, by-same, by-nothing, each-changed, set-same}
use Rattle.dk_demand.proofs.Ticking.{ChangesByLevel, lists-of}

pub record ClockLaws (c : Configuration) (e : Entry) (past : List Entry) : Type 0 where
  pub changed : ChangesByLevel
  pub keeps : ClockKeeps c e past
  pub release : WindowsRelease c (e ∷ past)

-- f of the level where its window begins, and else what was there
abbrev where_begins : Configuration → ℕ → (ℕ → ℕ) → ℕ → ℕ → ℕ
where_begins c tick f j n = cond (begins c j tick) (f j) n

where-begins : (c : Configuration) (tick j old new : ℕ) (f : ℕ → ℕ) → (begins c j tick ≡ true → new ≡ f j) → (begins c j tick ≡ false → new ≡ old)
    → where_begins c tick f j old ≡ new
where-begins c tick j old new f here not = grind (arith, nat_tests)

-- what releases do to each list
module _ (c : Configuration) (past : List Entry) where
  abbrev tick : ℕ
  tick = length past

  -- one level's window begins or not
  set-where : (f : ℕ → ℕ) (j : ℕ) (ns : List ℕ) → cond (begins c j tick) (by_level (at_level j (set_to (f j))) ns) ns ≡ by_level (at_level j (where_begins c tick f j)) ns
  set-where f j ns = grind (arith, nat_tests, by-same, by-nothing)

  abbrev one : ℕ → Cells → Cells
  one j d = cond (begins c j tick) (released_cells j (released_own c past j) (released_remaining c past j) (slice_index d.blocking j) d) d

  one-own : (j : ℕ) (d : Cells) → (one j d).own ≡ cond (begins c j tick) (by_level (at_level j (set_to (released_own c past j))) d.own) d.own
  one-own j d = elim (cases_Bool (begins c j tick)) [ inl now ↦ rw now refl | inr later ↦ rw later refl ]

  one-remaining : (j : ℕ) (d : Cells) → (one j d).remaining ≡ cond (begins c j tick) (by_level (at_level j (set_to (released_remaining c past j))) d.remaining) d.remaining
  one-remaining j d = elim (cases_Bool (begins c j tick)) [ inl now ↦ rw now refl | inr later ↦ rw later refl ]

  one-blocking : (j : ℕ) (d : Cells) → (one j d).blocking ≡ d.blocking
  one-blocking j d = elim (cases_Bool (begins c j tick)) [ inl now ↦ rw now (set-same d.blocking j) | inr later ↦ rw later refl ]

  one-windows : (j : ℕ) (d : Cells) → (one j d).windows ≡ d.windows
  one-windows j d = elim (cases_Bool (begins c j tick)) [ inl now ↦ rw now refl | inr later ↦ rw later refl ]

  opened-own : (js : List ℕ) (d : Cells) → (opened_cells c past js d).own ≡ one_by_one (where_begins c tick (released_own c past)) js d.own
  opened-own [] d = refl
  opened-own (j ∷ js) d = opened-own js (one j d) ∙ ap (one_by_one (where_begins c tick (released_own c past)) js) (one-own j d ∙ set-where (released_own c past) j d.own)

  opened-remaining : (js : List ℕ) (d : Cells) → (opened_cells c past js d).remaining ≡ one_by_one (where_begins c tick (released_remaining c past)) js d.remaining
  opened-remaining [] d = refl
  opened-remaining (j ∷ js) d =
      opened-remaining js (one j d) ∙ ap (one_by_one (where_begins c tick (released_remaining c past)) js) (one-remaining j d ∙ set-where (released_remaining c past) j d.remaining)

  opened-blocking : (js : List ℕ) (d : Cells) → (opened_cells c past js d).blocking ≡ d.blocking
  opened-blocking [] d = refl
  opened-blocking (j ∷ js) d = opened-blocking js (one j d) ∙ one-blocking j d

  opened-windows : (js : List ℕ) (d : Cells) → (opened_cells c past js d).windows ≡ d.windows
  opened-windows [] d = refl
  opened-windows (j ∷ js) d = opened-windows js (one j d) ∙ one-windows j d

  -- of lists that are right but for the releases
  opened-counts : (d : Cells) (own remaining : ℕ → ℕ) → ChangesByLevel → d.windows ≡ clock_at c tick
      → d.own ≡ each_level c own → d.remaining ≡ each_level c remaining → d.blocking ≡ each_level c (blocking c past)
      → ((j : ℕ) → j < length c.levels → where_begins c tick (released_own c past) j (own j) ≡ own_demand c tick past j)
      → ((j : ℕ) → j < length c.levels → where_begins c tick (released_remaining c past) j (remaining j) ≡ remaining_demand c tick past j)
      → CountsAt c tick past (opened_cells c past (below (length c.levels)) d)
  opened-counts d own remaining changed windows owns remains blocks own-right remaining-right =
      let done = opened_cells c past (below (length c.levels)) d in
      let at : done.windows ≡ clock_at c tick = opened-windows (below (length c.levels)) d ∙ windows in
      let is : done.windows.tick ≡ tick = ap (λ (w : Clock). w.tick) at in
      let own_list : done.own ≡ each_level c (own_demand c tick past) =
      opened-own (below (length c.levels)) d ∙ ap (one_by_one (where_begins c tick (released_own c past)) (below (length c.levels))) owns
      ∙ each-changed c (where_begins c tick (released_own c past)) own (own_demand c tick past) (λ f right. changed c f own (own_demand c tick past) right) own-right in
      let remaining_list : done.remaining ≡ each_level c (remaining_demand c tick past) =
      opened-remaining (below (length c.levels)) d ∙ ap (one_by_one (where_begins c tick (released_remaining c past)) (below (length c.levels))) remains
      ∙ each-changed c (where_begins c tick (released_remaining c past)) remaining (remaining_demand c tick past) (λ f right. changed c f remaining (remaining_demand c tick past) right) remaining-right in (
        record {
          windows = at ∙ ap (clock_at c) (sym is);
          own = subst (λ t. done.own ≡ each_level c (own_demand c t past)) (sym is) own_list;
          remaining = subst (λ t. done.remaining ≡ each_level c (remaining_demand c t past)) (sym is) remaining_list;
          blocking = opened-blocking (below (length c.levels)) d ∙ blocks;
        },
        is,
      )

pub clock-cells : (c : Configuration) (e : Entry) (past : List Entry) → ClockLaws c e past → ClockMovesCells c e past
clock-cells c e past laws d counts =
    let n = length past in
    let es = e ∷ past in
    let lists = lists-of c n es d counts in
    let tick : d.windows.tick + 1 ≡ suc n = (let at = counts.1 in omega (arith, at)) in
    opened-counts c es (record d { windows = next_tick d.windows }) (own_demand c n es) (remaining_demand c n es) laws.changed
    (ap next_tick counts.0.windows ∙ ap (clock_at c) tick) lists.own_is lists.remaining_is lists.blocks_is
    (λ j known. where-begins c (suc n) j (own_demand c n es j) (own_demand c (suc n) es j) (released_own c es) (laws.release.own j known) (laws.keeps.own j known))
    (λ j known. where-begins c (suc n) j (remaining_demand c n es j) (remaining_demand c (suc n) es j) (released_remaining c es) (laws.release.remaining j known) (laws.keeps.remaining j known))

zeros : (rows : List LevelRow) (low : ℕ) (f : ℕ → ℕ) → ((j : ℕ) → f j ≡ 0) → map (λ (row : LevelRow). 0) rows ≡ map f (numbers low (length rows))
zeros [] low f none = refl
zeros (row ∷ rows) low f none = grind (arith, nat_tests, zeros rows)

begins-first : (c : Configuration) (j : ℕ) → begins c j 0 ≡ true
begins-first c j = grind (arith, nat_tests)

pub cells-start : ChangesByLevel → Always WindowsRelease → NothingBlocksAtStart → CellsStart
cells-start changed releases nothing c checked accepted =
    let at = releases c [] checked accepted tt in
    opened-counts c [] (cells_at_start c) (λ j. 0) (λ j. 0) changed refl
    (zeros c.levels 0 (λ j. 0) (λ j. refl)) (zeros c.levels 0 (λ j. 0) (λ j. refl)) (zeros c.levels 0 (blocking c []) (nothing c))
    (λ j known. where-begins c 0 j 0 (own_demand c 0 [] j) (released_own c []) (at.own j known) (λ off. let on = begins-first c j in absurd (cc)))
    (λ j known. where-begins c 0 j 0 (remaining_demand c 0 [] j) (released_remaining c []) (at.remaining j known) (λ off. let on = begins-first c j in absurd (cc)))
