use Rattle.dk_dispatch.proofs.Names.{◌≡◌, ◌<◌, ◌+◌, ◌∙◌, inl, inr, eqb, ℕ, zero, suc, List, length, map, ap, sym, refl, arith, slice_get, cases_Bool, Clock, level_demand, Configuration, numbers, below, TableRow, row_of, Cells, no_ticks, at_level, by_level, set_to, map-same, own_of, many-numbers, rows-numbers, filled, part_filled, fill-more, fill-none, fill-all}
use Rattle.std.specs.Prelude.{Some}
use Rattle.dk_certify.specs.Verdicts.{rows_of}
use Rattle.dk_dispatch.proofs.reserving.first_cells.Goals as goal

nothing : (c : Configuration) (f : ℕ → ℕ) → no_ticks c ≡ filled f 0 (length c.levels)
nothing c f = rows-numbers 0 c.levels 0 ∙ map-same (λ j. 0) (part_filled f 0) 0 (length c.levels) (λ j h. sym (fill-none f j))

pub loop-level-init : goal.loop-level-init
loop-level-init g c =
    let start = c.at_start-demand.ensures in
    record {
      own = ap (λ (d : Cells). d.own) start ∙ nothing c.args.config.now (own_of c.args.config.now);
      remaining = ap (λ (d : Cells). d.remaining) start ∙ nothing c.args.config.now (level_demand c.args.config.now);
      blocking = ap (λ (d : Cells). d.blocking) start;
      windows = ap (λ (d : Cells). d.windows) start;
    }

get-numbers : {A : Type 0} (f : ℕ → A) (low n i : ℕ) → i < n → slice_get (map f (numbers low n)) i ≡ Some (f (low + i))
get-numbers f low zero i h = absurd (omega arith)
get-numbers f low (suc n) zero h = ap (λ k. Some (f k)) (omega arith)
get-numbers f low (suc n) (suc i) h = get-numbers f (suc low) n i (omega arith) ∙ ap (λ k. Some (f k)) (omega arith)

demand-at : (c : Configuration) (table : List TableRow) (k : ℕ) (row : TableRow) → table ≡ rows_of c → k < length c.levels → slice_get table k ≡ Some row
    → row.demand ≡ level_demand c k
demand-at c table k row are known at =
    let found : Some row ≡ Some (row_of c k) =
    sym at ∙ ap (λ rows. slice_get rows k) are ∙ get-numbers (row_of c) 0 (length c.levels) k known ∙ ap (λ i. Some (row_of c i)) (omega arith) in
    let same : row ≡ row_of c k = cc in
    ap (λ (r : TableRow). r.demand) same

zeros : (c : Configuration) → no_ticks c ≡ map (λ (j : ℕ). 0) (below (length c.levels))
zeros c = rows-numbers 0 c.levels 0

keep-zero : (k j : ℕ) → at_level k (set_to 0) j 0 ≡ 0
keep-zero k j = elim (cases_Bool (eqb j k)) [ inl on ↦ rw on refl | inr off ↦ rw off refl ]

same-cells : (o o' r r' b b' : List ℕ) (w w' : Clock) → o ≡ o' → r ≡ r' → b ≡ b' → w ≡ w'
    → ◌≡◌ {A = Cells} (record { own = o; remaining = r; blocking = b; windows = w }) (record { own = o'; remaining = r'; blocking = b'; windows = w' })
same-cells o o' r r' b b' w w' one two three four = rw (one, two, three, four) refl

pub row-remaining-requires : goal.row-remaining-requires
row-remaining-requires g c =
    let many = ap (λ (k : Configuration). length k.levels) c.config.view_is in
    let rows : length c.args.table.now ≡ length c.args.config.now.levels =
    ap length c.requires.rows ∙ many-numbers (row_of c.args.config.now) 0 (length c.args.config.now.levels) in
    omega (arith, many, rows, c.loop-level-test.true, c.len-level-end.ensures, c.config.inside.levels.ok)

pub loop-level-preserved : goal.loop-level-preserved
loop-level-preserved g c =
    let C = c.args.config.now in
    let k = c.loop-level.level in
    let many = ap (λ (z : Configuration). length z.levels) c.config.view_is in
    let known : k < length C.levels = omega (arith, many, c.loop-level-test.true, c.len-level-end.ensures, c.config.inside.levels.ok) in
    let demand = demand-at C c.args.table.now k c.row-remaining.result c.requires.rows known c.row-remaining.ensures in
    let was = c.loop-level.invariant in
    let cells = c.released.ensures.cells in
    let law = c.cells_are_changed_by_level.ensures.recount in
    record {
      own =
          ap (λ (d : Cells). d.own) cells
          ∙ ap (by_level (at_level k (set_to c.own_of-own.result))) was.own
          ∙ law C (at_level k (set_to c.own_of-own.result)) (part_filled (own_of C) k) (part_filled (own_of C) (k + 1))
          (λ j h. fill-more (own_of C) k c.own_of-own.result j c.own_of-own.ensures);
      remaining =
          ap (λ (d : Cells). d.remaining) cells
          ∙ ap (by_level (at_level k (set_to c.row-remaining.result.demand))) was.remaining
          ∙ law C (at_level k (set_to c.row-remaining.result.demand)) (part_filled (level_demand C) k) (part_filled (level_demand C) (k + 1))
          (λ j h. fill-more (level_demand C) k c.row-remaining.result.demand j demand);
      blocking =
          ap (λ (d : Cells). d.blocking) cells
          ∙ ap (by_level (at_level k (set_to 0))) (was.blocking ∙ zeros C)
          ∙ law C (at_level k (set_to 0)) (λ j. 0) (λ j. 0) (λ j h. keep-zero k j)
          ∙ sym (zeros C);
      windows = ap (λ (d : Cells). d.windows) cells ∙ was.windows;
    }

pub returns : goal.returns
returns g c =
    let C = c.args.config.now in
    let many = ap (λ (z : Configuration). length z.levels) c.config.view_is in
    let all : c.loop-level.level ≡ length C.levels =
    omega (arith, many, c.loop-level-test.false, c.loop-level.auto.level-end, c.len-level-end.ensures, c.config.inside.levels.ok) in
    let was = c.loop-level.invariant in
    same-cells _ _ _ _ _ _ _ _
    (was.own ∙ ap (λ k. filled (own_of C) k (length C.levels)) all ∙ fill-all (own_of C) (length C.levels))
    (was.remaining ∙ ap (λ k. filled (level_demand C) k (length C.levels)) all ∙ fill-all (level_demand C) (length C.levels))
    was.blocking was.windows
