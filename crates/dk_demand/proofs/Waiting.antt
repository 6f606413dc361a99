-- Up to which tick the levels can wait, as long as no cell changes.
use Rattle.dk_demand.proofs.Names.{◌≡◌, ◌+◌, ◌-◌, ◌<◌, ◌≤◌, ℕ, refl, arith, slice_index, nat_tests, end_at, Cells, CanWaitBefore, at_tick}

-- nor does it end before, where the tick is in that one
later-end : (d : Cells) (tick j : ℕ) → d.windows.tick ≤ tick → tick < end_at d.windows j → end_at d.windows j ≤ end_at (at_tick d tick).windows j
later-end d tick j more within = grind (arith, nat_tests)

-- a level that has no work can wait
pub waits-idle : (end : ℕ) (d : Cells) (j : ℕ) → slice_index d.own j ≡ 0 → CanWaitBefore end d j
waits-idle end d j none tick now before = rw none refl

-- and one that has some can as long as its window leaves the ticks that it needs and that it may be kept waiting
pub waits-before : (end last : ℕ) (d : Cells) (j : ℕ) → last + slice_index d.remaining j ≡ end_at d.windows j → end ≡ last - slice_index d.blocking j
    → CanWaitBefore end d j
waits-before end last d j left least tick now before =
    let ends = later-end d tick j now (omega (arith, left, least, before)) in
    let fits : slice_index d.remaining j + slice_index d.blocking j + 1 ≤ end_at (at_tick d tick).windows j - tick = omega (arith, left, least, before, ends) in
    grind (arith, nat_tests, fits)
