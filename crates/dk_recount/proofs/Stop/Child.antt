-- Tables of a charged tick in which a child is stopped are those of the booked one once it is stopped.
use Rattle.dk_recount.proofs.Names.{◌≡◌, ◌<◌, List, ◌∷◌, length, Some, ap, sym, subst, arith, slice_get_within, Configuration, user-mutex, ThreadId, Label, Entry, quiet, Has, Thread, family, has-aged, holding-some, find-has, map-has, filter_map-has, quiet-stops, family-charged, HoldersKnown, FamiliesStand, ThreadRow, is_row_of, Table, rows_of, find_row, row_at, counted_rows, unplaced, AreThreads, row-says, RowOf, rows-family, AreMutexes, nat_tests}

-- which thread a row is of
pub thread-of-row : (c : Configuration) (label : Label) (past : List Entry) (table : Table) (row : ThreadRow) → AreThreads c (length past) (quiet label ∷ past) table
    → FamiliesStand c past → find_row table row.id ≡ Some row → (x : Thread) × RowOf c past row x
thread-of-row c label past table row is families found =
    let p = row.id.process in
    let r = find-has (is_row_of row.id) (rows_of table p) row found in
    let f = rows-family table p row r.0 in
    let low = slice_get_within table.families p f.0 f.1 in
    let many = is.processes in
    let known : p < length c.processes = omega (arith, low, many) in
    let counted : Has (counted_rows c (length past) (quiet label ∷ past) p) (unplaced row) =
    subst (λ rows. Has rows (unplaced row)) (is.rows p known) (map-has unplaced (rows_of table p) row r.0) in
    let y = filter_map-has (row_at c (length past)) (family c p (quiet label ∷ past)) (unplaced row) counted in
    let at = row-says c (length past) row y.0 y.2 in
    let among : Has (family c p past) y.0 = subst (λ xs. Has xs y.0) (family-charged c p label past) y.1 in
    let id : y.0.id ≡ row.id = ap (λ (z : ThreadRow). z.id) at.1 in
    let q : p ≡ y.0.id.process = ap (λ (z : ThreadId). z.process) (sym id) in (
      y.0,
      record {
        process = subst (λ k. k < length c.processes) q known;
        family = subst (λ k. Has (family c k past) y.0) q among;
        there = at.0;
        counted = at.1;
        id = id;
        level = ap (λ (z : ThreadRow). z.level) at.1;
      },
    )

-- each mutex that is held after a tick without an event is there
pub mutexes-there : (c : Configuration) (label : Label) (past : List Entry) → HoldersKnown c past → AreMutexes c (quiet label ∷ past)
mutexes-there c label past known x h has = grind (arith, nat_tests, has-aged, quiet-stops, holding-some, user-mutex)
