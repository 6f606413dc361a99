-- Rows of which none is due stay as they are.
use Rattle.dk_threads.proofs.Names.{◌≡◌, ℕ, false, List, [], ◌∷◌, map, refl, or_parts, filter_map, list_any, ThreadRow, ends_at, kept, started, starts_at, nat_tests, arith}

same-row : (now : ℕ) (row : ThreadRow) → starts_at now row ≡ false → started now row ≡ row
same-row now row early = rw early refl

-- where none starts
pub none-starts : (now : ℕ) (rows : List ThreadRow) → list_any (starts_at now) rows ≡ false → map (started now) rows ≡ rows
none-starts now [] none = refl
none-starts now (row ∷ rows) none = grind (arith, nat_tests, or_parts, same-row, none-starts now rows)

-- where none ends
pub none-ends : (now : ℕ) (rows : List ThreadRow) → list_any (ends_at now) rows ≡ false → filter_map (kept now) rows ≡ rows
none-ends now [] none = refl
none-ends now (row ∷ rows) none = grind (arith, nat_tests, or_parts, none-ends now rows)
