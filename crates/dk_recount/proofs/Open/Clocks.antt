-- Windows from one tick to the next.
use Rattle.dk_recount.proofs.Names.{ℕ, ◌≡◌, ◌∙◌, Option, Some, None, option_map, refl, ap, slice_get, option_map_or, slice_get-map, LevelRow, Configuration, period, clock_at, period_at}

pub period-is : (c : Configuration) (tick i : ℕ) → period_at (clock_at c tick) i ≡ period c i
period-is c tick i = ap (λ o. option_map_or (λ (p : ℕ). p) o 0) (slice_get-map (λ (row : LevelRow). row.period) c.levels i) ∙ go (slice_get c.levels i)
  where
    go : (o : Option LevelRow) → option_map_or (λ (p : ℕ). p) (option_map (λ (row : LevelRow). row.period) o) 0 ≡ option_map_or (λ (row : LevelRow). row.period) o 0
    go None = refl
    go (Some row) = refl
