-- Rows that are found one by one.
use Rattle.std.proofs.Common.{ℕ, suc, ◌≡◌, ◌+◌, ◌++◌, List, [], ◌∷◌, subst, arith}
use Rattle.dk_loader.specs.Workload.{Workload}
use Rattle.show_impact.specs.declared.row.Row.{Row}
use Rattle.show_impact.specs.Impacts.{AreRows, IsRow}

-- the next row was found
pub one_row : (old new : Workload) (n : ℕ) (rows more : List Row) (row : Row) → AreRows old new n rows → IsRow old new n row → more ≡ rows ++ row ∷ [] → AreRows old new (n + 1) more
one_row old new n rows more row are is all =
    let next : suc n ≡ n + 1 = omega arith in
    subst (λ k. AreRows old new k more) next (rows, row, are, is, all)
