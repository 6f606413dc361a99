-- The numbers of processes by their names.
use Rattle.std.proofs.Common.{ℕ, zero, suc, ◌≡◌, ◌<◌, ◌≤◌, List, [], ◌∷◌, length, refl, arith}
use Rattle.std.specs.Prelude.{Bool, Option, Some, None, map, position, unwrap_or}
use Rattle.std.specs.Str.{bytes_eq}
use Rattle.std.proofs.lemmas.List.Quantifiers.{position-Some}
use Rattle.dk_config.specs.declared.rows.ProcessRow.{ProcessRow}
use Rattle.dk_config.specs.Configuration.{Configuration}
use Rattle.dk_chain.specs.Chain.{AreThere}
use Rattle.dk_chain_report.specs.Finding.{number_of, process_named}

position-below : (test : ProcessRow → Bool) (rows : List ProcessRow) (p : ℕ) → position test rows ≡ Some p → p < length rows
position-below test [] p is = absurd (cc)
position-below test (row ∷ rows) p is = (position-Some test (row ∷ rows) p row is).0

below-or-none : (n : ℕ) (found : Option ℕ) → ((p : ℕ) → found ≡ Some p → p < n) → 1 ≤ n → unwrap_or found 0 < n
below-or-none n None each some = omega (arith, some)
below-or-none n (Some p) each some = each p refl

number-below : (c : Configuration) (name : List ℕ) → 1 ≤ length c.processes → number_of c name < length c.processes
number-below c name some =
    below-or-none (length c.processes) (process_named c name) (position-below (λ (row : ProcessRow). bytes_eq row.name name) c.processes) some

pub numbers-there : (c : Configuration) (names : List (List ℕ)) → 1 ≤ length c.processes → AreThere c (map (number_of c) names)
numbers-there c [] some k d less = absurd (omega (arith, less))
numbers-there c (name ∷ names) some zero d less = number-below c name some
numbers-there c (name ∷ names) some (suc k) d less = numbers-there c names some k d (omega (arith, less))
