-- The names of the processes.
use Rattle.std.specs.Prelude.{ℕ, ◌≡◌, true, List, [], map, slice_index_or}
use Rattle.std.specs.List.{list_all}
use Rattle.dk_config.specs.Configuration.{Configuration}
use Rattle.dk_config.specs.Rules.{is_name}

-- in the order of the rows
abbrev pub process_names : Configuration → List (List ℕ)
process_names c = map (λ row. row.name) c.processes

-- spelled as a configuration has them
abbrev pub AreNamed : List (List ℕ) → Type 0
AreNamed names = list_all is_name names ≡ true

-- of the process of this number
abbrev pub name_at : List (List ℕ) → ℕ → List ℕ
name_at names p = slice_index_or names p []
