-- Which processes the names of a chain are.
use Rattle.std.specs.Prelude.{ℕ, Bool, List, Option, Some, None, if◌then◌else◌, is_some, map, position, unwrap_or}
use Rattle.std.specs.List.{list_all}
use Rattle.std.specs.Str.{bytes_eq}
use Rattle.dk_config.specs.declared.rows.ProcessRow.{ProcessRow}
use Rattle.dk_config.specs.Configuration.{Configuration}

abbrev pub process_named : Configuration → List ℕ → Option ℕ
process_named c name = position (λ (row : ProcessRow). bytes_eq row.name name) c.processes

-- the name is that of a process
abbrev pub is_known : Configuration → List ℕ → Bool
is_known c name = is_some (process_named c name)

-- the number of the process of this name, and 0 where it is that of none
abbrev pub number_of : Configuration → List ℕ → ℕ
number_of c name = unwrap_or (process_named c name) 0

-- the numbers of the processes of these names, where each of them is that of one
abbrev pub processes_named : Configuration → List (List ℕ) → Option (List ℕ)
processes_named c names = if list_all (is_known c) names then Some (map (number_of c) names) else None
