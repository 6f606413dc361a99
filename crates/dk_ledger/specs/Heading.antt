-- A header, as the lists of its lines, and its text.
use Rattle.std.specs.Prelude.{ℕ, suc, ◌≡◌, ◌≤◌, ◌++◌, ◌∷◌, [], List, length, map, flat_map, decimal, codes, slice_get, true}
use Rattle.std.specs.List.{list_all}
use Rattle.std.specs.Option.{option_map_or}
use Rattle.dk_config.specs.Rules.{is_name}
use Rattle.dk_config.specs.Configuration.{Configuration}
use Rattle.dk_config.specs.declared.rows.ProcessRow.{ProcessRow}
use Rattle.dk_config.specs.declared.TheConstants.{MAX_LEVELS, MAX_PROCESSES}
use Rattle.dk_certify.specs.declared.table.TableRow.{TableRow}
use Rattle.dk_ledger.specs.declared.header.ProcessLine.{ProcessLine}

pub record Heading : Type 0 where
  pub levels : List TableRow
  pub processes : List ProcessLine

-- a line ends with a line feed
abbrev pub ended : List ℕ → List ℕ
ended text = text ++ 10 ∷ []

abbrev pub level_body : ℕ → TableRow → List ℕ
level_body j row =
    codes "level " ++ decimal j ++ codes " period " ++ decimal row.period ++ codes " demand " ++ decimal row.demand
    ++ codes " blocking " ++ decimal row.blocking ++ codes " spare " ++ decimal row.spare

abbrev pub process_body : ProcessLine → List ℕ
process_body p =
    codes "process " ++ p.name ++ codes " level " ++ decimal p.level ++ codes " budget " ++ decimal p.budget

-- the lines of the levels, numbered from j
abbrev pub level_lines : ℕ → List TableRow → List ℕ
level_lines j [] = []
level_lines j (row ∷ rows) = ended (level_body j row) ++ level_lines (suc j) rows

abbrev pub process_lines : List ProcessLine → List ℕ
process_lines ps = flat_map (λ p. ended (process_body p)) ps

abbrev pub header_text : Heading → List ℕ
header_text h = level_lines 0 h.levels ++ process_lines h.processes

-- The names are names of a configuration, and there are not too many lines, so that each fits a line buffer.
pub record IsPrintable (h : Heading) : Type 0 where
  pub levels : length h.levels ≤ MAX_LEVELS
  pub processes : length h.processes ≤ MAX_PROCESSES
  pub names : list_all (λ p. is_name p.name) h.processes ≡ true

abbrev pub name_of : Heading → ℕ → List ℕ
name_of h p = option_map_or (λ line. line.name) (slice_get h.processes p) []

-- the header's line of a process
abbrev pub line_of_row : ProcessRow → ProcessLine
line_of_row row = record { name = row.name; level = row.level; budget = row.budget }

-- the header of a configuration with this table
abbrev pub heading_of : Configuration → List TableRow → Heading
heading_of c table = record { levels = table; processes = map line_of_row c.processes }
