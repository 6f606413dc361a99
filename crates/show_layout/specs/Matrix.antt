-- What each part of a configuration takes of a window of each level, as one matrix.
use Rattle.std.specs.Prelude.{ℕ, ◌≡◌, List, [], ◌∷◌, ◌++◌, length, map, codes, decimal}
use Rattle.dk_config.specs.Configuration.{Configuration}
use Rattle.dk_config.specs.Sums.{below}
use Rattle.dk_config.specs.Windows.{process_name}
use Rattle.csv.specs.Writing.{default_writer, row_text}
use Rattle.show_rows.specs.Lines.{AreLines}
use Rattle.show_rows.specs.Rows.{number_field}
use Rattle.show_layout.specs.declared.takes.Part.{Part}
use Rattle.show_layout.specs.declared.takes.Part.TheVariants as part
use Rattle.show_layout.specs.Takes.{takes}

abbrev pub part_word : Part → List ℕ
part_word part.Period = codes "period"
part_word (part.Release i) = codes "release"
part_word (part.Process p) = codes "process"
part_word part.Demand = codes "demand"
part_word part.Blocking = codes "blocking"
part_word part.Spare = codes "spare"
part_word part.Over = codes "over"

-- the kernel's own work goes by its level
abbrev pub part_name : Configuration → Part → List ℕ
part_name c (part.Release i) = decimal i
part_name c (part.Process p) = process_name c p
part_name c _ = []

-- what the part takes of the level, as a field
abbrev pub taken : Configuration → Part → ℕ → List ℕ
taken c p j = number_field (takes c p j)

-- what the part is, its name, and what it takes of each level
unfoldable pub part_told : Configuration → Part → List ℕ
part_told c p = row_text default_writer (part_word p ∷ part_name c p ∷ map (taken c p) (below (length c.levels)))

-- the kernel's own work of a level
abbrev pub IsReleaseRow : Configuration → ℕ → List ℕ → Type 0
IsReleaseRow c i row = row ≡ part_told c (Part.Release i)

abbrev pub IsProcessRow : Configuration → ℕ → List ℕ → Type 0
IsProcessRow c p row = row ≡ part_told c (Part.Process p)

-- the name of the column of a level, behind a comma
abbrev pub IsLevelColumn : ℕ → List ℕ → Type 0
IsLevelColumn j name = name ≡ codes ",level_" ++ decimal j

-- the whole table: the names of the columns, the parts, and what they come to
pub record IsMatrix (c : Configuration) (text : List ℕ) : Type 0 where
  pub columns : List ℕ
  pub releases : List ℕ
  pub processes : List ℕ
  pub level_columns : AreLines IsLevelColumn (length c.levels) columns
  pub release_rows : AreLines (IsReleaseRow c) (length c.levels) releases
  pub process_rows : AreLines (IsProcessRow c) (length c.processes) processes
  pub whole : text
      ≡ codes "part,name" ++ (columns ++ (codes "\n" ++ (part_told c Part.Period ++ (releases ++ (processes
      ++ (part_told c Part.Demand ++ (part_told c Part.Blocking ++ (part_told c Part.Spare ++ part_told c Part.Over))))))))
