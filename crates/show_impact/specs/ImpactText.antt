-- What is said of a change.
use Rattle.std.specs.Prelude.{ℕ, ◌≡◌, Bool, true, false, not, if◌then◌else◌, List, [], ◌∷◌, ◌++◌, Option, Some, None, ◌&&◌, nat_lt, length, filter, flat_map, slice_get, decimal}
use Rattle.std.specs.Option.{option_map_or}
use Rattle.dk_config.specs.declared.rows.ProcessRow.{ProcessRow}
use Rattle.dk_config.specs.Configuration.{Configuration}
use Rattle.dk_config.specs.Windows.{process_name}
use Rattle.dk_impact.specs.declared.change.Change.{Change}
use Rattle.show_rows.specs.declared.row.Form.{Form}
use Rattle.show_rows.specs.Lines.{AreLines}
use Rattle.show_rows.specs.Rows.{end_told, head_told, note_told}
use Rattle.show_impact.specs.declared.forms.TheConstants.{COLUMNS}
use Rattle.show_impact.specs.declared.row.Impact.{Impact}
use Rattle.show_impact.specs.declared.row.Row.{Row}
use Rattle.show_impact.specs.declared.told.Fate.{Fate}
use Rattle.show_impact.specs.declared.whole.TheConstants.{COUNTED, COUNTS}
use Rattle.show_impact.specs.Impacts.{is_there}
use Rattle.show_impact.specs.Forms.{told_text}
use Rattle.show_impact.specs.Told.{key_text, told_name, told_of, waits_text}

-- process q of the new configuration, by its row, and a change that it sees, if it sees one
abbrev pub one_text : Form → Configuration → Configuration → Row → ℕ → Option Change → List ℕ
one_text form old new row q change =
    told_text form (process_name new q) (waits_text row.impact) (key_text old new row.impact change) (told_of old new row q change)

-- once for each change that it sees, and where there is none once
abbrev pub row_text : Form → Configuration → Configuration → Row → ℕ → List Change → List ℕ
row_text form old new row q [] = one_text form old new row q None
row_text form old new row q (change ∷ more) = flat_map (λ one. one_text form old new row q (Some one)) (change ∷ more)

abbrev pub IsProcessLine : Form → Configuration → Configuration → List Row → ℕ → List ℕ → Type 0
IsProcessLine form old new rows q line =
    line ≡ option_map_or (λ (row : Row). row_text form old new row q row.changes.items) (slice_get rows q) []

-- process p of the old configuration, if it is gone
abbrev pub IsGoneLine : Form → Configuration → Configuration → ℕ → List ℕ → Type 0
IsGoneLine form old new p line =
    line ≡ (if is_there new (process_name old p) then [] else told_text form (process_name old p) [] [] (told_name Fate.Gone))

-- no process of either configuration has the name
abbrev pub is_unknown : Configuration → Configuration → List ℕ → Bool
is_unknown old new name = not (is_there new name) && not (is_there old name)

-- a name that is that of no process
abbrev pub name_text : Form → Configuration → Configuration → List ℕ → List ℕ
name_text form old new name = if is_unknown old new name then told_text form name [] [] (told_name Fate.Unknown) else []

-- it sees the same, or it is given more and waits in each of its windows
abbrev pub is_told_same : Impact → Bool
is_told_same Impact.Same = true
is_told_same Impact.Waits = true
is_told_same _ = false

abbrev pub is_changed : Impact → Bool
is_changed Impact.Program = true
is_changed Impact.Changed = true
is_changed _ = false

abbrev pub is_open : Impact → Bool
is_open (Impact.Open cause) = true
is_open _ = false

abbrev pub is_new : Impact → Bool
is_new Impact.New = true
is_new _ = false

abbrev pub is_alone : Impact → Bool
is_alone Impact.PeriodAlone = true
is_alone _ = false

abbrev pub is_if_it_waits : Impact → Bool
is_if_it_waits (Impact.IfItWaits waiting) = true
is_if_it_waits _ = false

-- no process of the new configuration has its name
abbrev pub is_gone : Configuration → ProcessRow → Bool
is_gone new row = not (is_there new row.name)

-- how many of the processes are told so
abbrev pub how_many : (Impact → Bool) → List Row → ℕ
how_many told rows = length (filter (λ row. told row.impact) rows)

abbrev pub how_many_gone : Configuration → Configuration → ℕ
how_many_gone old new = length (filter (is_gone new) old.processes)

-- how many mains have their budget by a later tick of their windows, and by a sooner one
abbrev pub how_many_later : List Row → ℕ
how_many_later rows = length (filter (λ row. nat_lt row.before row.after) rows)

abbrev pub how_many_sooner : List Row → ℕ
how_many_sooner rows = length (filter (λ row. nat_lt row.after row.before) rows)

abbrev pub how_many_unknown : Configuration → Configuration → List (List ℕ) → ℕ
how_many_unknown old new names = length (filter (is_unknown old new) names)

-- a line that a table hasn't
abbrev pub count_told : Form → Configuration → Configuration → List Row → List (List ℕ) → List ℕ
count_told form old new rows names =
    note_told form COUNTED.now COUNTS.now
    (decimal (how_many is_told_same rows) ∷ decimal (how_many is_changed rows) ∷ decimal (how_many is_open rows) ∷ decimal (how_many is_new rows)
    ∷ decimal (how_many_gone old new) ∷ decimal (how_many is_alone rows) ∷ decimal (how_many is_if_it_waits rows)
    ∷ decimal (how_many_unknown old new names) ∷ decimal (how_many_later rows) ∷ decimal (how_many_sooner rows) ∷ [])

-- the whole: each process of the new configuration, then each that is gone, and each of these names that is that of no process
pub record IsImpactText (form : Form) (old new : Configuration) (rows : List Row) (names : List (List ℕ)) (text : List ℕ) : Type 0 where
  pub processes : List ℕ
  pub gone : List ℕ
  pub process_lines : AreLines (IsProcessLine form old new rows) (length new.processes) processes
  pub gone_lines : AreLines (IsGoneLine form old new) (length old.processes) gone
  pub whole : text
      ≡ head_told form COLUMNS.now
      ++ (processes ++ (gone ++ (flat_map (name_text form old new) names ++ (count_told form old new rows names ++ end_told form))))
