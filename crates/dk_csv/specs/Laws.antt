-- What a reader of a table relies on: which bytes no field has, and how many fields a record has.
use Rattle.std.specs.Prelude.{ℕ, ◌≡◌, ◌==◌, ◌||◌, ◌++◌, ◌∷◌, [], Bool, true, not, List, length, map}
use Rattle.std.specs.List.{AllByRecursion, list_all}
use Rattle.dk_trace.specs.declared.Entry.{Entry}
use Rattle.dk_ledger.specs.Heading.{Heading}
use Rattle.dk_groups.specs.Groups.{groups}
use Rattle.dk_overrun_spans.specs.Overruns.{overruns}
use Rattle.dk_csv.specs.Rows.{behind_comma, columns, group_fields}

-- neither a comma nor a quotation mark, and no end of a line
abbrev pub is_bare : ℕ → Bool
is_bare b = not (b == 44 || b == 34 || b == 10 || b == 13)

abbrev pub IsBare : List ℕ → Type 0
IsBare field = list_all is_bare field ≡ true

-- a record of as many fields as there are columns, none of which has such a byte
pub record IsRecord (fs : List (List ℕ)) : Type 0 where
  pub count : length fs ≡ length columns
  pub bare : AllByRecursion IsBare fs

-- the records of a range's table, that of the columns' names first
abbrev pub records : ℕ → ℕ → Heading → List Entry → List (List (List ℕ))
records from to h es = columns ∷ map (group_fields h (overruns h es)) (groups from to es)

-- the fields of a record with a comma between each two, and a line feed
abbrev pub joined : List (List ℕ) → List ℕ
joined [] = 10 ∷ []
joined (f ∷ fs) = (f ++ behind_comma fs) ++ 10 ∷ []
