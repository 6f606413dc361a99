-- The words of a test case: none has a byte with which markup begins or ends.
use Rattle.std.specs.Prelude.{ℕ, ◌≡◌, ◌==◌, ◌||◌, Bool, not, true, Option, List}
use Rattle.std.specs.List.{list_all}
use Rattle.dk_needs.specs.declared.needs.Need.{Need}
use Rattle.dk_needs.specs.declared.needs.Tick.{Tick}
use Rattle.dk_needs.specs.Keys.{key_name, section_key}
use Rattle.dk_needs_check.specs.declared.row.Answer.{Answer}
use Rattle.dk_needs_text.specs.Csv.{measure_field}
use Rattle.dk_needs_text.specs.Junit.{behind_space}
use Rattle.dk_needs_text.specs.Text.{answer_text}

-- none of & < > ' and "
abbrev pub is_unmarked : ℕ → Bool
is_unmarked b = not ((((b == 38 || b == 60) || b == 62) || b == 39) || b == 34)

abbrev pub NeedsNoEscape : List ℕ → Type 0
NeedsNoEscape words = list_all is_unmarked words ≡ true

-- the values of the attributes of a case
pub record NeedNoEscapes (names : List (List ℕ)) (tick : Option Tick) (need : Need) (a : Answer) : Type 0 where
  pub section : NeedsNoEscape (key_name (section_key need.place.section))
  pub id : NeedsNoEscape need.id
  pub measure : NeedsNoEscape (behind_space (measure_field a))
  pub message : NeedsNoEscape (answer_text names tick need.what a)
