-- What is told of a document of needs that is none.
use Rattle.std.specs.Prelude.{ℕ, ◌≡◌, nat_lt, Bool, List, ◌++◌, length, slice_get, Some}
use Rattle.toml.specs.Data.{Members}
use Rattle.dk_loader.specs.Reading.{document}
use Rattle.dk_config_report.specs.FaultLines.{count_line}
use Rattle.dk_config_report.specs.Pages.{AreLines}
use Rattle.dk_document_report.specs.Telling.{most_places}
use Rattle.dk_needs.specs.declared.fault.Fault.{Fault}
use Rattle.dk_needs_report.specs.Found.{Told, told_all}
use Rattle.dk_needs_report.specs.Placing.{IsPlaceText}
use Rattle.dk_needs_report.specs.Reasons.{told_text}

-- what is wrong, with its place
pub record IsToldLine (bytes : List ℕ) (ms : Members) (asked : Bool) (t : Told) (line : List ℕ) : Type 0 where
  pub place : List ℕ
  pub placed : IsPlaceText bytes ms asked t place
  pub whole : line ≡ told_text ms t place

-- the line of the i-th thing that is wrong
pub record IsLineAt (bytes : List ℕ) (ms : Members) (told : List Told) (i : ℕ) (line : List ℕ) : Type 0 where
  pub thing : Told
  pub is : slice_get told i ≡ Some thing
  pub told_so : IsToldLine bytes ms (nat_lt i most_places) thing line

-- a line for each thing that is wrong, and how many they are
pub record IsTextOf (bytes : List ℕ) (ms : Members) (told : List Told) (text : List ℕ) : Type 0 where
  pub lines : List ℕ
  pub are : AreLines (IsLineAt bytes ms told) (length told) lines
  pub whole : text ≡ lines ++ count_line (length told)

-- all that these faults find in the document, in their order
pub record IsFaultsText (bytes : List ℕ) (found : List Fault) (text : List ℕ) : Type 0 where
  pub members : Members
  pub read : document bytes ≡ Some members
  pub told : IsTextOf bytes members (told_all members found) text
