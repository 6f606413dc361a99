-- What is told of a document.
use Rattle.std.specs.Prelude.{ℕ, ◌≡◌, ◌≤◌, ◌<◌, nat_lt, Bool, false, List, ◌++◌, length, take, codes, decimal, slice_get, Some, Result, Ok, Err}
use Rattle.std.specs.List.{list_any}
use Rattle.toml.specs.Data.{Members}
use Rattle.dk_config.specs.Configuration.{Configuration}
use Rattle.dk_loader.specs.declared.fault.LoadFault.{LoadFault}
use Rattle.dk_loader.specs.declared.fault.LoadFault.TheVariants as why
use Rattle.dk_loader.specs.Reading.{document, shaped}
use Rattle.dk_loader.specs.ShapeFaults.{shape_faults}
use Rattle.dk_config_report.specs.FaultLines.{count_line, faults_text}
use Rattle.dk_config_report.specs.Pages.{AreLines}
use Rattle.dk_document_report.specs.declared.place.Place.{Place}
use Rattle.dk_document_report.specs.Places.{place_after}
use Rattle.dk_document_report.specs.Found.{Told, told_all}
use Rattle.dk_document_report.specs.Reasons.{is_control, told_text}
use Rattle.dk_document_report.specs.Standing.{IsPlaceText, IsReachedIn, is_refused}

-- of a document of this kind
abbrev pub not_toml_text : List ℕ → Place → List ℕ → List ℕ
not_toml_text kind p message = kind ++ (codes ": not TOML: line "
    ++ (decimal p.line
    ++ (codes " column " ++ (decimal p.column ++ (codes ": " ++ (message ++ codes "\nfaults 1\n"))))))

-- a message that fits on the line
pub record IsMessage (message : List ℕ) : Type 0 where
  pub some : 0 < length message
  pub one_line : list_any is_control message ≡ false

-- why it isn't, and a place in the expression with which the bytes are no document any more
pub record IsNotTomlText (kind bytes text : List ℕ) : Type 0 where
  pub start : ℕ
  pub stop : ℕ
  pub at : ℕ
  pub message : List ℕ
  pub is : IsReachedIn bytes is_refused start stop
  pub low : start ≤ at
  pub high : at ≤ stop
  pub fits : IsMessage message
  pub whole : text ≡ not_toml_text kind (place_after (take at bytes)) message

-- what is wrong, with its place
pub record IsToldLine (bytes : List ℕ) (ms : Members) (asked : Bool) (t : Told) (line : List ℕ) : Type 0 where
  pub place : List ℕ
  pub placed : IsPlaceText bytes ms asked t place
  pub whole : line ≡ told_text ms t place

-- of the first hundred the place is told
abbrev pub most_places : ℕ
most_places = 100

-- the line of the i-th thing that is wrong
pub record IsLineAt (bytes : List ℕ) (ms : Members) (told : List Told) (i : ℕ) (line : List ℕ) : Type 0 where
  pub thing : Told
  pub is : slice_get told i ≡ Some thing
  pub told_so : IsToldLine bytes ms (nat_lt i most_places) thing line

-- a line for each thing that is wrong, and how many they are
pub record IsTextOf (bytes : List ℕ) (ms : Members) (told : List Told) (text : List ℕ) : Type 0 where
  pub lines : List ℕ
  pub are : AreLines (IsLineAt bytes ms told) (length told) lines
  pub whole : text ≡ lines ++ count_line (length told)

-- of all that is wrong with the keys and kinds of the document, in the order of the tests
pub record IsShapeText (bytes text : List ℕ) : Type 0 where
  pub members : Members
  pub read : document bytes ≡ Some members
  pub told : IsTextOf bytes members (told_all members (shape_faults bytes)) text

abbrev pub TellsOf : List ℕ → Result Configuration LoadFault → List ℕ → Type 0
TellsOf bytes (Ok c) text = text ≡ faults_text c
TellsOf bytes (Err why.NotToml) text = IsNotTomlText (codes "config") bytes text
TellsOf bytes (Err (why.Config f)) text = IsShapeText bytes text
TellsOf bytes (Err _) text = ⊥

-- Where the document isn't TOML, the place; where it breaks some of C1 to C3, each of these; and else each of C4 to C13
-- that it breaks. Of a document that breaks one of C1 to C3 the rows may stand for nothing, so C4 to C13 aren't told.
abbrev pub Tells : List ℕ → List ℕ → Type 0
Tells bytes text = TellsOf bytes (shaped bytes) text
