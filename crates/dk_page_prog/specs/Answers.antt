-- What the words and the files come to.
use Rattle.std.specs.Prelude.{ℕ, ◌≡◌, ◌⊎◌, ◌+◌, length, nat_lt, take, List, [], ◌++◌, Option, Some, None, if◌then◌else◌, codes, decimal}
use Rattle.dk_config.specs.declared.TheConstants.{MAX_CONFIG_BYTES, MAX_LEDGER_BYTES}
use Rattle.dk_ledger.specs.Readable.{IsNoText, IsWrongLine}
use Rattle.dk_page.specs.declared.told.Additions.{Additions}
use Rattle.dk_review.specs.Files.{File}
use Rattle.dk_review.specs.Reviews.{IsOfOther, IsReview, IsReviewWith}
use Rattle.dk_review.specs.Runs.{EndsBefore, IsOfLedger as HasLedger}
use Rattle.dk_review.specs.declared.drawing.Range.{Range}
use Rattle.dk_review.specs.declared.reviewing.Ending.{Ending}
use Rattle.dk_review.specs.declared.reviewing.Review.{Review}
use Rattle.dk_page_prog.specs.Asking.{Asking, asked_by}
use Rattle.dk_page_prog.specs.Help.{told_by}
use Rattle.dk_page_prog.specs.declared.help.TheConstants.{USAGE}
use Rattle.dk_page_prog.specs.Repeating.{HasLongProgram, Search, Tells, search_asked}
use Rattle.dk_page_prog.specs.declared.answers.Answer.{Answer}
use Rattle.dk_page_prog.specs.declared.files.Held.{Held}
use Rattle.dk_page_prog.specs.declared.files.LongFile.{LongFile}
use Rattle.dk_page_prog.specs.declared.status.Answered.{Answered}
use Rattle.dk_page_prog.specs.declared.status.Answered.TheVariants as answered
use Rattle.dk_page_prog.specs.declared.status.Status.{Status}
use Rattle.dk_page_prog.specs.declared.status.Status.TheVariants as status

abbrev pub status_number : Status → ℕ
status_number (status.Answered answered.Done) = 0
status_number (status.Answered answered.Usage) = 1
status_number (status.Answered answered.Config) = 2
status_number (status.Answered answered.Uncertified) = 3
status_number (status.Answered answered.Refused) = 4
status_number status.DepotFault = 5
status_number status.SinkFault = 6
status_number status.NoMemory = 7

abbrev pub ended_of : Ending → Answered
ended_of Ending.Certified = answered.Done
ended_of Ending.Failing = answered.Refused
ended_of Ending.Uncertified = answered.Uncertified
ended_of Ending.Refused = answered.Config

-- a page of which this is so, and what the review comes to
pub record IsOfReview (Holds : Review → Type 0) (a : Answer) : Type 0 where
  pub review : Review
  pub is : Holds review
  pub bytes : a.bytes.items ≡ review.bytes.items
  pub ends : a.ended ≡ ended_of review.ending

-- this text, and this end
abbrev pub Says : List ℕ → Answered → Answer → Type 0
Says text ended a = (a.bytes.items ≡ text) × (a.ended ≡ ended)

-- the first line by which the bytes are no ledger
abbrev pub line_text : ℕ → List ℕ
line_text n = codes "ledger: line " ++ (decimal n ++ codes "\n")

abbrev pub IsWrong : List ℕ → Answer → Type 0
IsWrong bytes a = (n : ℕ) × IsWrongLine n bytes × IsNoText bytes × Says (line_text n) answered.Refused a

abbrev pub IsOther : List ℕ → List ℕ → Answer → Type 0
IsOther document bytes a = IsOfOther document bytes × Says (codes "ledger: of another configuration\n") answered.Refused a

-- the range ends behind the last tick of the ledger
abbrev pub ends_text : ℕ → List ℕ
ends_text ticks = codes "range: ledger ends at " ++ (decimal ticks ++ codes "\n")

abbrev pub IsPast : Option Range → List ℕ → Answer → Type 0
IsPast range bytes a = (ticks : ℕ) × HasLedger (EndsBefore range ticks) bytes × Says (ends_text ticks) answered.Refused a

-- why there is no page: the bytes are no ledger, or one of another configuration, or the range isn't in it
abbrev pub IsRefused : List ℕ → Option Range → List ℕ → Answer → Type 0
IsRefused document range bytes a = IsWrong bytes a ⊎ (IsOther document bytes a ⊎ IsPast range bytes a)

-- the page of the document, of what is needed, of more, and of the ledger, where there is one, or why there is none
abbrev pub IsOfAll : File → Option File → Option File → Option Range → Additions → Answer → Type 0
IsOfAll file needs None range more a = IsOfReview (IsReview file needs more) a
IsOfAll file needs (Some ledger) range more a =
    IsOfReview (IsReviewWith file needs ledger range more) a ⊎ IsRefused file.bytes range ledger.bytes a

abbrev pub named : Option (List ℕ) → List ℕ → Option File
named None bytes = None
named (Some name) bytes = Some (record { name = name; bytes = bytes })

-- of files that hold these bytes
abbrev pub IsOfMore : Asking → List ℕ → List ℕ → List ℕ → Additions → Answer → Type 0
IsOfMore k document needs ledger more a =
    IsOfAll (record { name = k.name; bytes = document }) (named k.needs needs) (named k.ledger ledger) k.range more a

-- the more is what repeats, where that is asked
pub record IsWithMore (at : List ℕ → Option (List ℕ)) (k : Asking) (document needs ledger : List ℕ) (a : Answer) : Type 0 where
  pub more : Additions
  pub tells : Tells k.name (search_asked at document k.repeats) more
  pub is : IsOfMore k document needs ledger more a

abbrev pub program_text : ℕ → List ℕ
program_text p = codes "program: process " ++ (decimal p ++ codes " longer than 65536 bytes\n")

abbrev pub IsLongProgram : Option Search → Answer → Type 0
IsLongProgram search a = (p : ℕ) × HasLongProgram search p × Says (program_text p) answered.Refused a

-- that, or the line of the first program that is too long, where they are read
abbrev pub IsOfShort : (List ℕ → Option (List ℕ)) → Asking → List ℕ → List ℕ → List ℕ → Answer → Type 0
IsOfShort at k document needs ledger a = IsWithMore at k document needs ledger a ⊎ IsLongProgram (search_asked at document k.repeats) a

abbrev pub long_text : LongFile → List ℕ
long_text LongFile.Config = codes "config: longer than 65536 bytes\n"
long_text LongFile.Needs = codes "needs: longer than 65536 bytes\n"
long_text LongFile.Ledger = codes "ledger: longer than 1073741824 bytes\n"

abbrev pub long_ended : LongFile → Answered
long_ended LongFile.Config = answered.Config
long_ended LongFile.Needs = answered.Config
long_ended LongFile.Ledger = answered.Refused

-- the first of these files that has more bytes than it may have
abbrev pub first_long : List ℕ → List ℕ → List ℕ → Option LongFile
first_long document needs ledger =
    if nat_lt MAX_CONFIG_BYTES (length document) then Some LongFile.Config
    else (if nat_lt MAX_CONFIG_BYTES (length needs) then Some LongFile.Needs
    else (if nat_lt MAX_LEDGER_BYTES (length ledger) then Some LongFile.Ledger else None))

-- its line, and else this
abbrev pub IsLongOr : Type 0 → Answer → Option LongFile → Type 0
IsLongOr Short a None = Short
IsLongOr Short a (Some long) = Says (long_text long) (long_ended long) a

-- what the files come to that hold these bytes
abbrev pub IsOfFiles : (List ℕ → Option (List ℕ)) → Asking → Answer → List ℕ → List ℕ → List ℕ → Type 0
IsOfFiles at k a document needs ledger = IsLongOr (IsOfShort at k document needs ledger a) a (first_long document needs ledger)

-- the file of this name holds these bytes, and where none is named they are none
abbrev pub HoldsAt : (List ℕ → Option (List ℕ)) → Option (List ℕ) → List ℕ → Type 0
HoldsAt at None bytes = bytes ≡ []
HoldsAt at (Some name) bytes = at name ≡ Some bytes

-- they are these, or their first limit + 1
abbrev pub IsReadAt : (List ℕ → Option (List ℕ)) → Option (List ℕ) → ℕ → List ℕ → Type 0
IsReadAt at name limit bytes = (file : List ℕ) × HoldsAt at name file × (bytes ≡ take (limit + 1) file)

-- the files are read up to one byte more than they may have
pub record AreRead (at : List ℕ → Option (List ℕ)) (k : Asking) (h : Held) : Type 0 where
  pub document : IsReadAt at (Some k.name) MAX_CONFIG_BYTES h.document.items
  pub needs_are : IsReadAt at k.needs MAX_CONFIG_BYTES h.needs.items
  pub ledger_is : IsReadAt at k.ledger MAX_LEDGER_BYTES h.ledger.items

-- what the files come to that are asked for
pub record IsAsked (at : List ℕ → Option (List ℕ)) (k : Asking) (a : Answer) : Type 0 where
  pub document : List ℕ
  pub needs : List ℕ
  pub ledger : List ℕ
  pub has_document : at k.name ≡ Some document
  pub has_needs : HoldsAt at k.needs needs
  pub has_ledger : HoldsAt at k.ledger ledger
  pub comes : IsOfFiles at k a document needs ledger

-- what the program tells of itself, where that is asked for, and else the usage line
abbrev pub IsToldOrUsage : Option (List ℕ) → Answer → Type 0
IsToldOrUsage (Some text) a = Says text answered.Done a
IsToldOrUsage None a = Says USAGE.now answered.Usage a

-- that where no page is asked for
abbrev pub IsAnswerTo : List (List ℕ) → (List ℕ → Option (List ℕ)) → Option Asking → Answer → Type 0
IsAnswerTo words at (Some k) a = IsAsked at k a
IsAnswerTo words at None a = IsToldOrUsage (told_by words) a

-- what the words come to
abbrev pub IsAnswered : List (List ℕ) → (List ℕ → Option (List ℕ)) → Answer → Type 0
IsAnswered words at a = IsAnswerTo words at (asked_by words) a
