-- What a picture of a ledger comes to, also beside a configuration.
use Rattle.std.specs.Prelude.{ℕ, ◌≡◌, ◌≤◌, ◌<◌, ◌⊎◌, length, List, Option, Some, None}
use Rattle.dk_config.specs.Configuration.{Configuration}
use Rattle.dk_config.specs.declared.TheConstants.{MAX_LEDGER_BYTES}
use Rattle.dk_ledger.specs.declared.line.LedgerLine.{LedgerLine}
use Rattle.dk_ledger.specs.Readable.{Journal, IsReadable, text_of}
use Rattle.dk_groups.specs.Groups.{groups}
use Rattle.dk_audit.specs.Findings.{IsOwnHeading}
use Rattle.dk_picture.specs.declared.reading.TheConstants.{MAX_GROUPS}
use Rattle.dk_picture.specs.Pictures.{IsTooMany, promised_svg}
use Rattle.dk_picture.specs.Promises.{IsPromised, Promised, nothing_promised}
use Rattle.dk_show_request.specs.declared.request.Range.{Range}
use Rattle.dk_show.specs.declared.refusal.Refusal.TheVariants as why
use Rattle.dk_show.specs.declared.status.Status.{Status}
use Rattle.dk_show.specs.declared.status.Status.TheVariants as status
use Rattle.dk_show.specs.Answers.{Files, IsOfNamed, IsWrong, Says}
use Rattle.dk_show.specs.Held.{IsOfForeign}
use Rattle.dk_show.specs.Loading.{IsOf, certified_at}

-- the range asked for, and without one all ticks
abbrev pub from_of : Option Range → ℕ
from_of None = 0
from_of (Some range) = range.from

abbrev pub to_of : Option Range → ℕ → ℕ
to_of None n = n
to_of (Some range) n = range.to

-- the groups of the range that is asked for
abbrev pub groups_asked : Option Range → Journal → List LedgerLine
groups_asked range j = groups (from_of range) (to_of range (length j.entries)) j.entries

-- The range ends within the ledger and has few groups, and this is its picture, with what is promised.
pub record IsPictured (x : Promised) (range : Option Range) (j : Journal) (text : List ℕ) (ended : Status) : Type 0 where
  pub within : to_of range (length j.entries) ≤ length j.entries
  pub few : length (groups_asked range j) ≤ MAX_GROUPS
  pub drawn : text ≡ promised_svg x (from_of range) (to_of range (length j.entries)) j.heading j.entries
  pub done : ended ≡ status.Done

-- the range ends behind the ledger
pub record IsPastEnd (range : Option Range) (j : Journal) (text : List ℕ) (ended : Status) : Type 0 where
  pub behind : length j.entries < to_of range (length j.entries)
  pub says : Says (why.RangeEnds (length j.entries)) text ended

-- the range ends within the ledger and has too many groups
pub record IsCrowded (range : Option Range) (j : Journal) (text : List ℕ) (ended : Status) : Type 0 where
  pub within : to_of range (length j.entries) ≤ length j.entries
  pub tick : ℕ
  pub many : IsTooMany (groups_asked range j) tick
  pub says : Says (why.TooManyGroups tick) text ended

abbrev pub IsPicture : Promised → Option Range → Journal → List ℕ → Status → Type 0
IsPicture x range j text ended =
    IsPictured x range j text ended ⊎ (IsPastEnd range j text ended ⊎ IsCrowded range j text ended)

-- the ledger in these bytes, and its picture
pub record IsPictureOf (range : Option Range) (bytes : List ℕ) (text : List ℕ) (ended : Status) : Type 0 where
  pub ledger : Journal
  pub readable : IsReadable ledger
  pub bytes_are : text_of ledger ≡ bytes
  pub drawn : IsPicture nothing_promised range ledger text ended

-- what the bytes of a ledger come to
abbrev pub IsOfPicture : Option Range → List ℕ → List ℕ → Status → Type 0
IsOfPicture range bytes text ended = IsWrong bytes text ended ⊎ IsPictureOf range bytes text ended

-- the picture of the configuration's own ledger, with what it promises
pub record IsOwnPicture (c : Configuration) (range : Option Range) (j : Journal) (text : List ℕ) (ended : Status) : Type 0 where
  pub own : IsOwnHeading c j.heading
  pub promised : Promised
  pub promise : IsPromised c promised
  pub drawn : IsPicture promised range j text ended

abbrev pub IsPictureUnder : Configuration → Option Range → Journal → List ℕ → Status → Type 0
IsPictureUnder c range j text ended = IsOwnPicture c range j text ended ⊎ IsOfForeign c j text ended

-- the ledger in these bytes, and its picture beside the configuration
pub record IsOwnPictureOf (c : Configuration) (range : Option Range) (bytes text : List ℕ) (ended : Status) : Type 0 where
  pub ledger : Journal
  pub readable : IsReadable ledger
  pub bytes_are : text_of ledger ≡ bytes
  pub drawn : IsPictureUnder c range ledger text ended

abbrev pub IsOfOwnPicture : Configuration → Option Range → List ℕ → List ℕ → Status → Type 0
IsOfOwnPicture c range bytes text ended = IsWrong bytes text ended ⊎ IsOwnPictureOf c range bytes text ended

-- What the ledger in the file of this name comes to, beside the certified configuration in the other file, if there is one.
abbrev pub IsOfShown : Option (List ℕ) → Files → Option Range → List ℕ → List ℕ → Status → Type 0
IsOfShown None at range ledger text ended =
    IsOfNamed at ledger MAX_LEDGER_BYTES why.LongLedger (IsOfPicture range) text ended
IsOfShown (Some file) at range ledger text ended = IsOf (certified_at (at file))
    (λ c. IsOfNamed at ledger MAX_LEDGER_BYTES why.LongLedger (IsOfOwnPicture c range)) text ended
