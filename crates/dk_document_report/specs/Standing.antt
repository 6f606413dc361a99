-- Where in a document a thing stands: in the expression up to whose start it doesn't, and up to whose end it does.
use Rattle.std.specs.Borrow.{Bor}
use Rattle.std.specs.Prelude.{ℕ, ◌≡◌, ◌≤◌, ◌<◌, ◌==◌, ◌&&◌, ◌||◌, Bool, not, true, false, is_some, codes, decimal, IfOk, List, [], ◌++◌, length, take, slice_index, MatchBool, Result, if◌then◌else◌}
use Rattle.std.specs.Option.{option_map_or}
use Rattle.toml.specs.Data.{Data, as_table, get_member, Members}
use Rattle.dk_config.specs.declared.fault.Section.{Section}
use Rattle.dk_loader.specs.Keys.{key_name}
use Rattle.dk_loader.specs.Reading.{document}
use Rattle.dk_document_report.specs.declared.place.Place.{Place}
use Rattle.dk_document_report.specs.declared.places.Search.{Search}
use Rattle.dk_document_report.specs.Expressions.{IsExpression, is_document, start_of, stop_of}
use Rattle.dk_document_report.specs.Found.{Told, is_top, row_in}
use Rattle.dk_document_report.specs.Places.{place_after}

abbrev pub has_key : List ℕ → Members → Bool
has_key k t = is_some (get_member k t)

-- a row that is no table is itself what is looked for
abbrev pub row_has : List ℕ → Data → Bool
row_has k d = option_map_or (has_key k) (as_table d) true

abbrev pub key_stands : Section → ℕ → List ℕ → Members → Bool
key_stands s i k ms = if is_top s then has_key k ms else option_map_or (row_has k) (row_in s i ms) false

abbrev pub told_key : Told → List ℕ
told_key t = if t.fault.number == 1 then t.key else key_name t.fault.field

-- what a line is about: the key; of a key that is missing its row, and nothing of one that the whole document lacks
abbrev pub stands : Told → Members → Bool
stands t ms =
    if t.fault.number == 2 then is_some (row_in t.fault.section t.fault.row ms)
    else key_stands t.fault.section t.fault.row (told_key t) ms

-- the bytes are a document in which it stands
abbrev pub stands_by : Told → List ℕ → Bool
stands_by t bytes = option_map_or (stands t) (document bytes) false

abbrev pub place_text : Place → List ℕ
place_text p = codes "line " ++ (decimal p.line ++ (codes " column " ++ (decimal p.column ++ codes ": ")))

abbrev pub is_refused : List ℕ → Bool
is_refused bytes = not (is_document bytes)

-- a test of the bytes up to a place tells whether what is looked for is reached there
abbrev pub Decides : {E : Type 0} → (Bor (List ℕ) → Result Bool E → Type 0) → (List ℕ → Bool) → Type 0
Decides {E} post reached = (part : Bor (List ℕ)) (r : Result Bool E) → post part r → IfOk r (λ found. found ≡ reached part.now)

-- the expression that brings what is looked for
pub record IsReachedIn (bytes : List ℕ) (reached : List ℕ → Bool) (start stop : ℕ) : Type 0 where
  pub is : IsExpression bytes start stop
  pub before : 0 < start → reached (take start bytes) ≡ false
  pub after : reached (take stop bytes) ≡ true

-- one of these expressions
abbrev pub IsWithin : List ℕ → Search → Type 0
IsWithin ends s = (s.low ≤ s.high) × (s.high ≤ length ends)

-- it is reached with one of these
pub record IsSearch (bytes ends : List ℕ) (reached : List ℕ → Bool) (s : Search) : Type 0 where
  pub before : 0 < s.low → reached (take (start_of ends s.low) bytes) ≡ false
  pub after : reached (take (stop_of bytes ends s.high) bytes) ≡ true

abbrev pub is_blank : ℕ → Bool
is_blank b = ((b == 32 || b == 9) || b == 13) || b == 10

-- only blanks are before it, and it is none
pub record IsFirstWord (bytes : List ℕ) (start stop at : ℕ) : Type 0 where
  pub low : start ≤ at
  pub high : at ≤ stop
  pub blank : (k : ℕ) → start ≤ k → k < at → is_blank (slice_index bytes k) ≡ true
  pub word : at < stop → is_blank (slice_index bytes at) ≡ false

-- the place where the expression begins that brings what is looked for
pub record IsPlaced (bytes : List ℕ) (reached : List ℕ → Bool) (text : List ℕ) : Type 0 where
  pub start : ℕ
  pub stop : ℕ
  pub at : ℕ
  pub is : IsReachedIn bytes reached start stop
  pub first : IsFirstWord bytes start stop at
  pub whole : text ≡ place_text (place_after (take at bytes))

-- a place where it is asked for and there is one, and else none
abbrev pub IsPlaceText : List ℕ → Members → Bool → Told → List ℕ → Type 0
IsPlaceText bytes ms asked t text = MatchBool (asked && stands t ms) (IsPlaced bytes (stands_by t) text) (text ≡ [])
