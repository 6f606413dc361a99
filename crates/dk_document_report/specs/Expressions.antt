-- The expressions of a document: the parts that are documents by themselves, line by line.
use Rattle.std.specs.Prelude.{ℕ, ◌≡◌, ◌≤◌, ◌<◌, ◌+◌, ◌-◌, ◌==◌, Bool, true, false, is_some, List, length, slice_index, slice_index_or, slice_range, if◌then◌else◌}
use Rattle.dk_loader.specs.Reading.{document}
use Rattle.dk_document_report.specs.declared.marks.Cuts.{Cuts}

abbrev pub is_document : List ℕ → Bool
is_document bytes = is_some (document bytes)

-- a line ends with the byte before this one
abbrev pub ends_line : List ℕ → ℕ → Bool
ends_line bytes at = slice_index bytes (at - 1) == 10

-- of an expression each line's end among so many bytes is tried
abbrev pub each_line : ℕ
each_line = 4096

-- at no line's end before this one, among the first bytes, are those from the start on a document by themselves
abbrev pub IsUncut : List ℕ → ℕ → ℕ → Type 0
IsUncut bytes start stop = (at : ℕ) → start < at → at < stop → at ≤ start + each_line → ends_line bytes at ≡ true
    → is_document (slice_range bytes start at) ≡ false

-- Whole lines that are a document by themselves, as no fewer of them are; of the last lines that isn't said.
pub record IsExpression (bytes : List ℕ) (start stop : ℕ) : Type 0 where
  pub order : start ≤ stop
  pub within : stop ≤ length bytes
  pub begins : 0 < start → ends_line bytes start ≡ true
  pub ends : stop < length bytes → ends_line bytes stop ≡ true
  pub itself : stop < length bytes → is_document (slice_range bytes start stop) ≡ true
  pub uncut : IsUncut bytes start stop

-- where expression k starts, by the ends of all but the last
abbrev pub start_of : List ℕ → ℕ → ℕ
start_of ends k = if k == 0 then 0 else slice_index ends (k - 1)

-- where expression k ends; the last one ends with the document
abbrev pub stop_of : List ℕ → List ℕ → ℕ → ℕ
stop_of bytes ends k = slice_index_or ends k (length bytes)

-- these are the ends of the expressions of a document, but of the last
abbrev pub AreEnds : List ℕ → List ℕ → Type 0
AreEnds bytes ends = (k : ℕ) → k ≤ length ends → IsExpression bytes (start_of ends k) (stop_of bytes ends k)

-- The ends before this byte, where the present expression starts, and from how many bytes on it is tried: where it isn't
-- tried at each line, it has more.
pub record IsCut (bytes ends : List ℕ) (start wait at : ℕ) : Type 0 where
  pub starts : start ≡ start_of ends (length ends)
  pub order : start ≤ at
  pub begins : 0 < start → ends_line bytes start ≡ true
  pub each : (k : ℕ) → k < length ends → IsExpression bytes (start_of ends k) (stop_of bytes ends k)
  pub uncut : IsUncut bytes start (at + 1)
  pub long : 0 < wait → start + each_line < at

abbrev pub AreCut : List ℕ → ℕ → Cuts → Type 0
AreCut bytes at cuts = IsCut bytes cuts.ends.items cuts.start cuts.wait at
