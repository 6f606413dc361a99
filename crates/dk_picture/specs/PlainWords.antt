-- The words of a ledger in a picture: none has a byte with which markup begins or ends.
use Rattle.std.specs.Prelude.{ℕ, ◌≡◌, ◌==◌, ◌||◌, Bool, not, true, List}
use Rattle.std.specs.List.{AllByRecursion, list_all}
use Rattle.dk_trace.specs.declared.Entry.{Entry}
use Rattle.dk_ledger.specs.Heading.{Heading}
use Rattle.dk_ledger.specs.LineText.{thread_text}
use Rattle.dk_groups.specs.Groups.{groups}
use Rattle.dk_hold_spans.specs.HoldLists.{holds_in}
use Rattle.dk_picture.specs.Bars.{bars}
use Rattle.dk_picture.specs.HoldBars.{hold_bars, mutex_rows}
use Rattle.dk_picture.specs.Marks.{marks}
use Rattle.dk_picture.specs.Rows.{rows_of}
use Rattle.dk_picture.specs.RowTexts.{row_name}

-- none of & < > ' and "
abbrev pub is_plain : ℕ → Bool
is_plain b = not (b == 38 || b == 60 || b == 62 || b == 39 || b == 34)

abbrev pub IsPlain : List ℕ → Type 0
IsPlain words = list_all is_plain words ≡ true

-- All words that a picture has from a ledger: the names of its processes and of its rows, the titles of bars, of marks and
-- of holds, and the threads in the bars of holds.
pub record ArePlain (h : Heading) (from to : ℕ) (es : List Entry) : Type 0 where
  pub processes : AllByRecursion (λ p. IsPlain p.name) h.processes
  pub rows : AllByRecursion (λ r. IsPlain (row_name h r)) (rows_of h (groups from to es))
  pub bars : AllByRecursion (λ b. IsPlain b.title) (bars h (rows_of h (groups from to es)) from (groups from to es))
  pub marks : AllByRecursion (λ m. IsPlain m.title) (marks h (rows_of h (groups from to es)) (groups from to es))
  pub holds : AllByRecursion (λ b. IsPlain b.title)
      (hold_bars h (mutex_rows (holds_in from to es)) from (holds_in from to es))
  pub holders : AllByRecursion (λ d. IsPlain (thread_text h d.thread)) (holds_in from to es)
