-- What is told of what the threads of a ledger did in their windows.
use Rattle.std.specs.Prelude.{ℕ, ◌≡◌, ◌⊎◌, Bool, true, false, List, reverse}
use Rattle.dk_trace.specs.declared.Entry.{Entry}
use Rattle.dk_ledger.specs.Heading.{Heading}
use Rattle.dk_ledger.specs.Readable.{Journal, IsReadable, text_of}
use Rattle.show_ledger.specs.declared.lines.Strictness.{Strictness}
use Rattle.show_ledger.specs.declared.lines.Strictness.TheVariants as strictness
use Rattle.show_ledger.specs.Lines.{is_sound, windows_lines}
use Rattle.show_ledger.specs.Overruns.{all_windows}
use Rattle.show_ledger.specs.TenthsTable.{tenths_csv}
use Rattle.show_ledger.specs.Threads.{windows_csv}
use Rattle.dk_show_request.specs.declared.request.WindowsForm.{WindowsForm}
use Rattle.dk_show_request.specs.declared.request.WindowsForm.TheVariants as form
use Rattle.dk_show.specs.declared.status.Status.{Status}
use Rattle.dk_show.specs.declared.status.Status.TheVariants as status
use Rattle.dk_show.specs.Answers.{IsWrong}

-- lines, lines with each window that was overrun, or one of the tables
abbrev pub windows_page : WindowsForm → Heading → List Entry → List ℕ
windows_page form.Plain = windows_lines strictness.Free
windows_page form.Strict = windows_lines strictness.Strict
windows_page form.Sparing = windows_lines strictness.Sparing
windows_page form.All = all_windows
windows_page form.Tenths = tenths_csv
windows_page form.Csv = windows_csv

-- where it has to be clean and isn't, the call ends as refused
abbrev pub sound_end : Bool → Status
sound_end true = status.Done
sound_end false = status.Refused

abbrev pub lines_end : Strictness → Heading → List Entry → Status
lines_end s h past = sound_end (is_sound s h past)

abbrev pub done_end : Heading → List Entry → Status
done_end h past = status.Done

abbrev pub windows_end : WindowsForm → Heading → List Entry → Status
windows_end form.Plain = lines_end strictness.Free
windows_end form.Strict = lines_end strictness.Strict
windows_end form.Sparing = lines_end strictness.Sparing
windows_end form.All = done_end
windows_end form.Tenths = done_end
windows_end form.Csv = done_end

-- a page of the entries, and how the call ends
abbrev pub AreTold : (Heading → List Entry → List ℕ) → (Heading → List Entry → Status) → Heading → List Entry → List ℕ → Status → Type 0
AreTold page end_of h past text ended = (text ≡ page h past) × (ended ≡ end_of h past)

-- the ledger in these bytes, and what each of its threads did in its windows
pub record IsWindows (page : Heading → List Entry → List ℕ) (end_of : Heading → List Entry → Status) (bytes text : List ℕ)
    (ended : Status) : Type 0 where
  pub ledger : Journal
  pub readable : IsReadable ledger
  pub bytes_are : text_of ledger ≡ bytes
  pub told : AreTold page end_of ledger.heading (reverse ledger.entries) text ended

abbrev pub IsOfPage : (Heading → List Entry → List ℕ) → (Heading → List Entry → Status) → List ℕ → List ℕ → Status → Type 0
IsOfPage page end_of bytes text ended = IsWrong bytes text ended ⊎ IsWindows page end_of bytes text ended

-- what the bytes of a ledger come to
abbrev pub IsOfWindows : WindowsForm → List ℕ → List ℕ → Status → Type 0
IsOfWindows f = IsOfPage (windows_page f) (windows_end f)
