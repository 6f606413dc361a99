-- What is ready to be written.
use Rattle.std.specs.Prelude.{ℕ, ◌≡◌, ◌≢◌, ◌<◌, ◌⊎◌, false, length, List, Some, Result, Ok, Err, IfOk, IfErr}
use Rattle.dk_ledger.specs.Readable.{Journal, IsReadable, text_of}
use Rattle.dk_show.specs.declared.work.RangeWork.{RangeWork}
use Rattle.dk_show.specs.declared.work.Work.{Work}
use Rattle.dk_show.specs.declared.work.Work.TheVariants as work
use Rattle.dk_show.specs.declared.refusal.Refusal.{Refusal}
use Rattle.dk_show.specs.declared.refusal.Refusal.TheVariants as why
use Rattle.dk_show.specs.declared.status.Status.{Status}
use Rattle.dk_show.specs.declared.status.Status.TheVariants as status
use Rattle.dk_show.specs.Answers.{IsEnd, is_silent, refusal_status, refusal_text}
use Rattle.dk_show.specs.Output.{Files, drawn_text}

-- its bytes are those of a ledger that can be read
abbrev pub IsRangeReady : RangeWork → Type 0
IsRangeReady w = (j : Journal) × IsReadable j × (text_of j ≡ w.bytes.items)

-- nothing of it is to be read or made any more
abbrev pub IsWhole : Work → Type 0
IsWhole (work.Draw w) = ⊥
IsWhole (work.Page page ended) = IsEnd ended
IsWhole (work.Bytes bytes ended) = IsEnd ended

abbrev pub IsReady : Work → Type 0
IsReady (work.Draw w) = IsRangeReady w
IsReady (work.Page page ended) = IsEnd ended
IsReady (work.Bytes bytes ended) = IsEnd ended

-- the text that it writes
abbrev pub HasText : Work → List ℕ → Type 0
HasText (work.Draw w) text =
    (j : Journal) × IsReadable j × (text_of j ≡ w.bytes.items) × (text ≡ drawn_text w.drawing w.from w.to j)
HasText (work.Page page ended) text = text ≡ page
HasText (work.Bytes bytes ended) text = text ≡ bytes.items

-- how it ends once that is written
abbrev pub ended_of : Work → Status
ended_of (work.Draw w) = status.Done
ended_of (work.Page page ended) = ended
ended_of (work.Bytes bytes ended) = ended

-- The work writes a text that stands, and so does a refusal that isn't silent.
abbrev pub ComesTo : (List ℕ → Status → Type 0) → Result Work Refusal → Type 0
ComesTo Stands (Ok w) = (text : List ℕ) → HasText w text → Stands text (ended_of w)
ComesTo Stands (Err e) = is_silent e ≡ false → Stands (refusal_text e) (refusal_status e)

-- What is made of bytes that were read: a work of this kind, or a refusal by no read.
pub record IsMade (IsOf : Work → Type 0) (result : Result Work Refusal) : Type 0 where
  pub ready : IfOk result IsOf
  pub read : IfErr result (λ e. e ≢ why.Depot)

-- a refusal that isn't silent is this one, of a file of more than so many bytes
abbrev pub IsOfLong : Files → List ℕ → ℕ → Refusal → Refusal → Type 0
IsOfLong at name most long e =
    is_silent e ≡ false → (e ≡ long) × ((bytes : List ℕ) × (at name ≡ Some bytes) × (most < length bytes))
