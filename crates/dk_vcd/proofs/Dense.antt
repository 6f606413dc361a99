-- No value has a blank.
use Rattle.std.proofs.Common.{ℕ, ◌≡◌, ◌++◌, [], refl, arith, codes}
use Rattle.std.specs.Prelude.{Bool, true, false, ◌==◌, if◌then◌else◌, decimal, Option, Some, None}
use Rattle.std.proofs.lemmas.Bool.Decides.{nat_tests}
use Rattle.dk_trace.specs.declared.ThreadId.{ThreadId}
use Rattle.dk_trace.specs.declared.Label.{Label}
use Rattle.dk_trace.specs.declared.Event.{Event}
use Rattle.dk_trace.specs.Entries.{thread_of}
use Rattle.dk_ledger.specs.declared.line.LedgerLine.{LedgerLine}
use Rattle.dk_ledger.specs.Heading.{Heading, IsPrintable}
use Rattle.dk_ledger.specs.LineText.{thread_text}
use Rattle.dk_ledger.specs.Words.{event_words, is_spelled, line_words}
use Rattle.dk_ledger.proofs.Spelled.{all_append, event_spelled, line_spelled, number_spelled, thread_spelled}
use Rattle.dk_entry_words.specs.Works.{work_words}
use Rattle.dk_entry_words.specs.Parted.{parted}
use Rattle.dk_entry_words.proofs.Spelled.{parted_all, word_all, work_words_spelled}
use Rattle.dk_holds.specs.declared.holding.Holding.{Holding}
use Rattle.dk_vcd.specs.Holders.{holder_value}
use Rattle.dk_vcd.specs.Laws.{IsDense, is_dense}
use Rattle.dk_vcd.specs.Words.{child_part, event_value, line_value, overran_value, row_value}

spelled_dense : (b : ℕ) → is_spelled b ≡ true → is_dense b ≡ true
spelled_dense b h = grind (arith, nat_tests)

pub digits_dense : (n : ℕ) → IsDense (decimal n)
digits_dense n = word_all is_dense spelled_dense (decimal n) (number_spelled n)

pub overran_dense : (n : ℕ) → IsDense (overran_value n)
overran_dense n = either (n == 0)
  where
    either : (b : Bool) → IsDense (if b then [] else decimal n)
    either true = refl
    either false = digits_dense n

pub event_dense : (event : Event) → IsDense (event_value event)
event_dense event = parted_all is_dense spelled_dense 44 refl (event_words (Some event)) (event_spelled (Some event))

-- what a group's ticks are for
child_dense : (o : Option ThreadId) → IsDense (child_part o)
child_dense None = refl
child_dense (Some x) = either (x.serial == 0)
  where
    either : (b : Bool) → IsDense (if b then [] else (decimal x.serial ++ codes ","))
    either true = refl
    either false = all_append is_dense (decimal x.serial) (codes ",") (digits_dense x.serial) refl

pub row_dense : (label : Label) → IsDense (row_value label)
row_dense label =
    all_append is_dense (child_part (thread_of label)) (parted 44 (work_words label)) (child_dense (thread_of label))
    (parted_all is_dense spelled_dense 44 refl (work_words label) (work_words_spelled label))

module _ (h : Heading) (is : IsPrintable h) where
  pub line_dense : (g : LedgerLine) → IsDense (line_value h g)
  line_dense g = parted_all is_dense spelled_dense 44 refl (line_words h g) (line_spelled h is.names g)

  -- who holds a mutex
  pub holder_dense : (o : Option Holding) → IsDense (holder_value h o)
  holder_dense None = refl
  holder_dense (Some x) = word_all is_dense spelled_dense (thread_text h x.thread) (thread_spelled h is.names x.thread)
