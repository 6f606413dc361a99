-- What a trace has of a ledger's words has no byte that would have to be escaped.
use Rattle.std.proofs.Common.{ℕ, ◌≡◌, ◌++◌, List, refl, subst, arith}
use Rattle.std.specs.Prelude.{Bool, true, not, ◌&&◌, ◌==◌, nat_lt, decimal, Some}
use Rattle.std.proofs.lemmas.Bool.Decides.{nat_tests}
use Rattle.std.specs.List.{list_all}
use Rattle.dk_trace.specs.declared.ThreadId.{ThreadId}
use Rattle.dk_trace.specs.declared.Label.{Label}
use Rattle.dk_trace.specs.declared.Event.{Event}
use Rattle.dk_trace.specs.Says.{word_of}
use Rattle.dk_ledger.specs.declared.line.LedgerLine.{LedgerLine}
use Rattle.dk_ledger.specs.Heading.{Heading, IsPrintable}
use Rattle.dk_ledger.specs.LineText.{event_text, line_body, thread_text}
use Rattle.dk_ledger.specs.Words.{event_words, is_spelled, line_words}
use Rattle.dk_ledger.proofs.Spelled.{all_append, event_spelled, line_spelled, number_spelled, thread_spelled, word_of_spelled}
use Rattle.dk_entry_words.specs.Works.{work_words}
use Rattle.dk_entry_words.proofs.ReadBack.{event_blanks, line_blanks}
use Rattle.dk_entry_words.proofs.Spelled.{parted_all, word_all, work_words_spelled}
use Rattle.dk_trace_events.specs.Words.{word_text}

-- a printed byte or a blank, that JSON writes as it is
abbrev pub is_safe : ℕ → Bool
is_safe b = nat_lt 31 b && (not (b == 34) && not (b == 92))

abbrev pub Safe : List ℕ → Type 0
Safe s = list_all is_safe s ≡ true

pub spelled_safe : (b : ℕ) → is_spelled b ≡ true → is_safe b ≡ true
spelled_safe b h = grind (arith, nat_tests)

pub both : (s t : List ℕ) → Safe s → Safe t → Safe (s ++ t)
both s t = all_append is_safe s t

pub decimal_safe : (n : ℕ) → Safe (decimal n)
decimal_safe n = word_all is_safe spelled_safe (decimal n) (number_spelled n)

pub kind_safe : (e : Event) → Safe (word_of e)
kind_safe e = word_all is_safe spelled_safe (word_of e) (word_of_spelled e)

pub event_safe : (e : Event) → Safe (event_text e)
event_safe e = subst Safe (event_blanks e) (parted_all is_safe spelled_safe 32 refl (event_words (Some e)) (event_spelled (Some e)))

pub label_word_safe : (label : Label) → Safe (word_text label)
label_word_safe label = parted_all is_safe spelled_safe 32 refl (work_words label) (work_words_spelled label)

module _ (h : Heading) (is : IsPrintable h) where
  pub thread_safe : (x : ThreadId) → Safe (thread_text h x)
  thread_safe x = word_all is_safe spelled_safe (thread_text h x) (thread_spelled h is.names x)

  pub line_safe : (g : LedgerLine) → Safe (line_body h g)
  line_safe g = subst Safe (line_blanks h g) (parted_all is_safe spelled_safe 32 refl (line_words h g) (line_spelled h is.names g))
