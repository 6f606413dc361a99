-- The words of a trace need no escapes, and its tracks' numbers are small.
use Rattle.std.proofs.Common.{ℕ, ◌≡◌, ◌<◌, ◌≤◌, ◌^◌, length, refl, arith}
use Rattle.std.specs.Prelude.{true, Option, Some, None, IfSome}
use Rattle.std.specs.List.{list_all}
use Rattle.std.proofs.lemmas.Bool.Decides.{nat_tests}
use Rattle.dk_config.specs.Rules.{is_word}
use Rattle.dk_trace.specs.declared.ThreadId.{ThreadId}
use Rattle.dk_trace.specs.declared.Label.{Label}
use Rattle.dk_trace.specs.declared.Event.{Event}
use Rattle.dk_trace.specs.Entries.{thread_of}
use Rattle.dk_trace.specs.Ranges.{Size, HasEvent, HasLabel, HasOwnEvent, HasThread}
use Rattle.dk_ledger.specs.declared.header.ProcessLine.{ProcessLine}
use Rattle.dk_ledger.specs.Heading.{Heading}
use Rattle.dk_ledger.specs.Readable.{IsReadableHeading, IsProcessLine, size_in}
use Rattle.dk_ledger.proofs.NameLemmas.{both_right}
use Rattle.dk_ledger.proofs.WordBytes.{all_more}
use Rattle.dk_trace_events.specs.Names.{child_of}
use Rattle.dk_trace_events.specs.Words.{category, thread_track, track_of}
use Rattle.dk_trace_events.proofs.Safe.{Safe, is_safe}
use Rattle.dk_trace_json.proofs.Shapes.{IsPlace, placed}

-- ---- words

word_safe : (b : ℕ) → is_word b ≡ true → is_safe b ≡ true
word_safe b h = grind (arith, nat_tests)

pub process_safe : (levels : ℕ) (l : ProcessLine) → IsProcessLine levels l → Safe l.name
process_safe levels l is = all_more is_word is_safe word_safe l.name (both_right _ (list_all is_word l.name) is.name)

pub category_safe : (label : Label) → Safe (category label)
category_safe (Label.Kernel j) = refl
category_safe (Label.In x) = refl
category_safe (Label.Run x) = refl
category_safe (Label.Call x) = refl
category_safe (Label.Out x) = refl
category_safe (Label.Slack x source work) = refl
category_safe Label.Idle = refl

-- ---- threads

pub thread_small : (x : ThreadId) → x.process < 32 → x.serial < 2 ^ 32 → IsPlace (thread_track x).pid (thread_track x).tid
thread_small x few small = placed (thread_track x).pid (thread_track x).tid (omega (arith, few)) (omega (arith, few, small))

module _ (h : Heading) (is : IsReadableHeading h) where
  few_processes : length h.processes ≤ 32
  few_processes = is.few_processes

  pub thread_place : (x : ThreadId) → HasThread (size_in h) x → IsPlace (thread_track x).pid (thread_track x).tid
  thread_place x known = let few = few_processes in let own = known.0 in thread_small x (omega (arith, few, own)) known.1

  pub label_place : (label : Label) → HasLabel (size_in h) label → IsPlace (track_of label).pid (track_of label).tid
  label_place (Label.Kernel j) known = placed 1 1 (omega arith) (omega arith)
  label_place (Label.In x) known = thread_place x known
  label_place (Label.Run x) known = thread_place x known
  label_place (Label.Call x) known = thread_place x known
  label_place (Label.Out x) known = thread_place x known
  label_place (Label.Slack x source work) known = thread_place x known.0
  label_place Label.Idle known = placed 1 2 (omega arith) (omega arith)

-- the thread of a label, and the child that an event makes
module _ (s : Size) where
  pub thread_known : (label : Label) → HasLabel s label → IfSome (thread_of label) (HasThread s)
  thread_known (Label.Kernel j) known = tt
  thread_known (Label.In x) known = known
  thread_known (Label.Run x) known = known
  thread_known (Label.Call x) known = known
  thread_known (Label.Out x) known = known
  thread_known (Label.Slack x source work) known = known.0
  thread_known Label.Idle known = tt

  pub child_known : (o : Option ThreadId) (e : Option Event) → IfSome o (HasThread s) → IfSome e (HasEvent s) → IfSome (child_of o e) (HasThread s)
  child_known o e known own = grind (arith, nat_tests)

  pub event_known : (label : Label) (e : Option Event) → HasOwnEvent s label e → IfSome e (HasEvent s)
  event_known label None own = tt
  event_known label (Some e) own = own.1
