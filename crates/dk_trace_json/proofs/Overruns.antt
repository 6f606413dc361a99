-- The threads that overran windows are those of the ledger, so their tracks have numbers.
use Rattle.std.proofs.Common.{ℕ, zero, suc, ◌≡◌, ◌+◌, ◌<◌, ◌≤◌, ◌^◌, [], ◌∷◌, List, length, map, flat_map, reverse, arith, refl, div-le_self}
use Rattle.std.specs.Prelude.{Bool, true, false, ◌==◌, ◌&&◌, not, nat_lt, Option, Some, None, IfSome, if◌then◌else◌}
use Rattle.std.specs.Option.{option_map_or}
use Rattle.std.specs.List.{AllByRecursion}
use borrow.Author.Tests.{ltb-true}
use Rattle.dk_config.specs.Sums.{numbers}
use Rattle.dk_trace.specs.declared.ThreadId.{ThreadId}
use Rattle.dk_trace.specs.declared.Event.{Event}
use Rattle.dk_trace.specs.declared.Entry.{Entry}
use Rattle.dk_trace.specs.Entries.{thread_of}
use Rattle.dk_trace.specs.Ranges.{HasEntry, HasEvent, HasThread}
use Rattle.dk_ledger.specs.Heading.{Heading}
use Rattle.dk_ledger.specs.Readable.{IsReadable, IsReadableHeading, size_in}
use Rattle.dk_ledger.proofs.EntryLists.{all_both}
use Rattle.dk_window_report.specs.Owners.{Owner, child_owner, made_in, made_of, main_owner, owners}
use Rattle.dk_overrun_spans.specs.Found.{overran_at}
use Rattle.dk_overrun_spans.specs.declared.overrun.Overrun.{Overrun}
use Rattle.dk_overrun_spans.specs.Overruns.{overrun_from, overruns, overruns_of}
use Rattle.dk_trace_events.proofs.Behind.{all_reversed}
use Rattle.dk_trace_events.specs.OverrunInstants as texts
use Rattle.dk_trace_events.specs.OverrunInstants.{is_shown, overrun_instant, window_of}
use Rattle.dk_trace_json.specs.Values.{overrun_mark, overruns_values, shown_overrun}
use Rattle.dk_trace_json.proofs.Objects.{overrun_marked}
use Rattle.dk_trace_json.proofs.Reading.{Adds, adds_both, adds_none}
use Rattle.dk_trace_json.proofs.Words.{event_known, thread_known, thread_place}

module _ (h : Heading) where
  abbrev IsKnown : Owner → Type 0
  IsKnown o = HasThread (size_in h) o.id

  mains_known : (from n : ℕ) → from + n ≤ length h.processes → AllByRecursion IsKnown (map (main_owner h) (numbers from n))
  mains_known from zero few = tt
  mains_known from (suc n) few = ((omega (arith, few), omega arith), mains_known (suc from) n (omega (arith, few)))

  child_if : (b : Bool) (o : Owner) → IsKnown o → AllByRecursion IsKnown (if b then o ∷ [] else [])
  child_if true o known = (known, tt)
  child_if false o known = tt

  made_by_event : (now : ℕ) (x : ThreadId) (e : Option Event) → HasThread (size_in h) x → IfSome e (HasEvent (size_in h)) → AllByRecursion IsKnown (made_of h now x e)
  made_by_event now x (Some (Event.Create serial level quota)) known own = child_if (x.serial == 0) (child_owner h now x.process serial level) (known.0, own.0)
  made_by_event now x None known own = tt
  made_by_event now x (Some _) known own = tt

  made_known : (now : ℕ) (o : Option ThreadId) (e : Option Event) → IfSome o (HasThread (size_in h)) → IfSome e (HasEvent (size_in h))
      → AllByRecursion IsKnown (option_map_or (λ x. made_of h now x e) o [])
  made_known now None e known own = tt
  made_known now (Some x) e known own = made_by_event now x e known own

  owners_known : (past : List Entry) → AllByRecursion (HasEntry (size_in h)) past → AllByRecursion IsKnown (owners h past)
  owners_known [] all = mains_known 0 (length h.processes) (omega arith)
  owners_known (e ∷ past) all =
      all_both IsKnown (owners h past) (made_in h (length past) e) (owners_known past all.1)
      (made_known (length past) (thread_of e.label) e.event (thread_known (size_in h) e.label all.0.label) (event_known (size_in h) e.label e.event all.0.event))

  -- it begins before its last tick
  abbrev IsTold : Overrun → Type 0
  IsTold o = HasThread (size_in h) o.thread × (o.start ≤ o.last)

  module _ (es : List Entry) where
    windows_told : (o : Owner) → IsKnown o → (starts : List ℕ) → AllByRecursion IsTold (map (overrun_from o es) starts)
    windows_told o known [] = tt
    windows_told o known (s ∷ starts) = ((known, omega arith), windows_told o known starts)

    threads_told : (os : List Owner) → AllByRecursion IsKnown os → AllByRecursion IsTold (flat_map (overruns_of es) os)
    threads_told [] all = tt
    threads_told (o ∷ os) all =
        all_both IsTold (overruns_of es o) (flat_map (overruns_of es) os) (windows_told o all.0 (overran_at o (reverse es))) (threads_told os all.1)

  second_holds : (a b : Bool) → (a && b) ≡ true → b ≡ true
  second_holds true b is = is
  second_holds false b is = absurd (let no : false ≡ true = is in cc)

  module _ (is : IsReadableHeading h) (from to : ℕ) (short : to < 2 ^ 64) where
    one_shown : (o : Overrun) → IsTold o → Adds (texts.shown_overrun from to o) (shown_overrun from to o)
    one_shown o told = go (is_shown from to o) refl
      where
        go : (b : Bool) → is_shown from to o ≡ b → Adds (if b then overrun_instant o else []) (if b then overrun_mark o ∷ [] else [])
        go true shown =
            let within : o.last < to = ltb-true o.last to (second_holds (not (nat_lt o.last from)) (nat_lt o.last to) shown) in
            let window : window_of o ≤ o.start = div-le_self o.start o.period in
            let begins = told.1 in
            overrun_marked o (thread_place h is o.thread told.0) (omega (arith, window, begins, within, short)) (omega (arith, within, short))
        go false shown = adds_none

    all_shown : (os : List Overrun) → AllByRecursion IsTold os → Adds (texts.overruns_text from to os) (overruns_values from to os)
    all_shown [] all = adds_none
    all_shown (o ∷ os) all = adds_both (one_shown o all.0) (all_shown os all.1)

pub overruns_add : (h : Heading) (from to : ℕ) (es : List Entry) → IsReadable (record { heading = h; entries = es }) → to < 2 ^ 64
    → Adds (texts.overruns_text from to (overruns h es)) (overruns_values from to (overruns h es))
overruns_add h from to es is short =
    all_shown h is.heading from to short (overruns h es) (threads_told h es (owners h (reverse es)) (owners_known h (reverse es) (all_reversed (HasEntry (size_in h)) es is.entries)))
