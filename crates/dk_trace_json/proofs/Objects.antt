-- Each object of a trace is read as its event.
use Rattle.std.proofs.Common.{ℕ, ◌≡◌, ◌+◌, ◌-◌, ◌*◌, ◌<◌, ◌≤◌, ◌^◌, ◌++◌, [], ◌∷◌, List, refl, arith, codes}
use Rattle.std.specs.Prelude.{decimal, Option, Some, None, IfSome}
use Rattle.json.specs.Json.{number, string}
use Rattle.serde_json.specs.Data as values
use Rattle.dk_trace.specs.declared.ThreadId.{ThreadId}
use Rattle.dk_trace.specs.declared.Event.{Event}
use Rattle.dk_trace.specs.Says.{word_of}
use Rattle.dk_trace.specs.Ranges.{HasEvent}
use Rattle.dk_ledger.specs.declared.line.LedgerLine.{LedgerLine}
use Rattle.dk_ledger.specs.declared.header.ProcessLine.{ProcessLine}
use Rattle.dk_ledger.specs.Heading.{Heading}
use Rattle.dk_ledger.specs.LineText.{event_text, line_body, thread_text}
use Rattle.dk_ledger.specs.Readable.{IsReadableHeading, IsProcessLine, size_in}
use Rattle.dk_ledger.proofs.EntryLists.{IsReadableLine}
use Rattle.dk_trace_events.specs.Words.{category, thread_track, track_of, word_text}
use Rattle.dk_trace_events.specs.Slices as slices
use Rattle.dk_trace_events.specs.SlackPoints.{point_text, slack_in}
use Rattle.dk_trace_events.specs.Names as names
use Rattle.dk_trace_events.specs.HoldSlices as holds
use Rattle.dk_trace_events.specs.HoldSlices.{mutex_track}
use Rattle.dk_overrun_spans.specs.declared.overrun.Overrun.{Overrun}
use Rattle.dk_trace_events.specs.OverrunInstants.{overrun_instant, window_of}
use Rattle.dk_trace_events.specs.LevelWindows as windows
use Rattle.dk_trace_events.specs.LevelWindows.{level_track}
use Rattle.dk_entry_words.proofs.ReadBack.{printable}
use Rattle.dk_trace_events.proofs.Safe.{Safe, both, decimal_safe, event_safe, kind_safe, label_word_safe, line_safe, thread_safe}
use Rattle.dk_trace_json.specs.Events.{argument, process_event}
use Rattle.dk_trace_json.specs.Values.{group_slice, hold_slice, instants, overrun_mark, process_name, process_order, slack_value, thread_name, track_name, track_order, window_slice}
use Rattle.dk_trace_json.proofs.Pieces.{bytes, place, behind_apart, taken_apart}
use Rattle.dk_trace_json.proofs.Reading.{Adds, Ends, IsCount, adds_none, adds_one, counted, digit, ends_with}
use Rattle.dk_trace_json.proofs.Shapes.{IsPlace, count_args, counter_is, counter_json, instant_is, instant_json, marked_is, marked_json, one_member, placed, process_is, process_json, slack_args, slice_is, slice_json, text_args, thread_is, thread_json}
use Rattle.dk_trace_json.proofs.Words.{category_safe, label_place, process_safe}

-- ---- metadata

-- the text names the process
pub names_process : (s pid : List ℕ) (p : ℕ) (t : List ℕ) → Safe s → (is : IsCount pid p)
    → ((r : List ℕ) → t ++ r ≡ codes "{\"args\":{\"name\":\"" ++ (s ++ (codes "\"},\"name\":\"process_name\",\"ph\":\"M\",\"pid\":" ++ (pid ++ (codes "},\n" ++ r))))) → Adds t (process_name s p ∷ [])
names_process s pid p t safe is text =
    let args = text_args (codes "name") s refl safe in
    adds_one (process_json (one_member (codes "name") (string s)) (codes "process_name") pid) (process_name s p) t (process_is _ _ args (codes "process_name") pid p refl is) text

pub orders_process : (s pid : List ℕ) (n p : ℕ) (t : List ℕ) → IsCount s n → IsCount pid p
    → ((r : List ℕ) → t ++ r ≡ codes "{\"args\":{\"sort_index\":" ++ (s ++ (codes "},\"name\":\"process_sort_index\",\"ph\":\"M\",\"pid\":" ++ (pid ++ (codes "},\n" ++ r))))) → Adds t (process_order n p ∷ [])
orders_process s pid n p t index is text =
    let args = count_args (codes "sort_index") s n refl index in
    adds_one (process_json (one_member (codes "sort_index") (number s)) (codes "process_sort_index") pid) (process_order n p) t (process_is _ _ args (codes "process_sort_index") pid p refl is) text

pub names_track : (s pid tid : List ℕ) (p q : ℕ) (t : List ℕ) → Safe s → IsCount pid p → IsCount tid q
    → ((r : List ℕ) → t ++ r ≡ codes "{\"args\":{\"name\":\"" ++ (s ++ (codes "\"},\"name\":\"thread_name\",\"ph\":\"M\",\"pid\":" ++ (pid ++ (codes ",\"tid\":" ++ (tid ++ (codes "},\n" ++ r)))))))
    → Adds t (track_name s p q ∷ [])
names_track s pid tid p q t safe process thread text =
    let args = text_args (codes "name") s refl safe in
    adds_one (thread_json (one_member (codes "name") (string s)) (codes "thread_name") pid tid) (track_name s p q) t (thread_is _ _ args (codes "thread_name") pid tid p q refl process thread) text

-- the last object
pub last_read : Ends (codes "{\"args\":{\"sort_index\":1},\"name\":\"thread_sort_index\",\"ph\":\"M\",\"pid\":1,\"tid\":2}\n]}\n") (track_order 1 1 2 ∷ [])
last_read =
    let args = count_args (codes "sort_index") (codes "1") 1 refl (digit 1 (omega arith)) in
    ends_with (thread_json (one_member (codes "sort_index") (number (codes "1"))) (codes "thread_sort_index") (codes "1") (codes "2")) (track_order 1 1 2) _
    (thread_is _ _ args (codes "thread_sort_index") (codes "1") (codes "2") 1 2 refl (digit 1 (omega arith)) (digit 2 (omega arith))) refl

-- ---- the names of mutexes, processes, children and levels

pub mutex_named : (m : ℕ) → m < 16 → Adds (holds.mutex_name m) (track_name (codes "mutex " ++ decimal m) (mutex_track m).pid (mutex_track m).tid ∷ [])
mutex_named m few =
    let at = placed (mutex_track m).pid (mutex_track m).tid (omega arith) (omega (arith, few)) in
    names_track (codes "mutex " ++ decimal m) _ _ (mutex_track m).pid (mutex_track m).tid (holds.mutex_name m) (both (codes "mutex ") (decimal m) refl (decimal_safe m)) at.process at.thread
    (taken_apart (codes "{\"args\":{\"name\":\"mutex ") (bytes (decimal m) ∷ bytes (codes "\"},\"name\":\"thread_name\",\"ph\":\"M\"") ∷ place (mutex_track m).pid (mutex_track m).tid ∷ bytes (codes "},\n") ∷ []))

pub thread_named : (name : List ℕ) (x : ThreadId) → Safe name → IsPlace (thread_track x).pid (thread_track x).tid → Adds (names.track_name name x) (thread_name name x ∷ [])
thread_named name x safe at =
    names_track name _ _ (thread_track x).pid (thread_track x).tid (names.track_name name x) safe at.process at.thread
    (behind_apart (codes "{\"args\":{\"name\":\"") name (codes "\"},\"name\":\"thread_name\",\"ph\":\"M\"") (place (thread_track x).pid (thread_track x).tid ∷ bytes (codes "},\n") ∷ []))

abbrev labels : ProcessLine → List ℕ
labels l = codes "level " ++ decimal l.level ++ codes " budget " ++ decimal l.budget

labels_safe : (l : ProcessLine) → Safe (labels l)
labels_safe l =
    both ((codes "level " ++ decimal l.level) ++ codes " budget ") (decimal l.budget)
    (both (codes "level " ++ decimal l.level) (codes " budget ") (both (codes "level ") (decimal l.level) refl (decimal_safe l.level)) refl) (decimal_safe l.budget)

module _ (levels p : ℕ) (l : ProcessLine) (is : IsProcessLine levels l) (few : levels ≤ 12) (small : p < 32) where
  pid_is : IsCount (decimal (100 + p)) (100 + p)
  pid_is = counted (100 + p) (omega (arith, small))

  pub process_named : Adds (names.process_name p l) (process_name l.name (100 + p) ∷ [])
  process_named =
      names_process l.name (decimal (100 + p)) (100 + p) (names.process_name p l) (process_safe levels l is) pid_is
      (taken_apart (codes "{\"args\":{\"name\":\"") (bytes l.name ∷ bytes (codes "\"},\"name\":\"process_name\",\"ph\":\"M\",\"pid\":") ∷ bytes (decimal (100 + p)) ∷ bytes (codes "},\n") ∷ []))

  pub process_labelled : Adds (names.process_labels p l) (process_event (codes "process_labels") (argument (codes "labels") (values.string (labels l))) (100 + p) ∷ [])
  process_labelled =
      let args = text_args (codes "labels") (labels l) refl (labels_safe l) in
      adds_one (process_json (one_member (codes "labels") (string (labels l))) (codes "process_labels") (decimal (100 + p))) _ (names.process_labels p l)
      (process_is _ _ args (codes "process_labels") (decimal (100 + p)) (100 + p) refl pid_is)
      (taken_apart (codes "{\"args\":{\"labels\":\"") (bytes (labels l) ∷ bytes (codes "\"},\"name\":\"process_labels\",\"ph\":\"M\",\"pid\":") ∷ bytes (decimal (100 + p)) ∷ bytes (codes "},\n") ∷ []))

  pub process_ordered : Adds (names.process_order p l) (process_order (2 + 32 * l.level + p) (100 + p) ∷ [])
  process_ordered =
      let level = is.level in
      orders_process (decimal (2 + 32 * l.level + p)) (decimal (100 + p)) (2 + 32 * l.level + p) (100 + p) (names.process_order p l) (counted (2 + 32 * l.level + p) (omega (arith, level, few, small))) pid_is
      (taken_apart (codes "{\"args\":{\"sort_index\":") (bytes (decimal (2 + 32 * l.level + p)) ∷ bytes (codes "},\"name\":\"process_sort_index\",\"ph\":\"M\",\"pid\":") ∷ bytes (decimal (100 + p)) ∷ bytes (codes "},\n") ∷ []))

abbrev level_words : ℕ → ℕ → List ℕ
level_words j period = codes "level " ++ decimal j ++ codes " period " ++ decimal period

level_words_safe : (j period : ℕ) → Safe (level_words j period)
level_words_safe j period =
    both ((codes "level " ++ decimal j) ++ codes " period ") (decimal period)
    (both (codes "level " ++ decimal j) (codes " period ") (both (codes "level ") (decimal j) refl (decimal_safe j)) refl) (decimal_safe period)

module _ (j : ℕ) (few : j < 12) where
  level_place : IsPlace (level_track j).pid (level_track j).tid
  level_place = placed (level_track j).pid (level_track j).tid (omega arith) (omega (arith, few))

  pub level_named : (period : ℕ) → Adds (windows.level_name j period) (track_name (level_words j period) (level_track j).pid (level_track j).tid ∷ [])
  level_named period =
      names_track (level_words j period) _ _ (level_track j).pid (level_track j).tid (windows.level_name j period) (level_words_safe j period) level_place.process level_place.thread
      (taken_apart (codes "{\"args\":{\"name\":\"") (bytes (level_words j period) ∷ bytes (codes "\"},\"name\":\"thread_name\",\"ph\":\"M\"") ∷ place (level_track j).pid (level_track j).tid ∷ bytes (codes "},\n") ∷ []))

  pub level_ordered : Adds (windows.level_order j) (track_order (2 + j) (level_track j).pid (level_track j).tid ∷ [])
  level_ordered =
      let args = count_args (codes "sort_index") (decimal (2 + j)) (2 + j) refl (counted (2 + j) (omega (arith, few))) in
      adds_one (thread_json (one_member (codes "sort_index") (number (decimal (2 + j)))) (codes "thread_sort_index") _ _) _ (windows.level_order j)
      (thread_is _ _ args (codes "thread_sort_index") _ _ (level_track j).pid (level_track j).tid refl level_place.process level_place.thread)
      (taken_apart (codes "{\"args\":{\"sort_index\":") (bytes (decimal (2 + j)) ∷ bytes (codes "},\"name\":\"thread_sort_index\",\"ph\":\"M\"") ∷ place (level_track j).pid (level_track j).tid ∷ bytes (codes "},\n") ∷ []))

  -- ---- windows

  pub window_sliced : (w first last : ℕ) → w < 2 ^ 64 → first < 2 ^ 64 → last < 2 ^ 64 → Adds (windows.window_slice j w first last) (window_slice j w first last ∷ [])
  window_sliced w first last small begins ends =
      let args = count_args (codes "window") (decimal w) w refl (counted w small) in
      let name = codes "window " ++ decimal w in
      adds_one (slice_json (one_member (codes "window") (number (decimal w))) (codes "window") (last - first) name (level_track j).pid (level_track j).tid first) _ (windows.window_slice j w first last)
      (slice_is _ _ args (codes "window") (last - first) name (level_track j).pid (level_track j).tid first refl (both (codes "window ") (decimal w) refl (decimal_safe w)) level_place (omega (arith, ends)) begins)
      (taken_apart (codes "{\"args\":{\"window\":") (bytes (decimal w) ∷ bytes (codes "},\"cat\":\"window\",\"dur\":") ∷ bytes (decimal (last - first)) ∷ bytes (codes ",\"name\":\"window ") ∷ bytes (decimal w)
      ∷ bytes (codes "\",\"ph\":\"X\"") ∷ place (level_track j).pid (level_track j).tid ∷ bytes (codes ",\"ts\":") ∷ bytes (decimal first) ∷ bytes (codes "},\n") ∷ []))

-- ---- the windows that were overrun

pub overrun_marked : (o : Overrun) → IsPlace (thread_track o.thread).pid (thread_track o.thread).tid → window_of o < 2 ^ 64 → o.last < 2 ^ 64 → Adds (overrun_instant o) (overrun_mark o ∷ [])
overrun_marked o at small last =
    let w = window_of o in
    let args = count_args (codes "window") (decimal w) w refl (counted w small) in
    let name = codes "overran window " ++ decimal w in
    adds_one (marked_json (one_member (codes "window") (number (decimal w))) (codes "overrun") name (thread_track o.thread).pid (thread_track o.thread).tid o.last) (overrun_mark o) (overrun_instant o)
    (marked_is _ _ args (codes "overrun") name (thread_track o.thread).pid (thread_track o.thread).tid o.last refl (both (codes "overran window ") (decimal w) refl (decimal_safe w)) at last)
    (taken_apart (codes "{\"args\":{\"window\":") (bytes (decimal w) ∷ bytes (codes "},\"cat\":\"overrun\",\"name\":\"overran window ") ∷ bytes (decimal w)
    ∷ bytes (codes "\",\"ph\":\"i\",\"s\":\"t\"") ∷ place (thread_track o.thread).pid (thread_track o.thread).tid ∷ bytes (codes ",\"ts\":") ∷ bytes (decimal o.last) ∷ bytes (codes "},\n") ∷ []))

-- ---- the slack counter

pub slack_pointed : (tick : ℕ) (gs : List LedgerLine) → tick < 2 ^ 64 → (slack_in gs).reclaimed < 2 ^ 64 → (slack_in gs).timeline < 2 ^ 64 → Adds (point_text tick (slack_in gs)) (slack_value tick gs ∷ [])
slack_pointed tick gs small few less =
    let args = slack_args (slack_in gs).reclaimed (slack_in gs).timeline few less in
    adds_one (counter_json _ (codes "slack") (codes "1") tick) (slack_value tick gs) (point_text tick (slack_in gs)) (counter_is _ _ args (codes "slack") (codes "1") tick refl (digit 1 (omega arith)) small)
    (taken_apart (codes "{\"args\":{\"reclaimed\":") (bytes (decimal (slack_in gs).reclaimed) ∷ bytes (codes ",\"timeline\":") ∷ bytes (decimal (slack_in gs).timeline)
    ∷ bytes (codes "},\"name\":\"slack\",\"ph\":\"C\",\"pid\":1,\"ts\":") ∷ bytes (decimal tick) ∷ bytes (codes "},\n") ∷ []))

module _ (h : Heading) (is : IsReadableHeading h) where
  -- ---- holds

  pub hold_sliced : (m : ℕ) (x : ThreadId) (first last : ℕ) → m < 16 → first < 2 ^ 64 → last < 2 ^ 64 → Adds (holds.hold_slice h m x first last) (hold_slice h m x first last ∷ [])
  hold_sliced m x first last few begins ends =
      let args = count_args (codes "mutex") (decimal m) m refl (counted m (omega (arith, few))) in
      let at = placed (mutex_track m).pid (mutex_track m).tid (omega arith) (omega (arith, few)) in
      adds_one (slice_json (one_member (codes "mutex") (number (decimal m))) (codes "hold") (last - first) (thread_text h x) (mutex_track m).pid (mutex_track m).tid first) _ (holds.hold_slice h m x first last)
      (slice_is _ _ args (codes "hold") (last - first) (thread_text h x) (mutex_track m).pid (mutex_track m).tid first refl (thread_safe h (printable h is) x) at (omega (arith, ends)) begins)
      (taken_apart (codes "{\"args\":{\"mutex\":") (bytes (decimal m) ∷ bytes (codes "},\"cat\":\"hold\",\"dur\":") ∷ bytes (decimal (last - first)) ∷ bytes (codes ",\"name\":\"") ∷ bytes (thread_text h x)
      ∷ bytes (codes "\",\"ph\":\"X\"") ∷ place (mutex_track m).pid (mutex_track m).tid ∷ bytes (codes ",\"ts\":") ∷ bytes (decimal first) ∷ bytes (codes "},\n") ∷ []))

  -- ---- groups

  module _ (g : LedgerLine) (fits : IsReadableLine h g) where
    pub group_sliced : Adds (slices.slice_text h g) (group_slice h g ∷ [])
    group_sliced =
        let short = fits.short in
        let args = text_args (codes "line") (line_body h g) refl (line_safe h (printable h is) g) in
        adds_one (slice_json (one_member (codes "line") (string (line_body h g))) (category g.label) g.count (word_text g.label) (track_of g.label).pid (track_of g.label).tid g.start) (group_slice h g) (slices.slice_text h g)
        (slice_is _ _ args (category g.label) g.count (word_text g.label) (track_of g.label).pid (track_of g.label).tid g.start (category_safe g.label) (label_word_safe g.label) (label_place h is g.label fits.label)
        (omega (arith, short)) (omega (arith, short)))
        (behind_apart (codes "{\"args\":{\"line\":\"") (line_body h g) (codes "\"},\"cat\":\"") (bytes (category g.label) ∷ bytes (codes "\",\"dur\":") ∷ bytes (decimal g.count) ∷ bytes (codes ",\"name\":\"")
        ∷ bytes (word_text g.label) ∷ bytes (codes "\",\"ph\":\"X\"") ∷ place (track_of g.label).pid (track_of g.label).tid ∷ bytes (codes ",\"ts\":") ∷ bytes (decimal g.start) ∷ bytes (codes "},\n") ∷ []))

    pub event_shown : (e : Option Event) → IfSome e (HasEvent (size_in h)) → Adds (slices.event_lines g e) (instants g e)
    event_shown None own = adds_none
    event_shown (Some e) own =
        let short = fits.short in
        let tick = g.start + (g.count - 1) in
        adds_one (instant_json (word_of e) (event_text e) (track_of g.label).pid (track_of g.label).tid tick) _ (slices.instant_text g e)
        (instant_is (word_of e) (event_text e) (track_of g.label).pid (track_of g.label).tid tick (kind_safe e) (event_safe e) (label_place h is g.label fits.label) (omega (arith, short)))
        (taken_apart (codes "{\"cat\":\"") (bytes (word_of e) ∷ bytes (codes "\",\"name\":\"") ∷ bytes (event_text e) ∷ bytes (codes "\",\"ph\":\"i\",\"s\":\"t\"") ∷ place (track_of g.label).pid (track_of g.label).tid
        ∷ bytes (codes ",\"ts\":") ∷ bytes (decimal tick) ∷ bytes (codes "},\n") ∷ []))
