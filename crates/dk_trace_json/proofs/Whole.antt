-- The events of a whole trace, part by part.
use Rattle.std.proofs.Common.{ℕ, zero, suc, ◌≡◌, ◌+◌, ◌-◌, ◌/◌, ◌<◌, ◌≤◌, ◌^◌, ◌++◌, ◌==◌, [], ◌∷◌, List, length, ap, sym, refl, subst, arith, codes, append_assoc, length-append, length-drop, drop, ◌*◌, le-mul_of_pos_right}
use Rattle.std.specs.Prelude.{Bool, true, false, Some, None, Option, IfSome, flat_map, max, min, nat_lt, slice_get, if◌then◌else◌}
use Rattle.std.specs.List.{AllByRecursion}
use Rattle.std.proofs.lemmas.Grind.{flat_map-append}
use Rattle.std.proofs.lemmas.List.{length-take}
use Rattle.std.proofs.lemmas.List.Sums.{count_by-le-length}
use Rattle.std.proofs.lemmas.Bool.{eqb-false}
use borrow.Author.Tests.{ltb-true}
use Rattle.serde_json.specs.Data.{Data}
use Rattle.serde_json.specs.Read.{read}
use Rattle.dk_config.specs.Sums.{numbers}
use Rattle.dk_certify.specs.declared.table.TableRow.{TableRow}
use Rattle.dk_trace.specs.declared.ThreadId.{ThreadId}
use Rattle.dk_trace.specs.declared.Entry.{Entry}
use Rattle.dk_trace.specs.Entries.{thread_of}
use Rattle.dk_trace.specs.Ranges.{HasThread}
use Rattle.dk_ledger.specs.declared.line.LedgerLine.{LedgerLine}
use Rattle.dk_ledger.specs.declared.header.ProcessLine.{ProcessLine}
use Rattle.dk_ledger.specs.Heading.{Heading}
use Rattle.dk_ledger.specs.Cuts.{entries_of}
use Rattle.dk_ledger.specs.Readable.{IsReadable, IsReadableHeading, IsProcessLine, size_in}
use Rattle.dk_ledger.proofs.EntryLists.{IsReadableLine}
use Rattle.dk_groups.specs.Groups.{groups}
use Rattle.dk_groups.proofs.Readable.{groups_readable}
use Rattle.dk_groups.proofs.Slices.{whole_slice}
use Rattle.dk_groups.specs.Below.{texts_below}
use Rattle.dk_holds.specs.declared.holding.Holding.{Holding}
use Rattle.dk_holds.specs.Holds.{ended, holding, last_entry}
use Rattle.dk_trace_events.specs.Texts.{texts_behind}
use Rattle.dk_trace_events.specs.Slices.{group_objects}
use Rattle.dk_trace_events.specs.SlackPoints.{is_as_before, is_reclaimed, is_timeline, point_text, point_where, slack_in, start_point}
use Rattle.dk_trace_events.specs.Names.{child_name, made_by, process_texts}
use Rattle.dk_trace_events.specs.HoldSlices as holds
use Rattle.dk_trace_events.specs.LevelWindows as windows
use Rattle.dk_trace_events.specs.Behind.{line_text, past_of}
use Rattle.dk_trace_events.specs.Traces.{trace_text}
use Rattle.dk_entry_words.proofs.ReadBack.{printable}
use Rattle.dk_trace_events.proofs.Safe.{both, thread_safe}
use Rattle.dk_trace_json.specs.Values.{child_values, group_values, head_values, hold_slice, hold_values, levels_values, line_values, mutex_names, of_mutexes, processes_values, shown_window, slack_value, slack_values, start_values, trace_value, values_behind, window_slice, windows_of}
use Rattle.dk_trace_json.proofs.Overruns.{overruns_add}
use Rattle.dk_trace_json.proofs.Reading.{Adds, adds_both, adds_each, adds_none, all_read, digit}
use Rattle.dk_trace_json.proofs.Objects.{event_shown, group_sliced, hold_sliced, last_read, level_named, level_ordered, mutex_named, names_process, names_track, orders_process, process_labelled, process_named, process_ordered, slack_pointed, thread_named, window_sliced}
use Rattle.dk_trace_json.proofs.Words.{child_known, event_known, process_safe, thread_known, thread_place, thread_small}

-- ---- the head

abbrev kernel_process : List ℕ
kernel_process = codes "{\"args\":{\"name\":\"kernel\"},\"name\":\"process_name\",\"ph\":\"M\",\"pid\":1},\n"

abbrev kernel_order : List ℕ
kernel_order = codes "{\"args\":{\"sort_index\":0},\"name\":\"process_sort_index\",\"ph\":\"M\",\"pid\":1},\n"

abbrev kernel_track : List ℕ
kernel_track = codes "{\"args\":{\"name\":\"kernel\"},\"name\":\"thread_name\",\"ph\":\"M\",\"pid\":1,\"tid\":1},\n"

abbrev idle_track : List ℕ
idle_track = codes "{\"args\":{\"name\":\"idle\"},\"name\":\"thread_name\",\"ph\":\"M\",\"pid\":1,\"tid\":2},\n"

abbrev mutexes_process : List ℕ
mutexes_process = codes "{\"args\":{\"name\":\"mutexes\"},\"name\":\"process_name\",\"ph\":\"M\",\"pid\":2},\n"

abbrev mutexes_order : List ℕ
mutexes_order = codes "{\"args\":{\"sort_index\":1},\"name\":\"process_sort_index\",\"ph\":\"M\",\"pid\":2},\n"

abbrev head_lines : List ℕ
head_lines = kernel_process ++ (kernel_order ++ (kernel_track ++ (idle_track ++ (mutexes_process ++ mutexes_order))))

head_adds : Adds head_lines head_values
head_adds =
    let zero_is = digit 0 (omega arith) in
    let one = digit 1 (omega arith) in
    let two = digit 2 (omega arith) in
    adds_both {s = kernel_process} (names_process (codes "kernel") (codes "1") 1 kernel_process refl one (λ r. refl))
    (adds_both {s = kernel_order} (orders_process (codes "0") (codes "1") 0 1 kernel_order zero_is one (λ r. refl))
    (adds_both {s = kernel_track} (names_track (codes "kernel") (codes "1") (codes "1") 1 1 kernel_track refl one one (λ r. refl))
    (adds_both {s = idle_track} (names_track (codes "idle") (codes "1") (codes "2") 1 2 idle_track refl one two (λ r. refl))
    (adds_both {s = mutexes_process} {t = mutexes_order} (names_process (codes "mutexes") (codes "2") 2 mutexes_process refl two (λ r. refl)) (orders_process (codes "1") (codes "2") 1 2 mutexes_order one two (λ r. refl))))))

-- ---- mutexes

mutexes_add : (f : ℕ → List ℕ) (g : ℕ → List Data) (n : ℕ) → ((m : ℕ) → m < n → Adds (f m) (g m)) → Adds (texts_below f n) (of_mutexes g n)
unfolding texts_below of_mutexes
mutexes_add f g zero one = adds_none
mutexes_add f g (suc m) one = adds_both (mutexes_add f g m (λ k less. one k (omega arith))) (one m (omega arith))

mutexes_named : Adds holds.mutex_names mutex_names
mutexes_named = mutexes_add holds.mutex_name _ 16 mutex_named

-- ---- windows

module _ (from to : ℕ) (short : to < 2 ^ 64) where
  module _ (j : ℕ) (few : j < 12) (period : ℕ) where
    window_shown : 0 < period → (w : ℕ) → Adds (windows.shown_window from to j period w) (shown_window from to j period w)
    window_shown some w = go (nat_lt (max (w * period) from) (min (w * period + period) to)) refl
      where
        go : (b : Bool) → nat_lt (max (w * period) from) (min (w * period + period) to) ≡ b
            → Adds (if b then windows.window_slice j w (max (w * period) from) (min (w * period + period) to) else []) (if b then window_slice j w (max (w * period) from) (min (w * period + period) to) ∷ [] else [])
        go true is =
            let less : max (w * period) from < min (w * period + period) to = ltb-true _ _ is in
            let begins : w ≤ w * period = le-mul_of_pos_right w some in
            window_sliced j few w (max (w * period) from) (min (w * period + period) to) (omega (arith, less, begins, short)) (omega (arith, less, short)) (omega (arith, short))
        go false is = adds_none

    windows_add : Adds (windows.windows_of from to j period) (windows_of from to j period)
    windows_add = go (period == 0) refl
      where
        go : (b : Bool) → (period == 0) ≡ b → Adds (if b then [] else flat_map (windows.shown_window from to j period) (numbers (from / period) (to / period + 1 - from / period)))
            (if b then [] else flat_map (shown_window from to j period) (numbers (from / period) (to / period + 1 - from / period)))
        go true is = adds_none
        go false is =
            let other : period ≡ 0 → ⊥ = eqb-false period 0 is in
            adds_each (windows.shown_window from to j period) (shown_window from to j period) (window_shown (omega (arith, other))) (numbers (from / period) (to / period + 1 - from / period))

  levels_add : (j : ℕ) (rows : List TableRow) → j + length rows ≤ 12 → Adds (windows.level_texts from to j rows) (levels_values from to j rows)
  levels_add j [] few = adds_none
  levels_add j (row ∷ rows) few =
      let less : j < 12 = omega (arith, few) in
      adds_both (adds_both (adds_both (level_named j less row.period) (level_ordered j less)) (windows_add j less row.period)) (levels_add (suc j) rows (omega (arith, few)))

-- ---- processes

processes_add : (levels p : ℕ) (ls : List ProcessLine) → levels ≤ 12 → p + length ls ≤ 32 → AllByRecursion (IsProcessLine levels) ls → Adds (process_texts p ls) (processes_values p ls)
processes_add levels p [] few small all = adds_none
processes_add levels p (l ∷ ls) few small all =
    let less : p < 32 = omega (arith, small) in
    let x : ThreadId = record { process = p; serial = 0 } in
    let name = both l.name (codes ".0") (process_safe levels l all.0) refl in
    adds_both
    (adds_both (adds_both (adds_both (process_named levels p l all.0 few less) (process_labelled levels p l all.0 few less)) (process_ordered levels p l all.0 few less))
    (thread_named (l.name ++ codes ".0") x name (thread_small x less (omega arith))))
    (processes_add levels (suc p) ls few (omega (arith, small)) all.1)

-- ---- slack

slack_add : (tick : ℕ) (old new : List LedgerLine) → tick < 2 ^ 64 → (slack_in new).reclaimed < 2 ^ 64 → (slack_in new).timeline < 2 ^ 64
    → Adds (point_where tick (slack_in old) (slack_in new)) (slack_values tick old new)
slack_add tick old new small few less = go (is_as_before (slack_in old) (slack_in new))
  where
    go : (b : Bool) → Adds (if b then [] else point_text tick (slack_in new)) (if b then [] else slack_value tick new ∷ [])
    go true = adds_none
    go false = slack_pointed tick new small few less

-- how many entries the lines have bounds their slack
slack_small : (ls : List LedgerLine) → length (flat_map entries_of ls) ≤ 10000000 → ((slack_in ls).reclaimed < 2 ^ 64) × ((slack_in ls).timeline < 2 ^ 64)
slack_small ls few =
    let one = count_by-le-length (λ (e : Entry). is_reclaimed e.label) (flat_map entries_of ls) in
    let other = count_by-le-length (λ (e : Entry). is_timeline e.label) (flat_map entries_of ls) in
    (omega (arith, few, one), omega (arith, few, other))

module _ (h : Heading) (is : IsReadableHeading h) where
  -- ---- holds

  hold_adds : (from last m : ℕ) (o : Option Holding) → m < 16 → last < 2 ^ 64 → Adds (holds.hold_text h from last m o) (hold_values h from last m o)
  hold_adds from last m None few small = adds_none
  hold_adds from last m (Some x) few small = go (nat_lt (max x.since from) last) refl
    where
      go : (b : Bool) → nat_lt (max x.since from) last ≡ b
          → Adds (if b then holds.hold_slice h m x.thread (max x.since from) last else []) (if b then hold_slice h m x.thread (max x.since from) last ∷ [] else [])
      go true lt =
          let less : max x.since from < last = ltb-true _ _ lt in
          hold_sliced h is m x.thread (max x.since from) last few (omega (arith, less, small)) small
      go false lt = adds_none

  -- ---- lines

  child_adds : (o : Option ThreadId) → IfSome o (HasThread (size_in h)) → Adds (child_name h o) (child_values h o)
  child_adds None known = adds_none
  child_adds (Some x) known = thread_named _ x (thread_safe h (printable h is) x) (thread_place h is x known)

  line_adds : (from : ℕ) (before : List LedgerLine) (l : LedgerLine) → IsReadableLine h l → Adds (line_text h from before l) (line_values h from before l)
  line_adds from before l fits =
      let short = fits.short in
      adds_both
      (child_adds (made_by l) (child_known (size_in h) (thread_of l.label) l.event (thread_known (size_in h) l.label fits.label) (event_known (size_in h) l.label l.event fits.event)))
      (mutexes_add (λ m. holds.hold_text h from (l.start + l.count) m (ended m (last_entry l) (holding m (past_of before)))) _ 16
      (λ m few. hold_adds from (l.start + l.count) m (ended m (last_entry l) (holding m (past_of before))) few (omega (arith, short))))

  lines_add : (from : ℕ) (before ls : List LedgerLine) → AllByRecursion (IsReadableLine h) ls → Adds (texts_behind (line_text h from) before ls) (values_behind (line_values h from) before ls)
  lines_add from before [] all = adds_none
  lines_add from before (l ∷ ls) all = adds_both (line_adds from before l all.0) (lines_add from (before ++ l ∷ []) ls all.1)

  -- ---- groups

  groups_add : (before gs : List LedgerLine) → AllByRecursion (IsReadableLine h) gs → length (flat_map entries_of (before ++ gs)) ≤ 10000000
      → Adds (texts_behind (group_objects h) before gs) (values_behind (group_values h) before gs)
  groups_add before [] all few = adds_none
  groups_add before (g ∷ gs) all few =
      let whole : (before ++ g ∷ []) ++ gs ≡ before ++ g ∷ gs = append_assoc before (g ∷ []) gs in
      let later : length (flat_map entries_of ((before ++ g ∷ []) ++ gs)) ≤ 10000000 = subst (λ (ls : List LedgerLine). length (flat_map entries_of ls) ≤ 10000000) (sym whole) few in
      let parts = ap length (flat_map-append entries_of (before ++ g ∷ []) gs) in
      let sizes = length-append (flat_map entries_of (before ++ g ∷ [])) (flat_map entries_of gs) in
      let slack = slack_small (before ++ g ∷ []) (omega (arith, later, parts, sizes)) in
      let short = all.0.short in
      adds_both
      (adds_both (adds_both (group_sliced h is g all.0) (event_shown h is g all.0 g.event (event_known (size_in h) g.label g.event all.0.event)))
      (slack_add (g.start + g.count) before (before ++ g ∷ []) (omega (arith, short)) slack.0 slack.1))
      (groups_add (before ++ g ∷ []) gs all.1 later)

  start_adds : (gs : List LedgerLine) → AllByRecursion (IsReadableLine h) gs → Adds (start_point (slice_get gs 0)) (start_values (slice_get gs 0))
  start_adds [] all = adds_none
  start_adds (g ∷ gs) all = let short = all.0.short in slack_pointed g.start [] (omega (arith, short)) (omega arith) (omega arith)

-- ---- all

few_entries : (from to : ℕ) (es : List Entry) → length es ≤ 10000000 → length (flat_map entries_of (groups from to es)) ≤ 10000000
few_entries from to es few =
    let same = ap length (whole_slice from to es) in
    let taken = length-take (to - from) (drop from es) in
    let dropped = length-drop from es in
    omega (arith, few, same, taken, dropped)

pub reads_as : (h : Heading) (from to : ℕ) (es : List Entry) → IsReadable (record { heading = h; entries = es }) → to < 2 ^ 64
    → read (trace_text from to h es) ≡ Some (trace_value from to h es)
reads_as h from to es is short =
    let own = is.heading in
    let gs = groups_readable h from to es is in
    let ls = groups_readable h 0 to es is in
    let past = past_of (groups 0 to es) in
    let few : length h.levels ≤ 12 = own.few_levels in
    let rows : length h.processes ≤ 32 = own.few_processes in
    let levels = (levels_add from to short 0 h.levels (omega (arith, few))).reads _ _ last_read in
    let overran = (overruns_add h from to es is short).reads _ _ levels in
    let going_on = (mutexes_add (λ m. holds.hold_text h from to m (holding m past)) (λ m. hold_values h from to m (holding m past)) 16 (λ m less. hold_adds h own from to m (holding m past) less short)).reads _ _ overran in
    let lines = (lines_add h own from [] (groups 0 to es) ls).reads _ _ going_on in
    let shown = (adds_both (start_adds h own (groups from to es) gs) (groups_add h own [] (groups from to es) gs (few_entries from to es is.short))).reads _ _ lines in
    let names = (adds_both mutexes_named (processes_add (length h.levels) 0 h.processes few (omega (arith, rows)) own.processes)).reads _ _ shown in
    all_read _ _ (head_adds.reads _ _ names)
