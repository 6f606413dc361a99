-- The value that a trace is: which events there are, and what they say.
use Rattle.std.specs.Prelude.{ℕ, zero, suc, ◌+◌, ◌-◌, ◌*◌, ◌/◌, ◌++◌, ◌==◌, [], ◌∷◌, List, codes, decimal, flat_map, max, min, nat_lt, slice_get, Option, Some, None, if◌then◌else◌}
use Rattle.serde_json.specs.Data.{Data, string, array}
use Rattle.serde_json.specs.View.{items_of}
use Rattle.dk_config.specs.declared.TheConstants.{MAX_MUTEXES}
use Rattle.dk_config.specs.Sums.{numbers}
use Rattle.dk_certify.specs.declared.table.TableRow.{TableRow}
use Rattle.dk_trace.specs.declared.ThreadId.{ThreadId}
use Rattle.dk_trace.specs.declared.Event.{Event}
use Rattle.dk_trace.specs.declared.Entry.{Entry}
use Rattle.dk_trace.specs.Says.{word_of}
use Rattle.dk_ledger.specs.declared.line.LedgerLine.{LedgerLine}
use Rattle.dk_ledger.specs.declared.header.ProcessLine.{ProcessLine}
use Rattle.dk_ledger.specs.Heading.{Heading}
use Rattle.dk_ledger.specs.LineText.{event_text, line_body, thread_text}
use Rattle.dk_groups.specs.Groups.{groups}
use Rattle.dk_holds.specs.declared.holding.Holding.{Holding}
use Rattle.dk_holds.specs.Holds.{ended, holding, last_entry}
use Rattle.dk_trace_events.specs.Words.{category, thread_track, track_of, word_text}
use Rattle.dk_trace_events.specs.SlackPoints.{is_as_before, slack_in}
use Rattle.dk_trace_events.specs.Names.{made_by}
use Rattle.dk_trace_events.specs.HoldSlices.{mutex_track}
use Rattle.dk_trace_events.specs.LevelWindows.{level_track}
use Rattle.dk_overrun_spans.specs.declared.overrun.Overrun.{Overrun}
use Rattle.dk_overrun_spans.specs.Overruns.{overruns}
use Rattle.dk_trace_events.specs.OverrunInstants.{is_shown, window_of}
use Rattle.dk_trace_events.specs.Behind.{past_of}
use Rattle.dk_trace_json.specs.Events.{argument, count, counter_event, instant_event, made, marked_event, process_event, slice_event, thread_event}

-- ---- names of tracks, and their places

abbrev pub process_name : List ℕ → ℕ → Data
process_name name pid = process_event (codes "process_name") (argument (codes "name") (string name)) pid

abbrev pub process_order : ℕ → ℕ → Data
process_order place pid = process_event (codes "process_sort_index") (argument (codes "sort_index") (count place)) pid

abbrev pub track_name : List ℕ → ℕ → ℕ → Data
track_name name pid tid = thread_event (codes "thread_name") (argument (codes "name") (string name)) pid tid

abbrev pub track_order : ℕ → ℕ → ℕ → Data
track_order place pid tid = thread_event (codes "thread_sort_index") (argument (codes "sort_index") (count place)) pid tid

-- of the kernel, of the ticks of nobody and of the mutexes
abbrev pub head_values : List Data
head_values =
    process_name (codes "kernel") 1 ∷ process_order 0 1 ∷ track_name (codes "kernel") 1 1 ∷ track_name (codes "idle") 1 2
    ∷ process_name (codes "mutexes") 2 ∷ process_order 1 2 ∷ []

-- of a thread
abbrev pub thread_name : List ℕ → ThreadId → Data
thread_name name x = track_name name (thread_track x).pid (thread_track x).tid

-- of process p: its name, its level and budget, its place by level and row, and the name of its main
abbrev pub process_values : ℕ → ProcessLine → List Data
process_values p l =
    process_name l.name (100 + p)
    ∷ process_event (codes "process_labels") (argument (codes "labels") (string (codes "level " ++ decimal l.level ++ codes " budget " ++ decimal l.budget))) (100 + p)
    ∷ process_order (2 + 32 * l.level + p) (100 + p)
    ∷ thread_name (l.name ++ codes ".0") (record { process = p; serial = 0 }) ∷ []

-- of the processes from row p on
abbrev pub processes_values : ℕ → List ProcessLine → List Data
processes_values p [] = []
processes_values p (l ∷ ls) = process_values p l ++ processes_values (suc p) ls

-- ---- groups

-- The values of these lines, which stand behind others, each by the lines before it.
abbrev pub values_behind : (List LedgerLine → LedgerLine → List Data) → List LedgerLine → List LedgerLine → List Data
values_behind f before [] = []
values_behind f before (l ∷ ls) = f before l ++ values_behind f (before ++ l ∷ []) ls

-- a group's slice has the line that the group would be in a ledger
abbrev pub group_slice : Heading → LedgerLine → Data
group_slice h g = slice_event (argument (codes "line") (string (line_body h g))) (category g.label) g.count (word_text g.label) (track_of g.label).pid (track_of g.label).tid g.start

-- an event is in the last tick of its group
abbrev pub instants : LedgerLine → Option Event → List Data
instants g None = []
instants g (Some e) = instant_event (word_of e) (event_text e) (track_of g.label).pid (track_of g.label).tid (g.start + (g.count - 1)) ∷ []

-- the counter of the slack of these groups, from a tick on
abbrev pub slack_value : ℕ → List LedgerLine → Data
slack_value tick gs =
    counter_event (made ((codes "reclaimed", count (slack_in gs).reclaimed) ∷ (codes "timeline", count (slack_in gs).timeline) ∷ [])) (codes "slack") tick

-- It begins at the first group, if there is one.
abbrev pub start_values : Option LedgerLine → List Data
start_values None = []
start_values (Some g) = slack_value g.start [] ∷ []

-- at a tick behind more groups, where the slack is another than before
abbrev pub slack_values : ℕ → List LedgerLine → List LedgerLine → List Data
slack_values tick old new = if is_as_before (slack_in old) (slack_in new) then [] else slack_value tick new ∷ []

abbrev pub group_values : Heading → List LedgerLine → LedgerLine → List Data
group_values h before g =
    (group_slice h g ∷ instants g g.event) ++ slack_values (g.start + g.count) before (before ++ g ∷ [])

abbrev pub groups_values : Heading → List LedgerLine → List Data
groups_values h gs = start_values (slice_get gs 0) ++ values_behind (group_values h) [] gs

-- ---- mutexes

-- of mutexes 0 to m - 1
unfoldable pub of_mutexes : (ℕ → List Data) → ℕ → List Data
of_mutexes f zero = []
of_mutexes f (suc m) = of_mutexes f m ++ f m

abbrev pub mutex_names : List Data
mutex_names = of_mutexes (λ m. track_name (codes "mutex " ++ decimal m) (mutex_track m).pid (mutex_track m).tid ∷ []) MAX_MUTEXES

-- mutex m is held by the thread from tick `first` up to before tick `last`
abbrev pub hold_slice : Heading → ℕ → ThreadId → ℕ → ℕ → Data
hold_slice h m x first last =
    slice_event (argument (codes "mutex") (count m)) (codes "hold") (last - first) (thread_text h x) (mutex_track m).pid (mutex_track m).tid first

-- of a hold up to before tick `last`, its ticks from `from` on
abbrev pub hold_values : Heading → ℕ → ℕ → ℕ → Option Holding → List Data
hold_values h from last m None = []
hold_values h from last m (Some x) =
    if nat_lt (max x.since from) last then hold_slice h m x.thread (max x.since from) last ∷ [] else []

abbrev pub ended_holds : Heading → ℕ → List Entry → LedgerLine → List Data
ended_holds h from past l =
    of_mutexes (λ m. hold_values h from (l.start + l.count) m (ended m (last_entry l) (holding m past))) MAX_MUTEXES

abbrev pub open_holds : Heading → ℕ → ℕ → List Entry → List Data
open_holds h from to past = of_mutexes (λ m. hold_values h from to m (holding m past)) MAX_MUTEXES

-- ---- what a line adds: the name of the child that it makes, and the holds that it ends

abbrev pub child_values : Heading → Option ThreadId → List Data
child_values h None = []
child_values h (Some x) = thread_name (thread_text h x) x ∷ []

abbrev pub line_values : Heading → ℕ → List LedgerLine → LedgerLine → List Data
line_values h from before l = child_values h (made_by l) ++ ended_holds h from (past_of before) l

-- ---- the windows that were overrun

-- an instant of the thread, at its last tick of the budget
abbrev pub overrun_mark : Overrun → Data
overrun_mark o =
    marked_event (argument (codes "window") (count (window_of o))) (codes "overrun") (codes "overran window " ++ decimal (window_of o)) (thread_track o.thread).pid
    (thread_track o.thread).tid o.last

-- where it is one of the range
abbrev pub shown_overrun : ℕ → ℕ → Overrun → List Data
shown_overrun from to o = if is_shown from to o then overrun_mark o ∷ [] else []

abbrev pub overruns_values : ℕ → ℕ → List Overrun → List Data
overruns_values from to os = flat_map (shown_overrun from to) os

-- ---- levels

abbrev pub window_slice : ℕ → ℕ → ℕ → ℕ → Data
window_slice j w first last =
    slice_event (argument (codes "window") (count w)) (codes "window") (last - first) (codes "window " ++ decimal w) (level_track j).pid (level_track j).tid first

-- of window w, its ticks in the range
abbrev pub shown_window : ℕ → ℕ → ℕ → ℕ → ℕ → List Data
shown_window from to j period w =
    if nat_lt (max (w * period) from) (min (w * period + period) to)
    then window_slice j w (max (w * period) from) (min (w * period + period) to) ∷ []
    else []

abbrev pub windows_of : ℕ → ℕ → ℕ → ℕ → List Data
windows_of from to j period =
    if period == 0 then [] else flat_map (shown_window from to j period) (numbers (from / period) (to / period + 1 - from / period))

abbrev pub level_values : ℕ → ℕ → ℕ → TableRow → List Data
level_values from to j row =
    (track_name (codes "level " ++ decimal j ++ codes " period " ++ decimal row.period) (level_track j).pid (level_track j).tid ∷ track_order (2 + j) (level_track j).pid (level_track j).tid ∷ [])
    ++ windows_of from to j row.period

-- of the levels from j on
abbrev pub levels_values : ℕ → ℕ → ℕ → List TableRow → List Data
levels_values from to j [] = []
levels_values from to j (row ∷ rows) = level_values from to j row ++ levels_values from to (suc j) rows

-- ---- all

-- the events of a trace, in their order
abbrev pub trace_events : ℕ → ℕ → Heading → List Entry → List Data
trace_events from to h es =
    head_values ++ ((mutex_names ++ processes_values 0 h.processes)
    ++ (groups_values h (groups from to es)
    ++ (values_behind (line_values h from) [] (groups 0 to es) ++ (open_holds h from to (past_of (groups 0 to es))
    ++ (overruns_values from to (overruns h es) ++ (levels_values from to 0 h.levels ++ track_order 1 1 2 ∷ []))))))

-- times are shown in milliseconds
abbrev pub trace_value : ℕ → ℕ → Heading → List Entry → Data
trace_value from to h es =
    made ((codes "displayTimeUnit", string (codes "ms")) ∷ (codes "traceEvents", array (items_of (trace_events from to h es))) ∷ [])
