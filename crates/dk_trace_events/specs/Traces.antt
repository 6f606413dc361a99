-- The text of a trace.
use Rattle.std.specs.Prelude.{ℕ, ◌≡◌, ◌++◌, [], List, codes, slice_get, Option}
use Rattle.dk_trace.specs.declared.Entry.{Entry}
use Rattle.dk_ledger.specs.declared.line.LedgerLine.{LedgerLine}
use Rattle.dk_ledger.specs.Heading.{Heading}
use Rattle.dk_ledger.specs.Readable.{Journal}
use Rattle.dk_groups.specs.Groups.{groups}
use Rattle.dk_groups.specs.Cutting.{Cutting, ComesNext}
use Rattle.dk_overrun_spans.specs.declared.overrun.Overrun.{Overrun}
use Rattle.dk_overrun_spans.specs.Overruns.{overruns}
use Rattle.dk_trace_events.specs.Texts.{texts_behind}
use Rattle.dk_trace_events.specs.Slices.{group_objects}
use Rattle.dk_trace_events.specs.SlackPoints.{start_point}
use Rattle.dk_trace_events.specs.Names.{process_texts}
use Rattle.dk_trace_events.specs.HoldSlices.{mutex_names, open_holds}
use Rattle.dk_trace_events.specs.LevelWindows.{level_texts}
use Rattle.dk_trace_events.specs.OverrunInstants.{overruns_text}
use Rattle.dk_trace_events.specs.Behind.{lines_text, past_of}

-- what a trace begins with: the tracks of the kernel and of the ticks of nobody, and the process of the mutexes
abbrev pub head_text : List ℕ
head_text =
    codes "{\"displayTimeUnit\":\"ms\",\"traceEvents\":[\n{\"args\":{\"name\":\"kernel\"},\"name\":\"process_name\",\"ph\":\"M\",\"pid\":1},\n{\"args\":{\"sort_index\":0},\"name\":\"process_sort_index\",\"ph\":\"M\",\"pid\":1},\n{\"args\":{\"name\":\"kernel\"},\"name\":\"thread_name\",\"ph\":\"M\",\"pid\":1,\"tid\":1},\n{\"args\":{\"name\":\"idle\"},\"name\":\"thread_name\",\"ph\":\"M\",\"pid\":1,\"tid\":2},\n{\"args\":{\"name\":\"mutexes\"},\"name\":\"process_name\",\"ph\":\"M\",\"pid\":2},\n{\"args\":{\"sort_index\":1},\"name\":\"process_sort_index\",\"ph\":\"M\",\"pid\":2},\n"

-- and with what it ends
abbrev pub tail_text : List ℕ
tail_text = codes "{\"args\":{\"sort_index\":1},\"name\":\"thread_sort_index\",\"ph\":\"M\",\"pid\":1,\"tid\":2}\n]}\n"

-- the windows that were overrun, the tracks of the levels with their windows, and with what a trace ends
abbrev pub end_text : ℕ → ℕ → Heading → List Overrun → List ℕ
end_text from to h os = overruns_text from to os ++ (level_texts from to 0 h.levels ++ tail_text)

abbrev pub objects_text : Heading → List LedgerLine → List ℕ
objects_text h gs = texts_behind (group_objects h) [] gs

-- the groups, with the counter of slack
abbrev pub groups_text : Heading → List LedgerLine → List ℕ
groups_text h gs = start_point (slice_get gs 0) ++ objects_text h gs

-- The trace of the groups of a range: the names of the mutexes' and the processes' tracks, the groups, what all lines up
-- to its end add, the holds that go on there, the windows that were overrun, and those of the levels.
abbrev pub trace_text : ℕ → ℕ → Heading → List Entry → List ℕ
trace_text from to h es =
    head_text ++ ((mutex_names ++ process_texts 0 h.processes)
    ++ (groups_text h (groups from to es)
    ++ (lines_text h from (groups 0 to es) ++ (open_holds h from to (past_of (groups 0 to es)) ++ end_text from to h (overruns h es)))))

-- A trace that is ready to be written: the header, two readers, each with the first of what it gives, and the windows that
-- were overrun.
pub record Tracing : Type 0 where
  pub heading : Heading
  pub groups : Cutting
  pub first : Option LedgerLine
  pub lines : Cutting
  pub first_line : Option LedgerLine
  pub overruns : List Overrun

-- it is that of the ledger, in this range
pub record IsTraceOf (j : Journal) (lo hi : ℕ) (t : Tracing) : Type 0 where
  pub heading : t.heading ≡ j.heading
  pub first : ComesNext j [] t.first t.groups
  pub from : t.groups.from ≡ lo
  pub to : t.groups.to ≡ hi
  pub first_line : ComesNext j [] t.first_line t.lines
  pub begins : t.lines.from ≡ 0
  pub ends : t.lines.to ≡ hi
  pub overruns : t.overruns ≡ overruns j.heading j.entries
