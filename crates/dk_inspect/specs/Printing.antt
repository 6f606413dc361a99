-- What contracts see of the lines of a kernel's state.
use Rattle.std.specs.Prelude.{ℕ, ◌≡◌, true, [], List, ◌++◌, length, map, filter, flat_map, codes, decimal, Option, option_map, slice_get}
use Rattle.std.specs.List.{list_any}
use Rattle.std.specs.Option.{option_map_or}
use Rattle.dk_config.specs.Configuration.{Configuration}
use Rattle.dk_config.specs.Sums.{below}
use Rattle.dk_trace.specs.declared.ThreadId.{ThreadId}
use Rattle.dk_trace.specs.Threads.{Thread, family, threads}
use Rattle.dk_cpu.specs.declared.Context.{Context}
use Rattle.dk_threads.specs.declared.row.State.{State}
use Rattle.dk_threads.specs.declared.row.ThreadRow.{ThreadRow}
use Rattle.dk_threads.specs.Recount.{counted_row, is_there, unplaced}
use Rattle.dk_ledger.specs.Heading.{Heading, ended, line_of_row}
use Rattle.dk_kernel.specs.Running.{Running, world_of, trace_of}
use Rattle.dk_inspect.specs.View.{is_shown, level_line, registers, thread_line}

-- the header is that of the configuration
pub record IsHeaderOf (c : Configuration) (h : Heading) : Type 0 where
  pub levels : length h.levels ≡ length c.levels
  pub processes : h.processes ≡ map line_of_row c.processes

-- the present tick
abbrev pub now_of : Running → ℕ
now_of k = length (trace_of k)

unfoldable pub level_line_of : Running → ℕ → List ℕ
level_line_of k j = level_line k.config (now_of k) (trace_of k) j

abbrev pub word_of : State → List ℕ
word_of State.Starting = codes "starting"
word_of State.Live = codes "live"
word_of State.Stopped = codes "stopped"

-- what a line says of a context
abbrev pub context_part : Context → List ℕ
context_part context =
    codes " pc " ++ decimal context.pc ++ codes " left " ++ decimal context.left ++ codes " regs"
    ++ registers context.regs

-- the threads of a process that are shown, by serial
unfoldable pub shown_of : Running → ℕ → List Thread
shown_of k p = filter (is_shown k.config (now_of k)) (family k.config p (trace_of k))

-- the row is that of the thread at this place among them, and there is none where they are not so many
abbrev pub IsRowAt : Running → ℕ → ℕ → Option ThreadRow → Type 0
IsRowAt k p place row =
    option_map unplaced row ≡ option_map (counted_row k.config (now_of k)) (slice_get (shown_of k p) place)

unfoldable pub thread_line_of : Running → Thread → List ℕ
thread_line_of k x = thread_line k.config (now_of k) (world_of k) x

-- the thread of that name is one of the process's, and has a row
pub record IsThereIn (k : Running) (p : ℕ) (id : ThreadId) : Type 0 where
  pub process : id.process ≡ p
  pub there : list_any (is_there k.config (now_of k) id) (threads k.config (trace_of k)) ≡ true

-- the text is that thread's line
abbrev pub IsTextAt : Running → ℕ → ℕ → Option (List ℕ) → Type 0
IsTextAt k p place text = option_map ended text ≡ option_map (thread_line_of k) (slice_get (shown_of k p) place)

-- the line of the thread at this place, and nothing where there is none
unfoldable pub line_at : Running → ℕ → ℕ → List ℕ
line_at k p place = option_map_or (thread_line_of k) (slice_get (shown_of k p) place) []

unfoldable pub process_lines : Running → ℕ → List ℕ
process_lines k p = flat_map (thread_line_of k) (shown_of k p)

unfoldable pub all_lines : Running → List ℕ
all_lines k = flat_map (process_lines k) (below (length k.config.processes))
