-- The thread of a label, behind what its ticks are for.
use Rattle.std.specs.Prelude.{ℕ, ◌++◌, [], List, codes, Option, Some, None}
use Rattle.dk_trace.specs.declared.ThreadId.{ThreadId}
use Rattle.dk_ledger.specs.Heading.{Heading}
use Rattle.dk_ledger.specs.LineText.{thread_text}

-- the thread, parted by a blank from what its ticks are for
abbrev pub thread_part : Heading → Option ThreadId → List ℕ
thread_part h None = []
thread_part h (Some x) = codes " " ++ thread_text h x
