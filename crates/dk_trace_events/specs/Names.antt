-- The names of the tracks.
use Rattle.std.specs.Prelude.{ℕ, suc, ◌+◌, ◌*◌, ◌++◌, ◌∷◌, [], List, codes, decimal, Option, Some, None}
use Rattle.dk_trace.specs.declared.ThreadId.{ThreadId}
use Rattle.dk_trace.specs.declared.Event.{Event}
use Rattle.dk_trace.specs.Entries.{thread_of}
use Rattle.dk_ledger.specs.declared.line.LedgerLine.{LedgerLine}
use Rattle.dk_ledger.specs.declared.header.ProcessLine.{ProcessLine}
use Rattle.dk_ledger.specs.Heading.{Heading}
use Rattle.dk_ledger.specs.LineText.{thread_text}
use Rattle.dk_trace_events.specs.Words.{thread_track}
use Rattle.dk_trace_events.specs.Slices.{place_text}

-- of process p, its name
abbrev pub process_name : ℕ → ProcessLine → List ℕ
process_name p l =
    codes "{\"args\":{\"name\":\"" ++ l.name ++ codes "\"},\"name\":\"process_name\",\"ph\":\"M\",\"pid\":"
    ++ decimal (100 + p) ++ codes "},\n"

-- its level and its budget
abbrev pub process_labels : ℕ → ProcessLine → List ℕ
process_labels p l =
    codes "{\"args\":{\"labels\":\"level " ++ decimal l.level ++ codes " budget " ++ decimal l.budget
    ++ codes "\"},\"name\":\"process_labels\",\"ph\":\"M\",\"pid\":" ++ decimal (100 + p) ++ codes "},\n"

-- its place among the others: by level, and then by its row
abbrev pub process_order : ℕ → ProcessLine → List ℕ
process_order p l =
    codes "{\"args\":{\"sort_index\":" ++ decimal (2 + 32 * l.level + p)
    ++ codes "},\"name\":\"process_sort_index\",\"ph\":\"M\",\"pid\":" ++ decimal (100 + p) ++ codes "},\n"

-- what stands behind the name of a thread's track
abbrev pub track_end : ThreadId → List ℕ
track_end x = codes "\"},\"name\":\"thread_name\",\"ph\":\"M\"" ++ place_text (thread_track x) ++ codes "},\n"

abbrev pub track_name : List ℕ → ThreadId → List ℕ
track_name name x = codes "{\"args\":{\"name\":\"" ++ (name ++ track_end x)

abbrev pub process_text : ℕ → ProcessLine → List ℕ
process_text p l =
    process_name p l ++ process_labels p l ++ process_order p l
    ++ track_name (l.name ++ codes ".0") (record { process = p; serial = 0 })

-- of the processes from row p on
abbrev pub process_texts : ℕ → List ProcessLine → List ℕ
process_texts p [] = []
process_texts p (l ∷ ls) = process_text p l ++ process_texts (suc p) ls

-- the child that the thread makes by its event
abbrev pub child_of : Option ThreadId → Option Event → Option ThreadId
child_of (Some x) (Some (Event.Create serial level quota)) = Some (record { process = x.process; serial = serial })
child_of _ _ = None

abbrev pub made_by : LedgerLine → Option ThreadId
made_by l = child_of (thread_of l.label) l.event

abbrev pub child_name : Heading → Option ThreadId → List ℕ
child_name h None = []
child_name h (Some x) = track_name (thread_text h x) x

-- the name of the child that the line's event makes
abbrev pub made_name : Heading → LedgerLine → List ℕ
made_name h l = child_name h (made_by l)
