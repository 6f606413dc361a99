-- The text of a group: a slice, for its event an instant, and where it is on slack the counter's point behind it. Each is
-- an object on a line of its own.
use Rattle.std.specs.Prelude.{ℕ, ◌+◌, ◌-◌, ◌++◌, [], List, codes, decimal, Option, Some, None}
use Rattle.dk_trace.specs.declared.Event.{Event}
use Rattle.dk_trace.specs.Says.{word_of}
use Rattle.dk_ledger.specs.declared.line.LedgerLine.{LedgerLine}
use Rattle.dk_ledger.specs.Heading.{Heading}
use Rattle.dk_ledger.specs.LineText.{event_text, line_body}
use Rattle.dk_trace_events.specs.declared.tracks.Track.{Track}
use Rattle.dk_trace_events.specs.Words.{category, track_of, word_text}
use Rattle.dk_trace_events.specs.SlackPoints.{slack_point}

abbrev pub place_text : Track → List ℕ
place_text t = codes ",\"pid\":" ++ decimal t.pid ++ codes ",\"tid\":" ++ decimal t.tid

-- what stands behind the ledger's line
abbrev pub slice_rest : LedgerLine → List ℕ
slice_rest g =
    codes "\"},\"cat\":\"" ++ category g.label ++ codes "\",\"dur\":" ++ decimal g.count ++ codes ",\"name\":\""
    ++ word_text g.label ++ codes "\",\"ph\":\"X\"" ++ place_text (track_of g.label) ++ codes ",\"ts\":"
    ++ decimal g.start ++ codes "},\n"

-- a slice has the line that the group would be in a ledger
abbrev pub slice_text : Heading → LedgerLine → List ℕ
slice_text h g = codes "{\"args\":{\"line\":\"" ++ (line_body h g ++ slice_rest g)

-- an event is in the last tick of its slice
abbrev pub instant_text : LedgerLine → Event → List ℕ
instant_text g e =
    codes "{\"cat\":\"" ++ word_of e ++ codes "\",\"name\":\"" ++ event_text e ++ codes "\",\"ph\":\"i\",\"s\":\"t\""
    ++ place_text (track_of g.label) ++ codes ",\"ts\":" ++ decimal (g.start + (g.count - 1)) ++ codes "},\n"

abbrev pub event_lines : LedgerLine → Option Event → List ℕ
event_lines g None = []
event_lines g (Some e) = instant_text g e

abbrev pub group_text : Heading → LedgerLine → List ℕ
group_text h g = slice_text h g ++ event_lines g g.event

-- all that a group adds behind those before it
abbrev pub group_objects : Heading → List LedgerLine → LedgerLine → List ℕ
group_objects h before g = group_text h g ++ slack_point before g
