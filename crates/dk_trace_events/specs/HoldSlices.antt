-- The text of a hold of a mutex: a slice on the mutex's track, named by the thread that holds it.
use Rattle.std.specs.Prelude.{ℕ, ◌+◌, ◌-◌, ◌++◌, [], List, codes, decimal, max, nat_lt, Option, Some, None, if◌then◌else◌}
use Rattle.dk_config.specs.declared.TheConstants.{MAX_MUTEXES}
use Rattle.dk_trace.specs.declared.ThreadId.{ThreadId}
use Rattle.dk_trace.specs.declared.Entry.{Entry}
use Rattle.dk_ledger.specs.declared.line.LedgerLine.{LedgerLine}
use Rattle.dk_ledger.specs.Heading.{Heading}
use Rattle.dk_ledger.specs.LineText.{thread_text}
use Rattle.dk_groups.specs.Below.{texts_below}
use Rattle.dk_holds.specs.declared.holding.Holding.{Holding}
use Rattle.dk_holds.specs.Holds.{ended, holding, last_entry}
use Rattle.dk_trace_events.specs.declared.tracks.Track.{Track}
use Rattle.dk_trace_events.specs.Slices.{place_text}

-- each mutex has a track, in a process of their own
abbrev pub mutex_track : ℕ → Track
mutex_track m = record { pid = 2; tid = 30 + m }

abbrev pub mutex_name : ℕ → List ℕ
mutex_name m =
    codes "{\"args\":{\"name\":\"mutex " ++ decimal m ++ codes "\"},\"name\":\"thread_name\",\"ph\":\"M\""
    ++ place_text (mutex_track m) ++ codes "},\n"

-- mutex m is held by the thread from tick `first` up to before tick `last`
abbrev pub hold_slice : Heading → ℕ → ThreadId → ℕ → ℕ → List ℕ
hold_slice h m x first last =
    codes "{\"args\":{\"mutex\":" ++ decimal m ++ codes "},\"cat\":\"hold\",\"dur\":" ++ decimal (last - first)
    ++ codes ",\"name\":\"" ++ thread_text h x ++ codes "\",\"ph\":\"X\"" ++ place_text (mutex_track m) ++ codes ",\"ts\":"
    ++ decimal first ++ codes "},\n"

-- of a hold that goes on up to before tick `last`, what is shown: its ticks from `from` on
abbrev pub hold_text : Heading → ℕ → ℕ → ℕ → Option Holding → List ℕ
hold_text h from last m None = []
hold_text h from last m (Some x) =
    if nat_lt (max x.since from) last then hold_slice h m x.thread (max x.since from) last else []

abbrev pub mutex_names : List ℕ
mutex_names = texts_below mutex_name MAX_MUTEXES

-- the holds that the line ends behind a past: its last tick is theirs
abbrev pub ended_holds : Heading → ℕ → List Entry → LedgerLine → List ℕ
ended_holds h from past l =
    texts_below (λ m. hold_text h from (l.start + l.count) m (ended m (last_entry l) (holding m past))) MAX_MUTEXES

-- the holds that go on behind a past, up to the range's end
abbrev pub open_holds : Heading → ℕ → ℕ → List Entry → List ℕ
open_holds h from to past = texts_below (λ m. hold_text h from to m (holding m past)) MAX_MUTEXES
