-- The words of a slice: what its ticks were for, who paid for them, and on which track they stand.
use Rattle.std.specs.Prelude.{ℕ, ◌+◌, ◌*◌, List, codes}
use Rattle.dk_trace.specs.declared.ThreadId.{ThreadId}
use Rattle.dk_trace.specs.declared.Label.{Label}
use Rattle.dk_entry_words.specs.Parted.{parted}
use Rattle.dk_entry_words.specs.Works.{work_words}
use Rattle.dk_trace_events.specs.declared.tracks.Track.{Track}

-- the label without its thread
abbrev pub word_text : Label → List ℕ
word_text label = parted 32 (work_words label)

abbrev pub category : Label → List ℕ
category (Label.Kernel j) = codes "kernel"
category (Label.In x) = codes "budget"
category (Label.Run x) = codes "budget"
category (Label.Call x) = codes "budget"
category (Label.Out x) = codes "budget"
category (Label.Slack x source work) = codes "slack"
category Label.Idle = codes "idle"

abbrev pub thread_track : ThreadId → Track
thread_track x = record { pid = 100 + x.process; tid = 100 + x.process + 1000 * x.serial }

-- Each thread has a track, the kernel has one, and so have the ticks of nobody.
abbrev pub track_of : Label → Track
track_of (Label.Kernel j) = record { pid = 1; tid = 1 }
track_of (Label.In x) = thread_track x
track_of (Label.Run x) = thread_track x
track_of (Label.Call x) = thread_track x
track_of (Label.Out x) = thread_track x
track_of (Label.Slack x source work) = thread_track x
track_of Label.Idle = record { pid = 1; tid = 2 }
