-- What the tables are asked.
use Rattle.std.specs.Prelude.{ℕ, List, ◌∷◌, length, filter, slice_get, Option, option_map}
use Rattle.dk_config.specs.Configuration.{Configuration}
use Rattle.dk_trace.specs.declared.ThreadId.{ThreadId}
use Rattle.dk_trace.specs.declared.Phase.{Phase}
use Rattle.dk_trace.specs.declared.Label.{Label}
use Rattle.dk_trace.specs.declared.Entry.{Entry}
use Rattle.dk_trace.specs.Entries.{quiet}
use Rattle.dk_trace.specs.Threads.{threads}
use Rattle.dk_trace.specs.Audit.{Audited}
use Rattle.dk_rail.specs.Queues.{queue_at}
use Rattle.dk_ready.specs.Roster.{left_on, seat_at, told_phase}
use Rattle.dk_recount.specs.Tables.{Tables, node_in}
use Rattle.dk_recount.specs.Recount.{IsReady, IsCharged, IsBooked, is_ready}

-- The entries that the tables tell of: those of the past before the tick's charge, with the tick's entry without its
-- event once it is charged, and with it whole once that is booked and follows the rules.
pub data TellsOf (d : Tables) : Configuration → List Entry → Type 0 where
  ready : {c : Configuration} {past : List Entry} → IsReady c past d → TellsOf d c past
  charged : {c : Configuration} {label : Label} {past : List Entry} → IsCharged c label past d
      → TellsOf d c (quiet label ∷ past)
  booked : {c : Configuration} {e : Entry} {past : List Entry} → IsBooked c e past d → Audited c (e ∷ past)
      → TellsOf d c (e ∷ past)

-- the ticks that the thread has left of its share
abbrev pub rem_in : Tables → ThreadId → ℕ
rem_in d x = left_on d.jobs (node_in d.threads x)

-- the part of its share that the thread's next tick belongs to, where something is left
abbrev pub phase_in : Tables → ThreadId → Option Phase
phase_in d x = told_phase d.jobs.switch (seat_at d.jobs (node_in d.threads x)).job

-- the thread at that place of the ready queue of level k
abbrev pub ready_in : Tables → ℕ → ℕ → Option ThreadId
ready_in d k index =
    option_map (λ node. (seat_at d.jobs node).thread) (slice_get (queue_at d.jobs.ready.lists k) index)

-- and by the past: the one at that place of the threads of level k that have something left
abbrev pub ready_thread : Configuration → List Entry → ℕ → ℕ → Option ThreadId
ready_thread c past k index =
    option_map (λ x. x.id) (slice_get (filter (is_ready c (length past) past k) (threads c past)) index)
